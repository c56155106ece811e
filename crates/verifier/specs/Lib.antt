-- The definitions that the contracts of the verifier cite.
pub mod Limits
pub mod Typable
pub mod Accepted
pub mod Faults
pub mod Verdicts
pub mod Verifying
pub mod LeastTables
pub mod LoadFaults
pub mod Loading
