-- What a rule-set file is.
pub mod Limits
pub mod Faults
pub mod Encode
pub mod Rules
pub mod Reading
pub mod Parse
pub mod Laws
pub mod Examples
