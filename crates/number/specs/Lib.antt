-- What numbers of a file are, and what reading and putting them means.
pub mod Faults
pub mod Numbers
pub mod Places
pub mod Signed
pub mod Puts
pub mod Forms
pub mod Laws
