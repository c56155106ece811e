-- The refusals of the writer, the records that it goes over, what its files give back, and how long they can be.
pub mod Faults
pub mod Numbers
pub mod Records
pub mod Reading
pub mod Longest
