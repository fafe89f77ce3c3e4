-- The laws that the proofs of the functions and of the theorems cite.
pub mod Numbers
pub mod Bytes
pub mod Twos
pub mod Buffer
pub mod Record
pub mod Good
