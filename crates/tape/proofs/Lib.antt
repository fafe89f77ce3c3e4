-- The laws that the proofs of the functions and of the theorems cite.
pub mod Shapes
pub mod CommandTable
pub mod Cases
pub mod RoundTrip
pub mod SendExample
