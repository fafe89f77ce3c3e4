-- The definitions that the contracts cite, and the statements of the theorems.
pub mod Shape
pub mod Table
pub mod Tape
pub mod RoundTrip
pub mod SendExample
