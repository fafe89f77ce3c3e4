-- The definitions that the contracts cite, and the statements of the theorems.
pub mod Bytes
pub mod Record
