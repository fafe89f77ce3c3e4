-- The definitions that the contracts of the text cite, and the statements about them.
pub mod Digits
pub mod Fields
pub mod Appends
