-- The definitions that the contracts of the report cite, and the statements of the theorems about them.
pub mod Line
pub mod Put
pub mod Examples
