-- The changes of a ring in memory, what is known where they are made, and how a call opens.
pub mod Flat
pub mod Known
pub mod Openings
