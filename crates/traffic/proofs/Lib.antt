-- The laws of the calls of this crate.
pub mod Entries
pub mod Move
