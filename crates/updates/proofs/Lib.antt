-- The laws that the proofs of the calls share.
pub mod RowChanges
pub mod Records
pub mod Lines
pub mod FlatLaws
pub mod Openings
pub mod Messages
pub mod Reading
