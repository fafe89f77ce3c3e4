-- The worked tables and rings first, so that a wrong definition is told by them; then the table, then the ring.
pub mod ComputedTables
pub mod ComputedRings
pub mod Cells
pub mod TablePassed
pub mod TablePromises
pub mod RingBytes
pub mod RingTurned
pub mod RingPromises
