-- Of a table: TurnedTable, with TableExamples. Of a ring: TurnedRing, with RingExamples. TablePass and RingPass have the code's own steps.
pub mod TurnedTable
pub mod TablePass
pub mod TableExamples
pub mod TurnedRing
pub mod RingPass
pub mod RingExamples
