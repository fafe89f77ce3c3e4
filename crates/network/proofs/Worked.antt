-- Worked: what is computed of the ring apart from its layout. It stands before all that is shown, so that a wrong definition is told by its
-- example.
pub mod Deeds
pub mod AtTwoEnds
pub mod BlankEnds
pub mod Hundredths
pub mod Rounds
