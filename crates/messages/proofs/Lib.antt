-- The laws of tests and their loops, of cells that are zero, and of the pass over the rows: what was met, and where it may stand.
pub mod Decides
pub mod Loops
pub mod Zeros
pub mod RowPass
pub mod UsedCells
pub mod RowsMet
pub mod OnTheWay
