-- Laws of the definitions in specs/: a line put into a buffer, the lines to come, their counts, and a run line by line.
pub mod Put
pub mod Lines
pub mod Counts
pub mod SoFar
pub mod TapeRun
