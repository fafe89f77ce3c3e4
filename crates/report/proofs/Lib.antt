-- The laws of the report: of a line that is put where there is room, and the lines that document 01 shows.
pub mod Room
pub mod Examples
