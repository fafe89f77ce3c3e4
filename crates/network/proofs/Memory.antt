-- Memory: the ring laid out in bytes, rows of cells, a ring laid out and read off again, and each change of a ring as it shows in its bytes.
pub mod Rows
pub mod Held
pub mod Changes
