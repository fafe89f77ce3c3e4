-- The laws of the definitions, for other crates too: the table of places, a name's cells, a good record.
pub mod Places
pub mod Name
pub mod Good
pub mod Temperatures
pub mod Blank
pub mod Same
