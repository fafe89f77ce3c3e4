-- What the contracts of the tape program's input cite.
pub mod Input
