-- Laws about plain numbers that the crates above share.
pub mod Splits
