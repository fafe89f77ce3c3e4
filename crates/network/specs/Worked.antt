-- Worked: rings, runs and tables that are written out, held against the definitions; and the dummies, which the promises rule out.
pub mod Edges
pub mod Withdrawals
pub mod BlankEnds
pub mod Hundredths
pub mod Rounds
pub mod Pairs
pub mod Dummies
