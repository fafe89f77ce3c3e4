-- The laws of the calls of this crate.
pub mod Offers
pub mod Withdrawals
