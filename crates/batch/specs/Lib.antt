pub mod Good
pub mod Blank
pub mod Sending
pub mod Same
