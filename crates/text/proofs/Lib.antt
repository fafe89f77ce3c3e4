-- The laws of the text: of its numbers, and of bytes that are appended.
pub mod Digits
pub mod Appends
