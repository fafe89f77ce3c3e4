pub mod Answers
pub mod Commands
pub mod RoundTrip
pub mod Tables
