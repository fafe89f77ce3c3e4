-- What the parts of the dispatcher are asked and promise.
pub mod Log
pub mod Rounds
