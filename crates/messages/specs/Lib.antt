-- What the tests of the cells and the messages decide.
pub mod Decides
pub mod Messages
