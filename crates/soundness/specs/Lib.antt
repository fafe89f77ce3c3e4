-- What the test for a sound ring decides.
pub mod Fits
