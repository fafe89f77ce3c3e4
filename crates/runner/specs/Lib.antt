-- The definitions that the contracts of the tape's run cite, and the statements of the theorems about them.
-- Read in this order: Session, Listing; then Run, which says what a run into a lent buffer does.
pub mod Session
pub mod Listing
pub mod Run
pub mod TapeRun
