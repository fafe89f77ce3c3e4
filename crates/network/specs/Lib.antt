-- The ring of document 01 in antt: what it is, when it is sound, what each call does, and what is promised of a run of calls.
-- Read in this order: Network, Sound with Way, Calls, Runs, Demand, Dispatch; then Layout, which says how a ring is held in memory, Promise,
-- Dispatcher and Commute.
pub mod Counting
pub mod Network
pub mod Sound
pub mod Way
pub mod Calls
pub mod Runs
pub mod Demand
pub mod Dispatch
pub mod Layout
pub mod Answers
pub mod Promise
pub mod Dispatcher
pub mod Commute
pub mod Worked
