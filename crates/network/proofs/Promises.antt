-- Promises: what specs/ states of each call and of every run of calls, demand 3 of the ring, of the ring in memory and of code, the same of
-- the dispatcher and of runs with it, the dummies, the edges, the worked lists of withdrawals, the blanks at the ends of names, tenths and
-- hundredths, the worked rounds, and entries and moves that commute.
pub mod Run
pub mod Machine
pub mod Demand
pub mod Tried
pub mod Acts
pub mod Dispatch
pub mod Answers
pub mod Promise
pub mod DemandActs
pub mod Dispatcher
pub mod Dummies
pub mod Edges
pub mod Withdrawals
pub mod BlankEnds
pub mod Hundredths
pub mod Rounds
pub mod Commute
