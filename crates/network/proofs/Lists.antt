-- Lists: the ring of specs/, whose nodes and channels are lists; the test for a sound ring as facts, and each call as a step of the
-- theory; an entry or a move that is tried, and two of them in either order.
pub mod Way
pub mod Tables
pub mod Clauses
pub mod Outcomes
pub mod Accepted
pub mod Before
pub mod Bridge
pub mod Tries
pub mod Commute
