-- The laws that the proofs of the dispatcher share.
pub mod Still
pub mod Log
pub mod Going
pub mod Course
