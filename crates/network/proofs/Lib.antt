-- The proofs about the definitions of specs/, in an order in which each group stands on those before it.
pub mod Worked
pub mod Ground
pub mod Theory
pub mod Lists
pub mod Memory
pub mod Promises
