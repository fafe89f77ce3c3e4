-- What hops between two nodes are: by remainders, and 0 where there is no such node.
pub mod Hops
