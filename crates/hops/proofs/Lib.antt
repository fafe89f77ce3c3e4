-- What belongs to no one function: the laws of hops, for other crates too, and a case split.
pub mod Laws
mod CaseSplits
