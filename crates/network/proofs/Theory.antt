-- Theory: a started ring as tables, functions of a node or a channel number, with no list, no cell and no limit. Sound
-- rings stay sound, something is always accepted next, a number falls with every counted call, records keep their order, and entries and
-- moves alone come to an end.
pub mod State
pub mod Load
pub mod Weight
pub mod Kept
pub mod Away
pub mod Place
pub mod Count
pub mod Measure
pub mod Stall
pub mod Order
pub mod Todo
