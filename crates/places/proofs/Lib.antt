-- The laws of ticks, digits and counts, and the proofs of the functions.
pub mod Numbers
pub mod Digits
pub mod Levels
pub mod Wakes
pub mod Counts
pub mod Cascades
pub mod Spans
