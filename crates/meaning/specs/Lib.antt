-- What both engines mean, from document 01: the plain list, the refusals, every call, and the heap's steps.
pub mod Entries
pub mod Plain
pub mod Arranged
pub mod Refusals
pub mod Calls
pub mod Runs
pub mod Heap
pub mod Kept
pub mod Handed
pub mod Becomes
