-- The words in which the promises are put.
pub mod Demand3
pub mod Rounds
pub mod Refusals
pub mod Handles
pub mod Tickets
pub mod Fires
pub mod Bounds
pub mod Made
pub mod QueueRuns
pub mod WheelRuns
