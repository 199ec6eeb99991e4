-- Laws of the queue's script.
pub mod Ranges
pub mod Speaking
pub mod Opening
