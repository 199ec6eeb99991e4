-- Laws of the wheel's script.
pub mod Firing
pub mod Ranges
pub mod Speaking
pub mod Opening
