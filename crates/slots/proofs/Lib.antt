-- Laws of the slots' lists.
pub mod MarkDigits
pub mod Linking
pub mod Relinking
pub mod OneRing
pub mod Binary
pub mod Changing
pub mod AllRings
pub mod Standing
pub mod Framing
