-- The wheel's model, an advance in lent words, and when these show a model.
pub mod Joined
pub mod Turns
pub mod Shows
pub mod Records
pub mod Lent
