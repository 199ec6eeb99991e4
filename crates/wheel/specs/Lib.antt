-- The wheel's answers, and what its calls promise.
pub mod Answers
pub mod Promise
pub mod SetUps
pub mod Refiled
