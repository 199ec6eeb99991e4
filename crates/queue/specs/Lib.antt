-- The ready queue's model, when that means a plain list, when head and words show it, and what the calls promise.
pub mod Model
pub mod Means
pub mod Shows
pub mod Answers
pub mod Promise
pub mod Cells
pub mod Rules
pub mod SetUps
pub mod AuditTests
