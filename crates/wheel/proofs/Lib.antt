-- Laws of the wheel.
pub mod CallsShown
pub mod Promised
pub mod WakeShown
pub mod AdvanceShown
pub mod Checking
pub mod Outcomes
pub mod AdvanceOutcome
pub mod SetUpShown
