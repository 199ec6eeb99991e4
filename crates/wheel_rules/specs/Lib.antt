-- The rules of the wheel's audit, its tests, and when lists and numbers show a model.
pub mod Rules
pub mod AuditTests
pub mod Spans
pub mod Shown
