-- What the shared audit tests, by one pass over the cells with tables.
pub mod AuditTests
pub mod Tables
pub mod Sweeping
pub mod Verdicts
