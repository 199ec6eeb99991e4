-- The wheel's script: its commands, its answer lines, and where a run stands.
pub mod Commands
pub mod Texts
pub mod Spoken
pub mod Runs
