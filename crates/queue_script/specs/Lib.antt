-- The queue's script: its commands, its answer lines, what a command does, and where a run stands.
pub mod Commands
pub mod Texts
pub mod Spoken
pub mod Runs
