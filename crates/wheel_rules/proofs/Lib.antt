-- Laws of the wheel's rules: the tests decide them, and memory keeps them exactly if it shows a model, which has one memory.
pub mod Masks
pub mod ShownSound
pub mod Gathered
pub mod SoundShown
pub mod OneMemory
pub mod Rising
pub mod ListSpans
pub mod Walks
pub mod Noting
pub mod AuditSteps
pub mod Counting
pub mod Climbing
pub mod Listed
pub mod Audits
