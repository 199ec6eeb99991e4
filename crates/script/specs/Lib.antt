-- The line grammar and the answer lines of the script programs, and where a run of one stands.
pub mod Grammar
pub mod Steps
pub mod Answers
pub mod Pages
pub mod Chunks
pub mod Sessions
