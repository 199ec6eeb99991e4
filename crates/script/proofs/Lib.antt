-- Laws of the line grammar, of reading and of writing.
pub mod LineTable
pub mod Pieces
pub mod Fields
pub mod Lines
pub mod LineSteps
pub mod Chunked
pub mod Carrying
pub mod Laying
pub mod Decimals
pub mod RoundTrip
pub mod WordNumbers
