-- Lists of cells in lent words.
pub mod Rings
pub mod Stand
pub mod Held
