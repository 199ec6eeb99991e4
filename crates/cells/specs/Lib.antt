-- The words in which the other crates' statements are put, and the cell store's.
pub mod Lists
pub mod Words
pub mod Causes
pub mod Store
pub mod Stack
pub mod Rules
