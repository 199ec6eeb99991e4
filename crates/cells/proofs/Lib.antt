-- General laws that every crate cites, and the cell store's.
pub mod Causes
pub mod Cases
pub mod Lists
pub mod Sums
pub mod Chains
pub mod Memory
pub mod Places
pub mod Rows
pub mod Known
pub mod Fresh
pub mod Claims
pub mod Stacks
pub mod StackTable
pub mod Used
pub mod Framed
