-- Laws of sorting, and of the audit that every engine shares.
pub mod Below
pub mod Steps
pub mod Rules
pub mod Masks
pub mod Tabled
pub mod Sweeps
pub mod Audits
