pub mod Inserted
pub mod Gathered
