pub mod Reader
pub mod Fields
pub mod Nan
pub mod Numbers
pub mod Words
