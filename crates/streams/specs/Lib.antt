pub mod Input
pub mod Output
pub mod OutputLaws
pub mod Parts
pub mod Session
