-- Laws that several functions' proofs cite.
pub mod Applying
pub mod Filling
pub mod CallerLaws
pub mod TakenLaws
pub mod Keeps
pub mod Followers
pub mod ActiveLaws
