-- Lists made by a rule (`Tab`), also by a closure (`Made`), tests over a count (`All`), parts of a list that are written (`Parts`), a list filled as far as
-- some entry (`Filled`), entries in use (`Kept`), and refusals (`Refusals`).
pub mod Tab
pub mod All
pub mod Parts
pub mod Filled
pub mod Made
pub mod Kept
pub mod Refusals
