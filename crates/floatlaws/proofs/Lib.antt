-- The square root: the nearest `f64`, which is one, and std's.
pub mod NearestRoot
pub mod OnlyNearest
pub mod StdRoot
pub mod Examples
pub mod Risen
pub mod Signs
-- Steps of these.
pub mod NearestUnits
pub mod RootTwice
