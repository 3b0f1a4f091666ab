-- That the square root is the nearest `f64` to the exact one: what that says, `Nearest`; that it holds, `NearestRoot`; that the
-- nearest is one, `OnlyNearest`; some of its values, `Examples`.
pub mod Nearest
-- Laws for callers: of the functions of `floats`, of the order of floats, and of the order through rounded operations.
pub mod CallerLaws
pub mod Order
pub mod Monotone
-- Steps of the proofs.
pub mod Fractions
pub mod Rounding
