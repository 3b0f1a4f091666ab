-- The bench: 01's plain book (`Book`), what each call does to a bench (`Calls`), the statement that the two agree (`Theorem`), and its proof (`Proved`).
pub mod Refusals
pub mod Order
pub mod Dealing
pub mod Book
pub mod Benches
pub mod Calls
pub mod Limits
pub mod Theorem
pub mod OrderLaws
