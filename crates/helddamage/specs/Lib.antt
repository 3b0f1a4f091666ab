-- The arrays that the tests are not lent (`Others`), and what the tests amount to (`Verdicts`).
pub mod Others
pub mod Verdicts
