-- Merit and residuals out of the values: under operands (`Over`), and under a held job, as the contracts have it (`HeldOver`).
pub mod Over
pub mod HeldOver
