-- The loop over lines (`Going`), and what is said of it with the program left out (`Forgotten`).
pub mod Forgotten
pub mod Going
