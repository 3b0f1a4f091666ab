-- What the functions compute: `Kinds` one variable, `Active` which are enabled and their order, `Values` the values of a set, `Taken` refusals 4 and 17.
pub mod Kinds
pub mod Active
pub mod Values
pub mod Taken

-- Laws for callers: lengths and entries; the parts of checks 4 and 17; surfaces that check 3 takes stay so.
-- Without followers applying is the original's; what minus does to a radius.
-- Steps of the proofs.
