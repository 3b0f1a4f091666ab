-- The tables, what it is to apply one, and what request 4 says of them.
pub mod Table
pub mod Apply
pub mod Jump
pub mod Drawn
-- The rule of the whole table, computed once, in sums.
pub mod Lanes

-- A draw is linear over bits and can be taken back; so the rule gives every table.
