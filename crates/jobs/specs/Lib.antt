-- Jobs: what is left out and filled in (`Defaults`, `Filled`), what is kept (`Kept`), the same in numbers (`Entries`, `Records`), what is turned down
-- (`Checks`), and when two requests ask for one job (`Same`).
pub mod Defaults
pub mod Filled
pub mod Kept
pub mod Entries
pub mod Records
pub mod Checks
pub mod Same
pub mod Unused
-- Laws: one job exactly for the same request; record and job are one to one; each number has its cause; unused entries are zero, and change no answer.
pub mod Counts
pub mod RefusalLaws
pub mod Passed
-- The lens of the known values, and a request over it for each kind of run.
pub mod Sample
