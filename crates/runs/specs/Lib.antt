-- The reference: a run that asks for one merit at a time, and the three kinds of run from a job alone.
pub mod Run
pub mod Zeros
pub mod DampedRun
pub mod MultiStartRun
pub mod AnnealingRun
pub mod JobRun
-- The row: what it holds between two merits, what it stands for, when it is damaged, what it does not use, and a turn.
pub mod State
pub mod DampedRow
pub mod DampedResumption
pub mod MultiStartRow
pub mod AnnealingRow
pub mod Rows
pub mod Resumption
pub mod Damage
pub mod Unused
pub mod ZeroEntries
pub mod Cleared
pub mod JobMerit
pub mod Turn
-- Laws: a row stands where its job's run stands (1 to 4), also when it is turned again and again.
-- How long runs take and what holds at their ends; shorter runs as beginnings of longer ones; trials and a walk whose
-- best counts; how a walk cools; runs, and draws, that are known.
-- Undamaged rows stay undamaged (5), the causes of damage, what is pending passes check 3, and unused entries are zero (6).
-- A request that is not refused makes a job for which they hold.
-- Request 14: a damped job under one limit and another.
pub mod Shorter
-- Request 6: an overflowed total is never accepted.
-- A row after so many turns, and what results are held to.
pub mod RowAfter
pub mod Outcomes
