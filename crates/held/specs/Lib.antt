-- A row as the bench holds it: where an entry stands (`Places`), the job and the row that it is read as (`JobFrom`, `RowFrom`), and how it is written
-- (`Written`).
pub mod Places
pub mod JobFrom
pub mod JobOf
pub mod RowFrom
pub mod Written
-- Laws: surfaces laid flat, held rows and rows are one to one; entries of the job.
pub mod Standing
pub mod EntryLaws
pub mod RowBack
pub mod WrittenLaws
