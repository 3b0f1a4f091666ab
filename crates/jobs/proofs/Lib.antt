pub mod SameLaws
pub mod RecordLaws
pub mod UnusedLaws
pub mod CheckLaws
