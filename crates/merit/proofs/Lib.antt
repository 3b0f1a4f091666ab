pub mod ValueLaws
pub mod EvaluationLaws
pub mod OverflowLaws
pub mod CheckLaws
pub mod CallLaws
pub mod UsedLaws
pub mod Unrefused
