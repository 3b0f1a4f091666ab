pub mod CallLaws
pub mod IntervalLaws
pub mod Contained
pub mod TakenLaws
pub mod WithinLaws
