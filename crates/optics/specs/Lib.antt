-- The lens: its values (`Types`), the trace (`Curvature`, `Trace`), what follows from it (`Properties`), refusal 3 (`Check`), surfaces laid flat (`Flat`,
-- `Laid`); and laws on these for callers.
pub mod Types
pub mod Curvature
pub mod Trace
pub mod Properties
pub mod Check
pub mod Flat
pub mod Laid
pub mod CheckLaws
pub mod TraceLaws
pub mod FlatLaws
pub mod Kept
pub mod KeptLaws
