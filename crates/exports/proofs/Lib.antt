pub mod LensLaws
pub mod ByRecord
pub mod AnyRecord
