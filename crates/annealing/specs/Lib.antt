pub mod WalkFrom
