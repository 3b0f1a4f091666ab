pub mod SameLaws
pub mod Equal
pub mod Itself
pub mod FloatItself
