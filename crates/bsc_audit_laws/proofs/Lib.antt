pub mod AnyOrder
pub mod OneVerdict
