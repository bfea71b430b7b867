mod WorkedResolving
pub mod Finding
pub mod OneMore
pub mod Following
