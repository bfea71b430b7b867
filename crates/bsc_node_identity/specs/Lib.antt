pub mod Naming
pub mod Resolving
pub mod Carried
pub mod There
pub mod Npdus
