pub mod Calls
pub mod Ordering
