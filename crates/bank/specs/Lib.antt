pub mod Exported
pub mod Making
pub mod Ordering
pub mod Stepping
