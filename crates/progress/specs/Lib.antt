pub mod Counts
pub mod Delivery
pub mod Operations
pub mod Progress
pub mod Verdicts
