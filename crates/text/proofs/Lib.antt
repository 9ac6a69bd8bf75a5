pub mod Decimals
pub mod Lines
pub mod Pairs
pub mod Putting
pub mod Timestamps
