pub mod Decimal
pub mod Hex
pub mod Line
pub mod Put
pub mod Timestamp
