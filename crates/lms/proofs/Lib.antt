pub mod Hashing
pub mod Laying
pub mod Values
pub mod Chains
pub mod Climbing
pub mod Tested
pub mod KeyFor
