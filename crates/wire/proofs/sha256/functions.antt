-- The lemmas of `sha256::functions`.
pub mod Bits
pub mod Rotations
