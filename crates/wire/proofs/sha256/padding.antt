-- The lemmas of `sha256::padding`.
pub mod Padded
