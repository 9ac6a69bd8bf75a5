-- The lemmas of `sha256::rounds`.
pub mod Schedule
