-- The lemmas that the proofs of `sha256` share.
pub mod HashBytes
pub mod Stores
