pub mod LmOts
pub mod Lms
