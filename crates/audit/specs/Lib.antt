pub mod Calling
pub mod Comparing
pub mod Judging
pub mod Log
pub mod Own
pub mod Reading
pub mod Replaying
pub mod Window
