pub mod Arrays
pub mod Beginning
pub mod Handing
pub mod Leaving
pub mod Messages
pub mod Roles
pub mod Stepping
pub mod Viewing
