pub mod Words
pub mod Joined
pub mod Places
