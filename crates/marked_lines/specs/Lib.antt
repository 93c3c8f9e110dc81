pub mod Escaping
pub mod Places
