mod Clients
pub mod EditLemmas
pub mod SoFar
