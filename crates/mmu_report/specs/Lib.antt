pub mod Covered
pub mod Utilisation
