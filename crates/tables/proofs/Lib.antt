pub mod Ontos
pub mod Rows
pub mod Backs
pub mod Accepted
pub mod Saves
pub mod Creates
pub mod Wells
pub mod Returns
