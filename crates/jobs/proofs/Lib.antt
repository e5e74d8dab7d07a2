pub mod Making
pub mod Standing
pub mod Running
pub mod Enumerating
pub mod Latest
pub mod Sounding
pub mod Promising
