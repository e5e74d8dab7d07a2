pub mod Chunks
pub mod Writes
pub mod Rooms
pub mod Fills
