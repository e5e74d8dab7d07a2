mod Hexes
mod Cells
mod Replying
mod Opening
