mod Order
mod Reading
mod Wanting
mod Windows
mod Writing
