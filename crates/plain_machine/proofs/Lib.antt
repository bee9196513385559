mod Pieces
mod Working
mod Together
mod Filling
mod Naming
