mod Cutting
mod Moving
mod Order
mod Spelling
