mod Ended
mod Keeping
mod Order
