-- One player: how it comes to its next line, takes its turn, and is broken off.
pub mod Approaching
pub mod BrokenTurns
pub mod Capacity
pub mod Fitness
pub mod Leading
pub mod Turning
pub mod UnowedCalls
pub mod Works
