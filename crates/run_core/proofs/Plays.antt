-- All players, turn after turn and phase after phase.
pub mod BrokenPlays
pub mod Dealing
pub mod Finishing
pub mod Phases
pub mod Rounds
pub mod Tables
