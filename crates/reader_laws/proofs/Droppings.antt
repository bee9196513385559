-- Who runs the program of a share has gathered its droppings.
pub mod Checking
pub mod PackFacts
pub mod PackRuns
pub mod Pieces
pub mod Shares
pub mod Tails
