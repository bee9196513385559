-- What the lines of a play tell, and that they are right.
pub mod Caused
pub mod GoodLines
pub mod Rightness
pub mod WorksCaused
pub mod WorksText
