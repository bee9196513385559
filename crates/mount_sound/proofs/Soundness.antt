-- What soundness says of rooms and writers, and that it is local.
pub mod Fitting
pub mod Frames
pub mod HasLanded
pub mod Items
pub mod Landing
pub mod Live
pub mod Local
pub mod Orders
pub mod RoomFrames
pub mod Tables
pub mod There
pub mod Trees
