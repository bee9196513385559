pub mod Answering
pub mod Closing
pub mod Exchange
pub mod Running
pub mod Words
