pub mod Facts
mod Carrying
mod Doings
mod OneMachine
mod Working
mod Making
mod Gatherings
mod Handings
mod Tellings
mod NameLemmas
mod WriterOwing
mod ReaderOwing
mod NameOwing
mod Owing
mod Along
mod NoLine
