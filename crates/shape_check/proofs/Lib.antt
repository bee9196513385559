pub mod Facts
mod Seen
mod LookLemmas
mod MarkLemmas
mod LoopLemmas
mod ListLemmas
mod IdLemmas
mod FileLemmas
mod FolderLemmas
mod OrderLemmas
mod ShapeLemmas
mod Unbroken
