mod SameFile
mod Eights
mod Over
mod UsedLast
