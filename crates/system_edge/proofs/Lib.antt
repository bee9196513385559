mod FolderPaths
mod Holders
mod Left
mod Remembering
mod Texts
