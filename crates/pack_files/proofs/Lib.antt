mod Chunks
mod FirstKeys
mod Keying
