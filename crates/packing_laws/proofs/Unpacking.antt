-- Who reads small files.
pub mod Behind
pub mod Ends
pub mod Facts
pub mod FirstBytes
pub mod OneFile
pub mod Naming
pub mod Openings
pub mod Scanning
pub mod Slices
pub mod Units
pub mod Unpacking
