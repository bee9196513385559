pub mod Facts
mod Left
mod Looking
mod Migrating
mod Reading
mod Starting
mod Writers
mod Ends
mod Packing
mod Rising
mod Finding
mod Choosing
mod Listed
mod Earlier
mod Closing
mod Showing
mod Counting
