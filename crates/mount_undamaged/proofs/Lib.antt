pub mod Facts
mod Acting
mod Containers
mod Looking
mod Writers
mod Holding
mod Flattening
mod Recovering
mod Steps
