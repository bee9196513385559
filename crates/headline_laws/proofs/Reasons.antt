-- For which reasons statements are refused.
pub mod Along
pub mod Asking
pub mod Busy
pub mod Containers
pub mod Flattening
pub mod Goes
pub mod Holds
pub mod Lacking
pub mod Looks
pub mod Missing
pub mod Opening
pub mod OpenWriters
pub mod Recovering
pub mod Statements
pub mod Told
pub mod Unready
pub mod Writers
