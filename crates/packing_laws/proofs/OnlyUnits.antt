-- Callers and mountings leave a container of only units so.
pub mod Alone
pub mod Looking
pub mod Mounted
pub mod Opening
pub mod SeenUnits
