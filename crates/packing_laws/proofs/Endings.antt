-- How unpacking, naming and packing end in trouble.
pub mod Causes
pub mod Undamaged
