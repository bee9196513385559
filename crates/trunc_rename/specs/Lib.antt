pub mod Holding
pub mod Tops
pub mod Truncating
pub mod TruncateStages
pub mod Renaming
pub mod RenameStages
