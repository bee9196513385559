pub mod Checked
pub mod Complaints
pub mod Listable
