mod Apart
mod Scans
