pub mod Scanned
pub mod Scanning
