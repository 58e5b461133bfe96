pub mod Addresses
pub mod Disks
