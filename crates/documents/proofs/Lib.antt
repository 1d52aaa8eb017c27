mod Bytes
mod Faults
mod Members
mod Values
