pub mod Live
pub mod LiveMeter
pub mod Order
pub mod Utilisation
pub mod Waits
pub mod Report
pub mod Bars
pub mod Objects
