-- What the contracts of writer cite.
pub mod Writers
pub mod Cursor
pub mod Vendor
pub mod Firmware
pub mod Parts
pub mod Theorems
