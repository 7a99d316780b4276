pub mod Uplink
