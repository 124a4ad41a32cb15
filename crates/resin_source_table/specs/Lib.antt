pub mod Parity
