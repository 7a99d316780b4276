pub mod Polynomial
