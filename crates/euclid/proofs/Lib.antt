pub mod Bezout
