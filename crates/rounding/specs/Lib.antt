pub mod Nearest
pub mod HalfEven
pub mod Signed
pub mod OnePair
