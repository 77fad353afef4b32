-- What stands before a part of the walk, the arrays that the parts fill, and how they refuse.
pub mod Heads
pub mod Arrays
pub mod Refusing
