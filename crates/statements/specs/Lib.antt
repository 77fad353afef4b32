-- What the rules say of the printed lines, beside the contracts; that both engines give the same; and the figures worked by hand.
pub mod LinesOf
pub mod Statements
pub mod Engines
pub mod Figures
