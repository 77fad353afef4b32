-- The figures from their parts (PartLaws), and how large they can be (FigureSizes).
pub mod PartLaws
pub mod FigureSizes
