-- What accepting shows.
pub mod Facts
pub mod ValuedLaws
pub mod SumLaws
pub mod LoneLaws
