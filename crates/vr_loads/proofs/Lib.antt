pub mod Totals
pub mod Carrying
pub mod LoadLines
pub mod ValueLemmas
pub mod KeptLemmas
pub mod PieceLemmas
