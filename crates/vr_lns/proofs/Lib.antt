pub mod LeftLemmas
pub mod ChainLemmas
pub mod CutLemmas
pub mod RoundLemmas
pub mod BoundLemmas
pub mod SearchLemmas
pub mod AnswerLemmas
pub mod RoundGave
