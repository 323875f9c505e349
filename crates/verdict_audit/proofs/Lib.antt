pub mod ProofLemmas
pub mod CaseLemmas
pub mod EndLines
pub mod Within
pub mod JudgeLemmas
pub mod Accepted
pub mod OneFinding
