pub mod Verdicts
pub mod Truth
pub mod VerdictText
