mod BracketLemmas
pub mod Facts
mod PlanLemmas
mod RangeLemmas
mod StepLemmas
