mod FormerLemmas
mod RefreshLemmas
mod AlikeLemmas
mod TroubleLemmas
mod StayLemmas
mod MadeLemmas
mod EndLemmas
pub mod WholeLemmas
mod PastLemmas
