pub mod Facts
mod Items
mod WorkerLemmas
mod WorkersTogether
mod JoinedOutcome
