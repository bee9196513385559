-- What the words of one line say, and the first of their faults.
pub mod DeclarationLemmas
pub mod FirstKinds
pub mod KindLemmas
pub mod LayoutLemmas
pub mod LineLemmas
pub mod MeaningLemmas
pub mod StatementLemmas
pub mod VerbLemmas
pub mod WordTests
