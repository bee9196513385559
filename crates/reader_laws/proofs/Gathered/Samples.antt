-- Histories that meet the premises of the laws.
pub mod PackSample
pub mod Sample
pub mod SampleReader
pub mod SampleSteps
