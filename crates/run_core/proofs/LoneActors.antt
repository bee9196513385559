-- An actor that plays by itself.
pub mod LoneBreaks
pub mod LonePlays
pub mod LoneSteps
pub mod LoneWorks
