mod Printing
mod Telling
mod Verdicts
mod WordLemmas
