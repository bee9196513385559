mod Grown
mod Patterns
