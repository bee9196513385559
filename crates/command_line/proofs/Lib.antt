mod Answering
mod Leaves
mod Parsing
mod Spelling
mod Taking
mod Walking
