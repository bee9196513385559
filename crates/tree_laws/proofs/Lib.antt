mod Landed
mod Searched
mod Ledgers
mod Back
mod Broken
mod Unrefuted
mod Uncomplained
