mod Records
mod Tallies
