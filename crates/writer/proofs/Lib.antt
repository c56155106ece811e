-- Lemmas on what a pen did, and on the tables that it went over.
mod Exits
mod Counted
mod Programs
mod ReadBack
mod Sizes
mod Longest
