mod Counting
mod Good
