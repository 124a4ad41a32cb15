mod Gives
mod Inside
