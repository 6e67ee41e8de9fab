pub mod Braces
pub mod Inside
pub mod Heads
pub mod Marks
