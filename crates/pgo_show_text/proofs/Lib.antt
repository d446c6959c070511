mod Likeness
mod Counted
mod Lists
mod Heads
mod States
mod Instances
mod Walks
