mod Actions
mod Greatest
mod Modules
mod Limits
