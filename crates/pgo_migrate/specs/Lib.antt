pub mod Migrates
