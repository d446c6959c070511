pub mod Spellable
