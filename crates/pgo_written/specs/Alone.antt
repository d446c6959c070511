-- Which texts spell one module alone.
pub use Rattle.pgo_module_spells.specs.Spells.{SpellsAlone}
