-- The names that are lent in a list.
pub use Rattle.pgo_syntax.specs.PlacedNames.{lent_names as lent}
