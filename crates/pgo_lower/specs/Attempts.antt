-- What names are in an attempt.
use Rattle.std.specs.Prelude.{map, None}
use Rattle.pgo_model.specs.Core.{number_among}
use Rattle.pgo_accesses.specs.Accesses.{Attempt}
use Rattle.pgo_lower.specs.Lowered.{Tables, target_of}

abbrev pub tables_at : Attempt → Tables
tables_at a = record {
  targets = map (λ p. (p.0, target_of (λ g. number_among a.resources (g, None)) p.1)) a.places;
  whole = λ g. number_among a.resources (g, None);
  by_element = a.by_element;
}
