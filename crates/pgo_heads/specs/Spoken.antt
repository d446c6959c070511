-- Of the mapping clauses that speak of an argument, the first, and whether there are more.
use Rattle.std.specs.Prelude.{ℕ, Bool, not, ◌||◌, if◌then◌else◌, List, [], ◌∷◌, Option, Some, None, option_map, is_some}
use Rattle.std.specs.BTreeMap.{BTreeMap}
use Rattle.pgo_base.specs.Lookup.{Name}
use Rattle.pgo_syntax.specs.declared.archetype.Extent.{Extent}
use Rattle.pgo_syntax.specs.declared.bound.Mapping.{Mapping}
use Rattle.pgo_syntax.specs.declared.bound.Mapping.TheVariants.{Macro}
use Rattle.pgo_base.specs.declared.name_map.NameMap.{NameMap}
use Rattle.pgo_syntax.specs.declared.process.MappingClause.{MappingClause}
use Rattle.pgo_syntax.specs.declared.spec.Spec.{Spec}
use Rattle.pgo_bound.specs.Runs.{mapping_named, mapping_without}
use Rattle.pgo_heads.specs.NameMaps.{found, numbered}
use Rattle.pgo_heads.specs.Refusals.{same_extent, clause_extent}
use Rattle.pgo_heads.specs.declared.mapping_clauses.Spoken as code_spoken

abbrev pub first_of : List MappingClause → Option (MappingClause × Bool)
first_of [] = None
first_of (c ∷ cs) = Some (c, is_some (first_of cs))

-- the same, of a clause before others
abbrev pub one_more : Bool → MappingClause → Option (MappingClause × Bool) → Option (MappingClause × Bool)
one_more b c o = if b then Some (c, is_some o) else o

abbrev pub spoken_view : code_spoken.Spoken → MappingClause × Bool
spoken_view s = (s.first.now, s.several)

-- under a number, and under a name
abbrev pub clauses_at : BTreeMap ℕ code_spoken.Spoken → ℕ → Option (MappingClause × Bool)
clauses_at m n = option_map spoken_view (numbered m n)

abbrev pub clauses_under : NameMap code_spoken.Spoken → Name → Option (MappingClause × Bool)
clauses_under m x = option_map spoken_view (found m x)

-- there are several, or the one speaks of another extent, or b
abbrev pub is_badly_spoken : Extent → Bool → Option (MappingClause × Bool) → Bool
is_badly_spoken e b None = b
is_badly_spoken e b (Some p) = p.1 || (not (same_extent (clause_extent p.0.target) e) || b)

-- what they make of an argument
abbrev pub mapping_by_first : Spec → Extent → Option (MappingClause × Bool) → Option Mapping
mapping_by_first s e None = mapping_without e
mapping_by_first s e (Some p) = option_map Macro (mapping_named p.0.mapping.name s.mappings)
