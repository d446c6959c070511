-- A name is in the map or among those that are left where it is among all.
use Rattle.std.proofs.Common.{◌≡◌, map, drop}
use Rattle.std.specs.Prelude.{◌||◌}
use Rattle.pgo_base.specs.Lookup.{Name}
use Rattle.pgo_model.specs.Names.{is_among}
use Rattle.pgo_heads.specs.NameMaps.{has_name}
use Rattle.pgo_heads.proofs.declared_names.names_in.Given as goal

abbrev pub invariant-loop-c : goal.invariant-loop-c
invariant-loop-c l = (n : Name) → has_name l.names n || is_among n (map (λ d. d.name) (drop l.c-index l.list)) ≡ is_among n (map (λ d. d.name) l.list)
