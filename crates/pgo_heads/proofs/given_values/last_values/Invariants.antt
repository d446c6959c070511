-- The value that a name has so far and those that are left give the last of all.
use Rattle.std.proofs.Common.{◌≡◌, map, drop}
use Rattle.pgo_base.specs.Lookup.{Name}
use Rattle.pgo_base.specs.View.{named_data}
use Rattle.pgo_bound.specs.Values.{latest, given_value}
use Rattle.pgo_heads.specs.NameMaps.{value_in}
use Rattle.pgo_heads.proofs.given_values.last_values.Given as goal

abbrev pub invariant-loop-c : goal.invariant-loop-c
invariant-loop-c l = (n : Name) → latest n (value_in l.last n) (map named_data (drop l.c-index l.list)) ≡ given_value (map named_data l.list) n
