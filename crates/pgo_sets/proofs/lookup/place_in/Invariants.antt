use Rattle.std.proofs.Common.{◌≡◌, ◌+◌, map, drop}
use Rattle.std.specs.Prelude.{option_map}
use Rattle.pgo_base.specs.View.{named_data}
use Rattle.pgo_model.specs.Steps.{place_in}
use Rattle.pgo_sets.proofs.lookup.place_in.Given as goal

abbrev pub invariant-loop-i : goal.invariant-loop-i
invariant-loop-i l = place_in l.name (map named_data l.list) ≡ option_map (λ n. l.i + n) (place_in l.name (map named_data (drop l.i l.list)))
