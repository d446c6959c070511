use Rattle.std.proofs.Common.{◌≡◌, map, take}
use Rattle.std.specs.Prelude.{option_map, reverse}
use Rattle.pgo_base.specs.ActionView.{action_pair}
use Rattle.pgo_base.specs.Lookup.{Name, find, or_that}
use Rattle.pgo_base.specs.NameMaps.{found}
use Rattle.pgo_check.proofs.definitions.add_bodies.Given as goal

abbrev pub invariant-loop-a : goal.invariant-loop-a
invariant-loop-a l =
    (x : Name) → option_map (λ r. r.now) (found l.bodies x) ≡ or_that (find x (reverse (map action_pair (take l.a-index l.actions)))) (option_map (λ r. r.now) (found l.fn.bodies x))
