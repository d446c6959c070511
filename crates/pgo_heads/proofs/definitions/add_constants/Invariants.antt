use Rattle.std.proofs.Common.{◌≡◌, ◌+◌, ◌++◌, map, drop}
use Rattle.pgo_base.specs.View.{named_data}
use Rattle.pgo_bound.specs.Values as values
use Rattle.std.specs.List.{filter_map}
use Rattle.pgo_heads.proofs.definitions.add_constants.Given as goal

abbrev pub invariant-loop-c : goal.invariant-loop-c
invariant-loop-c l =
    l.fn.defs ++ filter_map (values.given_constant (map named_data l.consts)) l.declared ≡ l.defs ++ filter_map (values.given_constant (map named_data l.consts)) (drop l.c-index l.declared)
