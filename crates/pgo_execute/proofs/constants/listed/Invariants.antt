use Rattle.std.proofs.Common.{◌≡◌, ◌++◌, map, drop}
use Rattle.std.specs.List.{filter_map}
use Rattle.pgo_base.specs.View.{named_data}
use Rattle.pgo_translate.specs.ModuleOf.{named_constant}
use Rattle.pgo_execute.proofs.constants.listed.Given as goal

abbrev pub invariant-loop-c : goal.invariant-loop-c
invariant-loop-c l =
    filter_map (named_constant l.given) l.declared ≡ map named_data l.list.items ++ filter_map (named_constant l.given) (drop l.c-index l.declared)
