use Rattle.std.proofs.Common.{◌≡◌, map, drop}
use Rattle.pgo_base.specs.View.{named_data}
use Rattle.pgo_heads.specs.Refusals as specs
use Rattle.pgo_heads.proofs.const_missing.first_missing.Given as goal

abbrev pub invariant-loop-c : goal.invariant-loop-c
invariant-loop-c l =
    specs.first (specs.missing l.declared (map named_data l.consts)) ≡ specs.first (specs.missing (drop l.c-index l.declared) (map named_data l.consts))
