use Rattle.std.proofs.Common.{◌≡◌, ◌++◌, map, drop}
use Rattle.pgo_measure.specs.Heights.{capped}
use Rattle.pgo_expand.specs.Module as expected
use Rattle.pgo_expand.proofs.heads.add_own.Given as goal

abbrev pub invariant-loop-d : goal.invariant-loop-d
invariant-loop-d l =
    l.fn.items.items ++ map (λ d. capped (expected.own_item l.ids (expected.start_height d.initial))) l.own
    ≡ l.items.items ++ map (λ d. capped (expected.own_item l.ids (expected.start_height d.initial))) (drop l.d-index l.own)
