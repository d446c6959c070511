use Rattle.std.proofs.Common.{◌≡◌, ◌++◌, drop}
use Rattle.pgo_expand.specs.Items as expected
use Rattle.pgo_expand.proofs.heads.add_all_own.Given as goal

abbrev pub invariant-loop-i : goal.invariant-loop-i
invariant-loop-i l =
    (l.fn.items.items ++ expected.capped_items l.ids l.own ≡ l.items.items ++ expected.capped_items (drop l.i l.ids) (drop l.i l.own))
