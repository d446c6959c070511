-- Whether all end is decided by what is left; each call is about what nests less deep.
use Rattle.std.proofs.Common.{◌≡◌, ◌+◌, ◌*◌, map, drop}
use Rattle.pgo_syntax.specs.StatementSize.{height}
use Rattle.pgo_syntax.specs.StatementView.{statement}
use Rattle.pgo_labels.specs.Parts.{see, parts}
use Rattle.pgo_labels.specs.ItemEnds.{all_items_end, items_end}
use Rattle.pgo_labels.proofs.Nesting.{heights}
use Rattle.pgo_labels.proofs.yield_rule.+ends.Given as goal

abbrev pub decreases-ends_in_yield : goal.decreases-ends_in_yield
decreases-ends_in_yield l = 2 * height (statement l.s.now) + 1

abbrev pub decreases-all_parts_end : goal.decreases-all_parts_end
decreases-all_parts_end l = 2 * height (statement l.s.now)

abbrev pub decreases-row_ends : goal.decreases-row_ends
decreases-row_ends l = 2 * heights (map see l.list.now) + 2

abbrev pub invariant-all_parts_end-loop-part : goal.invariant-all_parts_end-loop-part
invariant-all_parts_end-loop-part l = all_items_end (map see (drop l.part-index l.list)) ≡ all_items_end (parts (statement l.s))

abbrev pub invariant-row_ends-loop-i : goal.invariant-row_ends-loop-i
invariant-row_ends-loop-i l = items_end (map see (drop l.i l.list)) ≡ items_end (map see l.list)
