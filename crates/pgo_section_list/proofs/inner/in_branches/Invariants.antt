-- What is made and what is left are the whole.
use Rattle.std.proofs.Common.{◌≡◌, ◌++◌, map, drop}
use Rattle.pgo_syntax.specs.Statement.{guarded}
use Rattle.pgo_syntax.specs.StatementView.{branch_parts}
use Rattle.pgo_section_list.specs.Sections.{see, branch_items}
use Rattle.pgo_section_list.proofs.inner.in_branches.Given as goal

abbrev pub invariant-loop-one : goal.invariant-loop-one
invariant-loop-one l = map see l.items.items ++ branch_items (guarded (map branch_parts (drop l.one-index l.list))) ≡ branch_items (guarded (map branch_parts l.list))
