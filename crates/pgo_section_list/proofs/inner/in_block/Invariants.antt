-- What is made and what is left are the whole.
use Rattle.std.proofs.Common.{◌≡◌, ◌++◌, map, length}
use Rattle.pgo_syntax.specs.Statement.{labeled}
use Rattle.pgo_syntax.specs.StatementView.{labeled_pair}
use Rattle.pgo_section_list.specs.Sections.{see, block_items}
use Rattle.pgo_section_list.proofs.inner.in_block.Given as goal

abbrev pub invariant-loop-one : goal.invariant-loop-one
invariant-loop-one l = map see l.items.items ++ block_items (labeled (map labeled_pair l.left)) ≡ block_items (labeled (map labeled_pair l.list))

abbrev pub decreases-loop-one : goal.decreases-loop-one
decreases-loop-one l = length l.left
