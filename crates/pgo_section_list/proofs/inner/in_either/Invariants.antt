-- What is made and what is left are the whole.
use Rattle.std.proofs.Common.{◌≡◌, ◌++◌, map, drop}
use Rattle.pgo_syntax.specs.Statement.{statements}
use Rattle.pgo_syntax.specs.StatementView.{statement}
use Rattle.pgo_section_list.specs.Sections.{see, alternative_items}
use Rattle.pgo_section_list.proofs.inner.in_either.Given as goal

abbrev pub invariant-loop-one : goal.invariant-loop-one
invariant-loop-one l = map see l.items.items ++ alternative_items (statements (map statement (drop l.one-index l.list))) ≡ alternative_items (statements (map statement l.list))
