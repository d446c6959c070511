-- The layout of a board that is opened.
use Rattle.std.proofs.Common.{◌≡◌, ◌∙◌, map, length, ap}
use Rattle.pgo_journal.specs.Journal.{JournalView}
use Rattle.pgo_meaning.specs.System.{system_of, member_of}
use Rattle.pgo_syntax.specs.declared.bound.Bound.{Bound}
use Rattle.pgo_resource.specs.declared.layout.BoardLayout.{BoardLayout}
use Rattle.pgo_resource.specs.Layouts.{layout_view}
use Rattle.pgo_resource.specs.PlainSets.{map_length}
use Rattle.pgo_workers.specs.Worlds.{layout_of}
use Rattle.pgo_core.specs.ExclusiveRows.{layout_with}

module _ (b : Bound) (l : BoardLayout) (is : layout_view l ≡ layout_of (system_of b)) where
  pub layout_is : (j : JournalView) → j.start ≡ b.start → layout_with l j ≡ layout_of (system_of b)
  layout_is j start = λ i. record { start = start i; resources = (is i).resources; ids = (is i).ids; own = (is i).own }

  pub as_many_ids : length (layout_view l).ids ≡ length b.instances
  as_many_ids = ap (λ y. length y.ids) is ∙ map_length (λ i. i.id) (map member_of b.instances) ∙ map_length member_of b.instances
