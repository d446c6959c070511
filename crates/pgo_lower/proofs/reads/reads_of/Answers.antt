use Rattle.std.proofs.Common.{◌∙◌, [], map}
use Rattle.pgo_base.specs.ExprView.{tree}
use Rattle.pgo_code.specs.See.{unmapped_view}
use Rattle.pgo_rewrite.specs.Scopes.{in_scope}
use Rattle.pgo_sections.specs.FreeNames.{free_names}
use Rattle.pgo_lower.specs.Gathered.{gathered}
use Rattle.pgo_lower.specs.Slots.{slot_views}
use Rattle.pgo_lower.proofs.GatheredLaws.{gathered_law}
use Rattle.pgo_lower.proofs.reads.reads_of.Goals as goal

pub returns : goal.returns
returns c =
    let ts = slot_views c.args.slots.now in
    let e = tree c.args.e.now in
    c.in_ok-note_all.ensures
    ∙ (λ z. gathered ts (map unmapped_view (c.new-reads.ensures.items z)) (free_names (in_scope (c.new.ensures z)) e))
    ∙ gathered_law ts (free_names [] e)
