use Rattle.std.proofs.Common.{ap, map, ◌∙◌}
use Rattle.std.proofs.lemmas.Result.{IfOk-at_ok}
use Rattle.pgo_meaning.specs.System.{resource_of}
use Rattle.pgo_resource.specs.Kept.{member_view, own_view}
use Rattle.pgo_resource.specs.Layouts.{kept_layout}
use Rattle.pgo_resource.proofs.layout.BoardLayout.of.Goals as goal

pub returns : goal.returns
returns c =
    kept_layout c.args.bound.now _ (IfOk-at_ok _ c.in_ok-own.ensures.second c.copy.ensures)
    (ap (map resource_of) c.from_vec.ensures ∙ IfOk-at_ok _ c.in_ok-resources.ensures.first c.copied_resources.ensures ∙ ap (map resource_of) c.as_slice.ensures)
    (ap (map member_view) c.from_vec-2.ensures ∙ IfOk-at_ok _ c.in_ok-resources.ensures.second c.copied_members.ensures ∙ ap (map Rattle.pgo_resource.specs.Kept.member_in) c.as_slice-2.ensures)
    (ap (map own_view) c.from_vec-3.ensures ∙ IfOk-at_ok _ c.in_ok-own.ensures.first c.all_own.ensures)
