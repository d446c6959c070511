use Rattle.std.proofs.Common.{◌≡◌, map, ap, sym, ◌∙◌}
use Rattle.std.specs.Prelude.{Some, None}
use Rattle.pgo_model.specs.Log.{after_changes}
use Rattle.pgo_model.specs.LogView.{change_view, entry_view}
use Rattle.pgo_check.proofs.Reached.{went}
use Rattle.pgo_check.proofs.states.follow.Goals as goal

pub returns : goal.returns
returns c =
    c.requires.there.1 ∙ sym (went c.args.before (entry_view c.args.e.now).change c.requires.there.0 c.requires.there.1)
    ∙ ap (λ cs. after_changes (map change_view cs) c.args.before) (sym c.as_slice.ensures) ∙ sym c.in_ok-found.ensures ∙ c.in-Some.is

pub unreachable-requires : goal.unreachable-requires
unreachable-requires c =
    let k : Some c.requires.there.0 ≡ None =
    sym (went c.args.before (entry_view c.args.e.now).change c.requires.there.0 c.requires.there.1)
    ∙ ap (λ cs. after_changes (map change_view cs) c.args.before) (sym c.as_slice.ensures) ∙ sym c.in_ok-found.ensures ∙ c.in-None.is in
    cc
