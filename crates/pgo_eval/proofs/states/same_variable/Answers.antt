use Rattle.std.proofs.Common.{◌≡◌, Some, option_map, ap, sym, ◌∙◌}
use Rattle.std.specs.Ordering.{is_eq}
use Rattle.pgo_base.specs.Data.{Data}
use Rattle.pgo_base.specs.Exact.{data_itself}
use Rattle.pgo_base.specs.Lookup.{find}
use Rattle.pgo_base.specs.View.{data_of}
use Rattle.pgo_model.specs.Operators.{both, same_data}
use Rattle.pgo_eval.proofs.states.same_variable.Goals as goal

pub returns-then-is_kept : goal.returns-then-is_kept
returns-then-is_kept c =
    let x = c.args.x.now in
    let d : Data = data_of c.in-Some.v.now in
    let now : Some d ≡ find x c.args.around.now.state.now = c.in-Some.ensures.value in
    let alike : find x c.args.next.now ≡ find x c.args.around.now.state.now =
    c.args.around.now.alike c.args.next.now (ap (option_map (λ r. r.now)) c.requires) c.in-Some.i x (c.is_kept.ensures.0 c.if-is_kept.true) c.in-Some.ensures.first in
    ap (λ b. Some b) (sym (ap is_eq (data_itself d)))
    ∙ ap (λ o. both (λ v w. Some (same_data v w)) o o) now
    ∙ ap (λ o. both (λ v w. Some (same_data v w)) (find x c.args.around.now.state.now) o) (sym alike)
