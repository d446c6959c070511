use Rattle.std.proofs.Common.{◌++◌, map, ap, ◌∙◌}
use Rattle.std.proofs.lemmas.Result.{IfOk-equal}
use Rattle.pgo_bundle.specs.View.{attempt_view}
use Rattle.pgo_show_text.specs.Causes.{line_in}
use Rattle.pgo_show_text.proofs.Counted.{lines_are}
use Rattle.pgo_show_text.proofs.instance.push_refusals.Goals as goal

pub returns : goal.returns
returns c =
    let counted = c.in_ok-causes.ensures in
    IfOk-equal c.push_causes.result _ _ _ c.push_causes.ensures
    (ap (λ ls. c.args.lines.now ++ ls)
    (ap (λ cs. map (line_in cs) cs) c.as_slice.ensures.value
    ∙ lines_are (map attempt_view c.args.attempts.now) c.in_ok-causes.causes.items counted.0 counted.1))
