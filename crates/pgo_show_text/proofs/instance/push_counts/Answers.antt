use Rattle.std.proofs.Common.{◌≡◌, ◌∷◌, ◌++◌, [], length, map, sym}
use Rattle.std.specs.Prelude.{codes, decimal}
use Rattle.std.proofs.lemmas.List.{length-map}
use Rattle.std.proofs.lemmas.Result.{IfOk-equal}
use Rattle.pgo_bundle.specs.View.{attempt_view}
use Rattle.pgo_show_text.specs.Shown.{joined}
use Rattle.pgo_show_text.proofs.instance.push_counts.Goals as goal

pub returns : goal.returns
returns c =
    let all : length c.args.attempts.now ≡ length (map attempt_view c.args.attempts.now) = sym (length-map c.args.attempts.now attempt_view) in
    IfOk-equal c.push.result _ _ _ c.push.ensures
    (λ i. c.args.lines.now ++ joined (codes "  attempts " ∷ decimal (all i) ∷ codes ": committed " ∷ decimal (c.count.ensures i)
    ∷ codes ", blocked " ∷ decimal (c.count-2.ensures i) ∷ codes ", refused " ∷ decimal (c.count-3.ensures i) ∷ []) ∷ [])
