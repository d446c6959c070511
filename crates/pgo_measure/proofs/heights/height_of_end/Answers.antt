use Rattle.std.proofs.Common.{◌≡◌, ◌∙◌, ◌+◌, drop, ◌∷◌, ap, sym}
use Rattle.std.proofs.lemmas.List.{drop_more}
use Rattle.pgo_measure.proofs.Capped.{assigned_next, kept_next}
use Rattle.pgo_measure.proofs.heights.height_of_end.Goals as goal
use Rattle.pgo_measure.proofs.heights.height_of_end.Goals.{in-Some, in-None}

pub loop-x-preserved : goal.loop-x-preserved
loop-x-preserved c =
    let x = c.x-item.result in
    let rest = drop (c.loop-x.x-index + 1) c.args.variables.now in
    let here : drop c.loop-x.x-index c.args.variables.now ≡ x ∷ rest =
    drop_more c.args.variables.now c.loop-x.x-index x c.loop-x-test.true ∙ ap (λ z. z ∷ rest) (sym c.x-item.is) in
    elim c.match-height_of_change.branch [
      | in-Some w ↦ let e = c.loop-x.invariant ∙ assigned_next c.args.globals.now c.args.changes.now c.loop-x.kept c.loop-x.so_far _ x rest _ here (w.in-Some.ensures c.args.globals.now c.args.changes.now c.in_ok-whole.ensures c.in_ok-changed.ensures) in cc
      | in-None w ↦ let e = c.loop-x.invariant ∙ kept_next c.args.globals.now c.args.changes.now c.loop-x.kept c.loop-x.so_far _ x rest here (w.in-None.ensures c.args.globals.now c.args.changes.now c.in_ok-whole.ensures c.in_ok-changed.ensures) in cc
    ]
