use Rattle.std.proofs.Common.{◌∙◌, ◌∷◌, ap, sym}
use Rattle.std.proofs.lemmas.Result.{IfOk-weaker}
use Rattle.pgo_walk.specs.Emitted.{left_in}
use Rattle.pgo_measure.specs.Pendings.{behind_tally, part}
use Rattle.pgo_measure.specs.PendingView.{parts}
use Rattle.pgo_measure.proofs.Measures.{looked_law}
use Rattle.pgo_measure.proofs.measure.step_on.Goals as goal

pub returns : goal.returns
returns c =
    IfOk-weaker c.go_on.result _ _
    (λ o h vs gs.
    looked_law vs gs c.args.tally (parts vs c.args.pending.now) c.args.m.now (left_in vs c.args.state)
    ∙ ap (λ next. behind_tally vs gs next (λ t. part t.spot (left_in vs c.args.state) ∷ parts vs c.args.pending.now)) (sym c.in_ok-next.ensures)
    ∙ h vs gs)
    c.go_on.ensures
