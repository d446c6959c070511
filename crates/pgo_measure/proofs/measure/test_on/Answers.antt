use Rattle.std.proofs.Common.{◌∙◌, ◌∷◌, ap, sym}
use Rattle.std.proofs.lemmas.Result.{IfOk-weaker}
use Rattle.pgo_walk.specs.Emitted.{left_in}
use Rattle.pgo_measure.specs.Pendings.{behind_tally, part}
use Rattle.pgo_measure.specs.PendingView.{parts}
use Rattle.pgo_measure.proofs.Measures.{test_law}
use Rattle.pgo_measure.proofs.measure.test_on.Goals as goal

pub returns : goal.returns
returns c =
    IfOk-weaker c.branch_on.result _ _
    (λ o h vs gs.
    test_law vs gs c.args.tally (parts vs c.args.pending.now) c.args.e.now (left_in vs c.args.a) (left_in vs c.args.b)
    ∙ ap (λ next. behind_tally vs gs next (λ t. part t.spot (left_in vs c.args.a) ∷ part t.spot (left_in vs c.args.b) ∷ parts vs c.args.pending.now)) (sym c.in_ok-next.ensures)
    ∙ h vs gs)
    c.branch_on.ensures
