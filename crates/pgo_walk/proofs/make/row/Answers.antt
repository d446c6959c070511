use Rattle.std.proofs.Common.{◌∙◌, ap, sym}
use Rattle.pgo_pluscal.specs.PartView.{around}
use Rattle.pgo_walk.specs.Emitted.{emitted, left_in}
use Rattle.pgo_walk.proofs.Around.{around_more}
use Rattle.pgo_walk.proofs.make.row.Goals as goal
use Rattle.pgo_walk.proofs.make.row.Goals.{in-Quiet, in-Step+in_ok-push-in-Step}

pub loop-preserved : goal.loop-preserved
loop-preserved c =
    let behind = left_in c.args.variables.now c.turn.new.state in
    elim c.match-branch-2.branch [
      | in-Quiet w ↦ c.loop.invariant ∙ ap (around c.loop.steps.items) (c.in_ok-turn.ensures ∙ ap (λ t. emitted c.args.variables.now t behind) w.in-Quiet.is) ∙ ap (λ v. around v.items behind) (sym w.steps-is)
      | in-Step+in_ok-push-in-Step w ↦
          c.loop.invariant
          ∙ ap (around c.loop.steps.items) (c.in_ok-turn.ensures ∙ ap (λ t. emitted c.args.variables.now t behind) w.in-Step.is ∙ sym (w.step_of.ensures behind))
          ∙ sym (around_more c.loop.steps.items w.step_of.result behind)
          ∙ ap (λ ss. around ss behind) (sym w.in_ok-push-in-Step.ensures.items)
          ∙ ap (λ v. around v.items behind) (sym w.steps-is)
    ]
