use Rattle.std.proofs.Common.{◌∙◌, ◌∷◌, ap}
use Rattle.pgo_code.specs.Steps.{Jump}
use Rattle.pgo_lower.specs.Made.{steps_here}
use Rattle.pgo_lower.specs.Work.{tasks_before}
use Rattle.pgo_lower.specs.declared.work.Task.TheVariants.{Do, Arms}
use Rattle.pgo_lower.proofs.WorkLaws.{arm_step}
use Rattle.pgo_lower.proofs.turns.next_arm.Goals as goal

pub returns-in_ok-push-in-Some : goal.returns-in_ok-push-in-Some
returns-in_ok-push-in-Some c = λ s t.
    let is = steps_here c.args.made.now in
    let arms = c.pop.new.self in
    let left = Do c.in-Some.todo ∷ Arms arms c.args.lengths c.args.behind ∷ c.args.tasks.now in
    (λ i. tasks_before s t (c.in_ok-push_two-in-Some.ensures i) (steps_here (c.in_ok-push-in-Some.ensures i)))
    ∙ ap (λ k. tasks_before s t left (Jump k ∷ is)) c.saturating_sub.ensures
    ∙ arm_step s t c.args.tasks.now c.args.arms.items arms.items c.in-Some.todo c.args.lengths c.args.behind c.count-here.result is c.in-Some.ensures.items c.count-here.ensures
