use Rattle.std.proofs.Common.{◌≡◌, ◌+◌, ap, sym, ◌∙◌, refl, drop, map, ◌∷◌, ◌++◌, List, arith}
use Rattle.std.proofs.lemmas.List.{drop_all}
use Rattle.pgo_syntax.specs.declared.assignment.Step.{Step}
use Rattle.pgo_meaning.specs.Statements.{steps}
use Rattle.pgo_effects.specs.declared.assign.PathPart.{PathPart}
use Rattle.pgo_effects.specs.Assigned.{part_view}
use Rattle.pgo_effects.specs.Pieces.{code_with}
use Rattle.pgo_effects.specs.SettingView.{setting_view}
use Rattle.pgo_effects.proofs.AssignLaws.{step_made, steps_made}
use Rattle.pgo_effects.proofs.Rests.{first_of_rest}
use Rattle.pgo_effects.proofs.assign.add_steps.Goals as goal

pub loop-step-init : goal.loop-step-init
loop-step-init c =
    let s = setting_view c.args.setting in
    λ f. ap (λ (l : List PathPart). code_with c.args.effects.now.items (steps s c.args.path.now c.args.used (λ ps. f (map part_view l ++ ps)))) c.new-parts.ensures.items

pub loop-step-preserved : goal.loop-step-preserved
loop-step-preserved c =
    let s = setting_view c.args.setting in let xs = c.args.path.now in let n = c.loop-step.step-index in let t = c.step-item.result in
    let es = c.loop-step.effects.items in let parts = c.loop-step.parts.items in
    let d : drop n xs ≡ t ∷ drop (n + 1) xs = first_of_rest xs n (n + 1) t refl (omega arith) c.step-item.is in
    step_made s c.args.effects.now.items es c.add_step.new.effects.items parts c.push.new.self.items c.in_ok-part.part t (drop (n + 1) xs) xs c.args.used c.loop-step.k c.in_ok-part.next
    c.in_ok-push.ensures.items (λ g. c.in_ok-part.ensures g)
    (λ f. ap (λ (l : List Step). code_with es (steps s l c.loop-step.k (λ ps. f (map part_view parts ++ ps)))) (sym d) ∙ c.loop-step.invariant f)

pub returns : goal.returns
returns c =
    let s = setting_view c.args.setting in let xs = c.args.path.now in let n = c.loop-step.step-index in
    steps_made s c.args.effects.now.items c.loop-step.effects.items c.loop-step.parts.items (drop n xs) xs c.args.used c.loop-step.k (drop_all n xs c.loop-step-test.false) (λ f. c.loop-step.invariant f)
