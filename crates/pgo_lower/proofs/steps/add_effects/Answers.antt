use Rattle.std.proofs.Common.{◌∙◌, ◌∷◌, ap, sym}
use Rattle.pgo_lower.specs.Heads.{heads}
use Rattle.pgo_lower.specs.Made.{steps_here}
use Rattle.pgo_lower.specs.Slots.{tables_of}
use Rattle.pgo_lower.proofs.WorkLaws.{heads_last}
use Rattle.pgo_lower.proofs.steps.add_effects.Goals as goal

pub loop-effect-preserved : goal.loop-effect-preserved
loop-effect-preserved c =
    let t = tables_of c.args.names.now in
    let rest = c.pop.new.self.items in
    let is = steps_here c.loop-effect.made in
    ap (λ l. heads t rest (steps_here l)) c.in_ok-push.ensures
    ∙ ap (λ x. heads t rest (x ∷ is)) c.in_ok-effect_step.ensures
    ∙ sym (heads_last t rest c.in-Some.effect is)
    ∙ ap (λ es. heads t es is) (sym c.in-Some.ensures.items)
    ∙ c.loop-effect.invariant
