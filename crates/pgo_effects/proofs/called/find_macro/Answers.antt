use Rattle.std.proofs.Common.{◌∙◌, ap}
use Rattle.pgo_effects.specs.Bodies.{body_at}
use Rattle.pgo_effects.proofs.LastLaws.{found_body}
use Rattle.pgo_effects.proofs.called.find_macro.Goals as goal

pub returns-in-None : goal.returns-in-None
returns-in-None c = ap (body_at c.args.macros.now) c.in-None.ensures ∙ found_body c.args.x.now c.args.macros.now

pub returns-in-Some : goal.returns-in-Some
returns-in-Some c =
    c.called_at.ensures ∙ ap (body_at c.args.macros.now) c.in-Some.ensures ∙ found_body c.args.x.now c.args.macros.now
