use Rattle.std.proofs.Common.{rules, arith, ap, ◌∙◌}
use Rattle.std.proofs.lemmas.Grind.{common_steps}
use Rattle.pgo_expr_read.specs.Reading.{expr, and_then, closes}
use Rattle.pgo_expr_read.proofs.Turns.{closes_step, closes_empty}
use Rattle.pgo_expr_read.proofs.grammar.Grammar.closes.Goals as goal

pub returns-in_err-left-in-Some : goal.returns-in_err-left-in-Some
returns-in_err-left-in-Some g c =
    let e = closes_step c.args.self.now.limit (expr c.args.self.now.below) c.loop-turn.open c.pop.new.self c.in-Some.opener c.loop-turn.left c.loop-turn.cursor _ c.loop-turn.invariant.same c.in-Some.ensures in
    first_of (search rules, grind (arith, common_steps))

pub loop-turn-preserved : goal.loop-turn-preserved
loop-turn-preserved g c =
    let e = closes_step c.args.self.now.limit (expr c.args.self.now.below) c.loop-turn.open c.pop.new.self c.in-Some.opener c.loop-turn.left c.loop-turn.cursor _ c.loop-turn.invariant.same c.in-Some.ensures in
    record {
      same = e ∙ ap (λ z. and_then z (closes c.args.self.now.limit (expr c.args.self.now.below) c.pop.new.self)) c.in_ok-left-in-Some.ensures;
      long = first_of (omega (arith, c.loop-turn.invariant.long), grind (arith, common_steps));
    }

pub returns : goal.returns
returns g c = c.loop-turn.invariant.same ∙ closes_empty _ _ _ _ _ (omega (arith, c.loop-turn.invariant.long))
