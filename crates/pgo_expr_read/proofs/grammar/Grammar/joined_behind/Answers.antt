use Rattle.std.proofs.Common.{rules, arith}
use Rattle.std.proofs.lemmas.Grind.{common_steps}
use Rattle.pgo_expr_read.specs.Lookahead.{sees_list_next}
use Rattle.pgo_expr_read.specs.Reading.{expr, folded, one_more_joined}
use Rattle.pgo_expr_read.proofs.Steps.{turn_more, no_more}
use Rattle.pgo_expr_read.proofs.grammar.Grammar.joined_behind.Goals as goal

pub returns-then-not-goes : goal.returns-then-not-goes
unfolding folded
returns-then-not-goes g c =
    let e = turn_more (λ n. folded sees_list_next (one_more_joined c.args.self.now.limit (expr c.args.self.now.below) c.args.op) n c.loop-turn.all c.loop-turn.cursor) _ c.loop-turn._turn c.loop-turn-test.true c.loop-turn.invariant in
    first_of (search rules, grind (arith, common_steps))

pub returns-in_err-all : goal.returns-in_err-all
unfolding folded
returns-in_err-all g c =
    let e = turn_more (λ n. folded sees_list_next (one_more_joined c.args.self.now.limit (expr c.args.self.now.below) c.args.op) n c.loop-turn.all c.loop-turn.cursor) _ c.loop-turn._turn c.loop-turn-test.true c.loop-turn.invariant in
    first_of (search rules, grind (arith, common_steps))

pub loop-turn-preserved : goal.loop-turn-preserved
unfolding folded
loop-turn-preserved g c =
    let e = turn_more (λ n. folded sees_list_next (one_more_joined c.args.self.now.limit (expr c.args.self.now.below) c.args.op) n c.loop-turn.all c.loop-turn.cursor) _ c.loop-turn._turn c.loop-turn-test.true c.loop-turn.invariant in
    first_of (search rules, grind (arith, common_steps))

pub returns : goal.returns
unfolding folded
returns g c =
    let e = no_more (λ n. folded sees_list_next (one_more_joined c.args.self.now.limit (expr c.args.self.now.below) c.args.op) n c.loop-turn.all c.loop-turn.cursor) _ c.loop-turn._turn c.loop-turn-test.false c.loop-turn.invariant in
    first_of (search rules, grind (arith, common_steps))
