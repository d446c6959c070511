use Rattle.std.proofs.Common.{rules, arith}
use Rattle.std.proofs.lemmas.Grind.{common_steps}
use Rattle.pgo_expr_read.specs.Kinds.{follows}
use Rattle.pgo_expr_read.specs.Reading.{folded, goes_at, pass_at, more_at}
use Rattle.pgo_expr_read.proofs.Steps.{turn_more, no_more}
use Rattle.pgo_expr_read.proofs.grammar.Grammar.behind.Goals as goal

pub returns-then-not-goes : goal.returns-then-not-goes
unfolding folded
returns-then-not-goes g c =
    let e = turn_more (λ n. folded (goes_at c.args.between) (more_at g.I.Item.join (λ o. follows c.args.between o) (pass_at c.args.between) (g.I.Item.reading c.args.item.now c.args.self.now.limit c.args.self.now.below)) n c.loop-turn.all c.loop-turn.cursor) _ c.loop-turn._turn c.loop-turn-test.true c.loop-turn.invariant in
    first_of (search rules, grind (arith, common_steps))

pub returns-in_err-all : goal.returns-in_err-all
unfolding folded
returns-in_err-all g c =
    let e = turn_more (λ n. folded (goes_at c.args.between) (more_at g.I.Item.join (λ o. follows c.args.between o) (pass_at c.args.between) (g.I.Item.reading c.args.item.now c.args.self.now.limit c.args.self.now.below)) n c.loop-turn.all c.loop-turn.cursor) _ c.loop-turn._turn c.loop-turn-test.true c.loop-turn.invariant in
    first_of (search rules, grind (arith, common_steps))

pub loop-turn-preserved : goal.loop-turn-preserved
unfolding folded
loop-turn-preserved g c =
    let e = turn_more (λ n. folded (goes_at c.args.between) (more_at g.I.Item.join (λ o. follows c.args.between o) (pass_at c.args.between) (g.I.Item.reading c.args.item.now c.args.self.now.limit c.args.self.now.below)) n c.loop-turn.all c.loop-turn.cursor) _ c.loop-turn._turn c.loop-turn-test.true c.loop-turn.invariant in
    first_of (search rules, grind (arith, common_steps))

pub returns : goal.returns
unfolding folded
returns g c =
    let e = no_more (λ n. folded (goes_at c.args.between) (more_at g.I.Item.join (λ o. follows c.args.between o) (pass_at c.args.between) (g.I.Item.reading c.args.item.now c.args.self.now.limit c.args.self.now.below)) n c.loop-turn.all c.loop-turn.cursor) _ c.loop-turn._turn c.loop-turn-test.false c.loop-turn.invariant in
    first_of (search rules, grind (arith, common_steps))
