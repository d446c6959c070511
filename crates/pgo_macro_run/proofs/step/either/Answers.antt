use Rattle.std.proofs.Common.{◌<◌, ◌∷◌, map, option_map, length, ap, sym, ◌∙◌, arith, rules}
use Rattle.std.proofs.lemmas.Grind.{common_steps}
use Rattle.pgo_base.specs.View.{data_of}
use Rattle.pgo_syntax.specs.Statement.{statements}
use Rattle.pgo_syntax.specs.StatementView.{statement}
use Rattle.pgo_resource.specs.Picked.{words_of, choices_of}
use Rattle.pgo_macro_run.specs.AroundView.{given_of, now_of}
use Rattle.pgo_macro_run.specs.Given.{next_pick, drawn}
use Rattle.pgo_macro_run.specs.Runs as runs
use Rattle.pgo_macro_run.proofs.Arms.{count_map, arm_at, low_arm, counted}
use Rattle.pgo_macro_run.proofs.step.either.Goals as goal

pub returns-clause-next : goal.returns-clause-next
returns-clause-next c = λ a env c'.
    let p = c.args.picks.now in
    let arms = c.args.arms.now in
    let x = c.index-arms-i.result in
    let g = given_of a (words_of p) in
    let n = now_of c' p in
    let i = c.in_ok-i.i in
    let ts = statements (map statement arms) in
    let some : 0 < length arms = first_of (search rules, grind (arith, common_steps)) in
    let lt : i < length arms = first_of (search rules, grind (arith, common_steps)) in (
      low_arm arms i x lt c.index-arms-i.is,
      ap (λ many. let j = next_pick (words_of p) n many in runs.arm g ts j env (drawn many j n)) (count_map arms)
          ∙ ap (λ j. runs.arm g ts j env (drawn (length arms) j n)) (sym c.in_ok-i.ensures.number)
          ∙ arm_at g arms i x lt c.index-arms-i.is env (drawn (length arms) i n)
          ∙ ap (λ cs. runs.run g (statement x) env (record { content = option_map data_of c'; choices = cs })) (sym (c.in_ok-i.ensures.made ∙ ap (λ z. z ∷ choices_of p) (sym (counted (length arms) i some)))),
    )
