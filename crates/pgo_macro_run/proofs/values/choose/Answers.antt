use Rattle.std.proofs.Common.{◌<◌, ◌∷◌, option_map, length, ap, sym, ◌∙◌, arith, rules}
use Rattle.std.proofs.lemmas.Grind.{common_steps}
use Rattle.pgo_base.specs.View.{data_of}
use Rattle.pgo_resource.specs.Picked.{words_of, choices_of}
use Rattle.pgo_macro_run.specs.AroundView.{now_of}
use Rattle.pgo_macro_run.specs.Given.{needs, drawn, Yields}
use Rattle.pgo_macro_run.specs.Given as given
use Rattle.pgo_macro_run.proofs.Arms.{chosen_member, counted}
use Rattle.pgo_macro_run.proofs.values.choose.Goals as goal

pub returns-clause-value : goal.returns-clause-value
returns-clause-value c = λ c'.
    let p = c.args.picks.now in
    let ms = c.members-members.result.now in
    let x = c.index-members-i.result in
    let n = now_of c' p in
    let i = c.in_ok-i.i in
    let some : 0 < length ms = first_of (search rules, grind (arith, common_steps)) in
    let lt : i < length ms = first_of (search rules, grind (arith, common_steps)) in
    ap (λ o. needs o (choices_of p) (λ l. given.choose (words_of p) l n)) (sym c.in-Some.ensures)
    ∙ ap (λ l. given.choose (words_of p) l n) (sym c.members-members.ensures)
    ∙ chosen_member (words_of p) ms i x n lt c.index-members-i.is c.in_ok-i.ensures.number
    ∙ ap (λ v. Yields v (drawn (length ms) i n)) (ap data_of (sym c.in_ok-copy.ensures))
    ∙ ap (λ cs. Yields (data_of c.in_ok-copy.field-0) (record { content = option_map data_of c'; choices = cs })) (sym (c.in_ok-i.ensures.made ∙ ap (λ z. z ∷ choices_of p) (sym (counted (length ms) i some))))
