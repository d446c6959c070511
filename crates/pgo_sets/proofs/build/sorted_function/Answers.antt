use Rattle.std.proofs.Common.{◌≡◌, length, map, ap, sym, ◌∙◌, subst}
use Rattle.pgo_base.specs.Data.{function, pairs}
use Rattle.pgo_base.specs.Pairs.{pairs_in_order}
use Rattle.pgo_base.specs.View.{pair_of}
use Rattle.pgo_model.specs.Operators.{built}
use Rattle.pgo_sets.specs.Answers.{Answers}
use Rattle.pgo_sets.proofs.Ordered.{pairs_stay}
use Rattle.pgo_sets.proofs.build.sorted_function.Goals as goal

pub returns : goal.returns
returns c =
    let ps = map pair_of c.args.pairs.items in
    let e : c.in_ok-function.function ≡ pairs_in_order ps = c.in_ok-function.ensures ∙ sym (pairs_stay ps c.requires) in
    subst (Answers c.built.result) (λ i. built ((c.len.ensures ∙ ap length e) i) (function (pairs (e i)))) c.built.ensures
