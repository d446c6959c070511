use Rattle.std.proofs.Common.{List, map, sym, ◌∙◌}
use Rattle.std.proofs.lemmas.List.{length-map}
use Rattle.pgo_base.specs.declared.value.Value.{Value}
use Rattle.pgo_base.specs.Data.{Data}
use Rattle.pgo_base.specs.PairsView.{all_pairs}
use Rattle.pgo_base.specs.View.{data_of, pair_of}
use Rattle.pgo_sets.proofs.Paired.{unfit}
use Rattle.pgo_sets.proofs.function_sets.pairs_fit.Goals as goal

pub returns-then-len-domain : goal.returns-then-len-domain
returns-then-len-domain c =
    let ks = c.args.domain.now in
    let ps = all_pairs c.args.pairs in
    let f : Value → Data × List Data = λ k. (data_of k, c.args.members.now) in
    sym (unfit (map f ks) (map pair_of ps) (λ e. c.if-len-domain.true (c.len.ensures ∙ sym (length-map ps pair_of) ∙ sym e ∙ length-map ks f)))
