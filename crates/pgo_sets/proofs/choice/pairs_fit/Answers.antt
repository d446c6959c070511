use Rattle.std.proofs.Common.{map, sym, ◌∙◌}
use Rattle.std.proofs.lemmas.List.{length-map}
use Rattle.pgo_base.specs.PairsView.{all_pairs}
use Rattle.pgo_base.specs.View.{pair_of}
use Rattle.pgo_sets.specs.Choices.{choice_of}
use Rattle.pgo_sets.proofs.Paired.{unfit}
use Rattle.pgo_sets.proofs.choice.pairs_fit.Goals as goal

pub returns-then-choices-len : goal.returns-then-choices-len
returns-then-choices-len c =
    let cs = c.args.choices.now in
    let ps = all_pairs c.args.pairs in
    sym (unfit (map choice_of cs) (map pair_of ps) (λ e. c.if-choices-len.true (sym (length-map cs choice_of) ∙ e ∙ length-map ps pair_of ∙ sym c.len.ensures)))
