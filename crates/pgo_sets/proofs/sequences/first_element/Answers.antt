use Rattle.std.proofs.Common.{◌<◌, length, sym, ap, ◌∙◌, rules, arith}
use Rattle.std.specs.Prelude.{Some}
use Rattle.pgo_base.specs.PairsView.{all_pairs}
use Rattle.pgo_base.specs.View.{data_of}
use Rattle.pgo_sets.proofs.Parts.{no_first, first_is}
use Rattle.pgo_sets.proofs.sequences.first_element.Goals as goal

pub returns-then-len-eq0 : goal.returns-then-len-eq0
returns-then-len-eq0 c = no_first (all_pairs c.args.pairs) (search rules)

pub returns : goal.returns
returns c =
    let ps = all_pairs c.args.pairs in
    let some : 0 < length ps = first_of (search rules, omega arith) in
    first_is ps c.at.result.now some c.at.ensures ∙ ap (λ v. Some (data_of v)) (sym c.in_ok-copy.ensures)
