use Rattle.std.proofs.Common.{◌≡◌, length, map, ap, sym, ◌∙◌, subst}
use Rattle.pgo_base.specs.Data.{set, items}
use Rattle.pgo_base.specs.Sets.{in_order}
use Rattle.pgo_base.specs.View.{data_of}
use Rattle.pgo_model.specs.Operators.{built}
use Rattle.pgo_sets.specs.Answers.{Answers}
use Rattle.pgo_sets.proofs.Ordered.{members_stay}
use Rattle.pgo_sets.proofs.build.sorted_set.Goals as goal

pub returns : goal.returns
returns c =
    let xs = map data_of c.args.members.items in
    let e : c.in_ok-set.set ≡ in_order xs = c.in_ok-set.ensures ∙ sym (members_stay xs c.requires) in
    subst (Answers c.built.result) (λ i. built ((c.len.ensures ∙ ap length e) i) (set (items (e i)))) c.built.ensures
