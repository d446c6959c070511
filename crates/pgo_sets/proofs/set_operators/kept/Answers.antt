use Rattle.std.proofs.Common.{◌≡◌, ◌++◌, map, filter, ap, sym, ◌∙◌, subst, arith}
use Rattle.std.proofs.lemmas.List.{append-nil}
use Rattle.std.proofs.lemmas.List.Kept.{IsStrictlySortedBy-filter}
use Rattle.std.specs.Prelude.{Bool}
use Rattle.pgo_base.specs.Data.{Data}
use Rattle.pgo_base.specs.Order.{data_cmp}
use Rattle.pgo_base.specs.Sets.{IsSorted}
use Rattle.pgo_base.specs.View.{data_of}
use Rattle.pgo_model.specs.Operators.{contains}
use Rattle.pgo_sets.specs.Kept.{same_truth}
use Rattle.pgo_sets.proofs.Each.{map_end}
use Rattle.pgo_sets.proofs.set_operators.kept.Goals as goal

pub returns-clause-sorted : goal.returns-clause-sorted
returns-clause-sorted c =
    let p : Data → Bool = λ m. same_truth c.args.inside (contains m c.args.b.now) in
    let ms = map data_of c.loop-m.members.items in
    let all = c.in_order-m-items.result.now in
    let e : ms ≡ filter p (map data_of all) =
    sym (append-nil ms) ∙ ap (λ xs. ms ++ filter p xs) (sym (map_end data_of all c.loop-m.m-index (omega arith))) ∙ c.loop-m.invariant in
    subst IsSorted (sym e) (IsStrictlySortedBy-filter data_cmp p (map data_of all) (subst IsSorted (sym c.in_order-m-items.ensures.members) c.in_order-m-items.ensures.sorted))
