use Rattle.std.proofs.Common.{ap, ◌∙◌, subst, sym}
use Rattle.pgo_base.specs.View.{data_of}
use Rattle.pgo_base.specs.Sets.{IsSorted}
use Rattle.pgo_model.specs.Operators.{contains}
use Rattle.pgo_sets.proofs.Searched.{member_searched}
use Rattle.pgo_sets.proofs.lookup.contains.Goals as goal

pub returns : goal.returns
returns c =
    let sorted = subst IsSorted (sym c.in_order.ensures.members) c.in_order.ensures.sorted in
    c.is_ok.ensures.value ∙ member_searched c.args.v.now c.in_order.result.now c.binary_search.result c.binary_search.ensures.bound sorted c.binary_search.ensures.position ∙ ap (contains (data_of c.args.v.now)) c.in_order.ensures.members
