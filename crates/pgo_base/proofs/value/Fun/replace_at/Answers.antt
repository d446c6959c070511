use Rattle.std.proofs.Common.{ap, sym, ◌∙◌, subst}
use Rattle.pgo_base.specs.Data.{keys}
use Rattle.pgo_base.specs.Sets.{IsSorted}
use Rattle.pgo_base.specs.View.{data_of}
use Rattle.pgo_base.specs.ValuePlace.{set_value}
use Rattle.pgo_base.proofs.ValuePlaces.{keys_set}
use Rattle.pgo_base.proofs.value.Fun.replace_at.Goals as goal

pub with_extent-requires-clause-sorted : goal.with_extent-requires-clause-sorted
with_extent-requires-clause-sorted c =
    let n = c.args.place in
    let v = data_of c.args.value in
    subst IsSorted (sym (ap keys (c.put_value-before.ensures.after ∙ ap (set_value n v) c.in_ok-pairs.ensures.pairs) ∙ keys_set n v c.args.self)) c.in_ok-pairs.ensures.sorted
