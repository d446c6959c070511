use Rattle.std.proofs.Common.{map, set, ap, ◌∙◌}
use Rattle.std.specs.Prelude.{Some}
use Rattle.pgo_base.specs.View.{data_of, pair_of}
use Rattle.pgo_base.proofs.ValuePlaces.{value_there, value_set}
use Rattle.pgo_base.proofs.value.put_value.Goals as goal

pub returns-clause-before : goal.returns-clause-before
returns-clause-before c =
    ap (λ x. Some (data_of x)) c.replace.ensures.value ∙ value_there c.args.list.now.items c.args.place c.index_mut.result.now c.requires c.index_mut.ensures.value

pub returns-clause-after : goal.returns-clause-after
returns-clause-after c =
    let ps = c.args.list.now.items in
    let q = c.index_mut.result.now in
    ap (λ x. map pair_of (set ps c.args.place (q.0, x))) c.replace.ensures.after ∙ value_set ps c.args.place q c.args.value c.requires c.index_mut.ensures.value
