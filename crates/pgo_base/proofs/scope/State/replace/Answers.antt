use Rattle.std.proofs.Common.{◌≡◌, map, set, slice_get, ap, ◌∙◌}
use Rattle.pgo_base.specs.View.{data_of, named_data}
use Rattle.pgo_base.proofs.NamesOnce.{known_set, put_at}
use Rattle.pgo_base.proofs.scope.State.replace.Goals as goal

pub invariant_of-self : goal.invariant_of-self
invariant_of-self c = known_set c.self.inside.once c.self.inside.list.items c.args.place c.index_mut.result.now c.replace.new.dest c.index_mut.ensures.value c.self.invariant

pub returns : goal.returns
returns c p h =
    let list = c.self.inside.list.items in
    let q = c.index_mut.result.now in
    let s = put_at list c.args.place q c.args.value p c.index_mut.ensures.value (ap (λ vs. slice_get vs c.args.place) c.self.view_is ∙ h) in (
      ap data_of c.replace.ensures.value ∙ s.0,
      ap (λ x. map named_data (set list c.args.place (q.0, x))) c.replace.ensures.after ∙ s.1 ∙ ap (λ vs. set vs c.args.place (p.0, data_of c.args.value)) c.self.view_is,
    )
