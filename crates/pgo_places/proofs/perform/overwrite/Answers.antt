-- A write with no macro.
use Rattle.std.proofs.Common.{◌≡◌, Some, rules}
use Rattle.std.proofs.lemmas.Result.{IfOk-weaker}
use Rattle.pgo_base.specs.View.{data_of}
use Rattle.pgo_sections.specs.BoundValues.{bindable}
use Rattle.pgo_resource.specs.Picked.{words_of, choices_of}
use Rattle.pgo_places.specs.PlaceView.{stand_view}
use Rattle.pgo_places.proofs.Contents.{identity_stops, identity_written}
use Rattle.pgo_places.proofs.perform.overwrite.Goals as goal

pub returns-in-Ok-clause-stand : goal.returns-in-Ok-clause-stand
returns-in-Ok-clause-stand g c =
    let x = data_of c.args.value in let p = c.args.stand.now.picks in let q = c.write.new.picks in let s = stand_view c.args.stand.now in
    let b : bindable (Some x) ≡ Some x = search rules in
    let h = identity_written c.args.frame.definitions.now (data_of c.args.frame.fixed.now.id) x (g.R.Resource.shows c.args.content.now).current (words_of p) (choices_of p) (choices_of q)
    (g.R.Resource.shows c.write.new.self).current b c.in-Ok.ensures.2 in
    λ i. record s { first = c.in-Ok.ensures.1.1 i; words = c.in-Ok.ensures.1.0 i; progress = record s.progress { points = h.1 i } }

pub returns-in-Ok-clause-value : goal.returns-in-Ok-clause-value
returns-in-Ok-clause-value g c =
    let x = data_of c.args.value in let p = c.args.stand.now.picks in let q = c.write.new.picks in
    let b : bindable (Some x) ≡ Some x = search rules in
    (identity_written c.args.frame.definitions.now (data_of c.args.frame.fixed.now.id) x (g.R.Resource.shows c.args.content.now).current (words_of p) (choices_of p) (choices_of q)
    (g.R.Resource.shows c.write.new.self).current b c.in-Ok.ensures.2).0

pub without_memory-requires : goal.without_memory-requires
without_memory-requires g c =
    let x = data_of c.args.value in let p = c.args.stand.now.picks in let q = c.write.new.picks in
    let b : bindable (Some x) ≡ Some x = search rules in
    identity_stops c.args.frame.definitions.now (data_of c.args.frame.fixed.now.id) x (g.R.Resource.shows c.args.content.now).current (words_of p) (choices_of p) (choices_of q) c.in-Err.stop b c.in-Err.ensures.2

pub returns-clause-stand : goal.returns-clause-stand
returns-clause-stand g c = IfOk-weaker c.without_memory.result _ _ (λ u h. absurd h) c.without_memory.ensures

pub returns-clause-value : goal.returns-clause-value
returns-clause-value g c = IfOk-weaker c.without_memory.result _ _ (λ u h. absurd h) c.without_memory.ensures
