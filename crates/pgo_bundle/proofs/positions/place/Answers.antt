use Rattle.std.proofs.Common.{◌≤◌, ◌<◌, length, map, ap, ◌∙◌, arith}
use Rattle.std.proofs.lemmas.List.{map_push}
use Rattle.pgo_bundle.specs.PositionView.{place_view}
use Rattle.pgo_bundle.specs.View.{logged_note_view}
use Rattle.pgo_bundle.proofs.PositionLaws.{item_placed, none_placed_at}
use Rattle.pgo_bundle.proofs.positions.place.Goals as goal

pub returns-in_ok-push : goal.returns-in_ok-push
returns-in_ok-push c =
    let below : c.args.note.position < length c.args.places.now.items = omega (arith, c.if-p-len.true, c.len.ensures) in
    item_placed place_view c.args.places.now.items c.args.note.position _ c.push.new.self c.index_mut.result.now below c.index_mut.ensures.value
    (ap (map logged_note_view) c.in_ok-push.ensures ∙ map_push logged_note_view c.index_mut.result.now _)

pub returns-else-p-len : goal.returns-else-p-len
returns-else-p-len c =
    let past : length c.args.places.now.items ≤ c.args.note.position = omega (arith, c.if-p-len.false, c.len.ensures) in
    none_placed_at place_view c.args.places.now.items c.args.note.position _ past
