use Rattle.std.proofs.Common.{map, length, None, sym, ap, ◌∙◌, subst, arith, vec_len}
use Rattle.pgo_model.specs.LogView.{entry_view}
use Rattle.pgo_syntax.specs.RecordView.{note_view}
use Rattle.pgo_workers.specs.View.{notes_of}
use Rattle.pgo_workers.specs.Worlds.{IsLayout, HasAll}
use Rattle.pgo_resource.specs.Layouts.{layout_view}
use Rattle.pgo_resource.specs.PlainRows.{taken_of, apart, are_of, values_at, FitsStart, rows}
use Rattle.pgo_resource.specs.PlainSets.{map_length}
use Rattle.pgo_resource.proofs.PlainSteps.{free_first}
use Rattle.pgo_meaning.specs.System.{resource_of}
use Rattle.pgo_workers.proofs.BoundLayout.{layout_sound, start_has}
use Rattle.pgo_resource.proofs.plain_board.PlainBoard.open.Goals as goal

pub invariant_of-result : goal.invariant_of-result
invariant_of-result g c = let b = c.args.bound.now in let is = c.in_ok-layout.ensures in record {
  is_layout = subst IsLayout (sym is) (layout_sound b c.requires.sound c.requires.names);
  has_all = subst (λ y. HasAll y y.start) (sym is) (start_has b c.requires.sound);
  as_many = c.requires.as_many ∙ sym (map_length resource_of b.resources) ∙ sym (ap (λ y. length y.resources) is);
  held_once = ap (λ l. apart (vec_len c.args.contents) (taken_of l)) c.in_ok-held.ensures.items;
  own_entries = ap (are_of (layout_view c.in_ok-layout.layout) c.args.instance) c.in_ok-entries.ensures.items;
  unheld = free_first g.R.Resource.shows (layout_view c.in_ok-layout.layout) (vec_len c.args.contents) c.in_ok-entries.entries.items c.args.contents.items c.in_ok-held.held.items c.in_ok-entries.ensures.items c.args.contents.ok.0
      (subst (λ y. FitsStart g.R.Resource.shows y c.args.contents.items) (sym is) c.requires.fit);
  within_steps = omega (arith, ap length c.in_ok-entries.ensures.items);
  own_notes = ap (λ l. notes_of c.args.instance (map note_view l)) c.in_ok-notes_list.ensures.items ∙ sym (ap length c.in_ok-notes_list.ensures.items);
  held_room = omega (arith, c.in_ok-held.ensures.capacity, c.len.ensures);
  entry_room = omega (arith, c.in_ok-entries.ensures.capacity);
  note_room = omega (arith, c.in_ok-notes_list.ensures.capacity);
}

pub returns-clause-view : goal.returns-clause-view
returns-clause-view g c = λ i. record {
  instance = c.args.instance;
  resources = c.requires.as_many i;
  steps = c.args.steps;
  share = c.args.notes;
  held = rows g.R.Resource.shows (values_at (layout_view c.in_ok-layout.layout) c.in_ok-entries.entries.items) c.args.contents.items (c.in_ok-held.ensures.items i);
  entries = map entry_view (c.in_ok-entries.ensures.items i);
  notes = map note_view (c.in_ok-notes_list.ensures.items i);
  told = None;
  last = None;
}
