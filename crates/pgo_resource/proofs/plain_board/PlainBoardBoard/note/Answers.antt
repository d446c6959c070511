use Rattle.std.proofs.Common.{[], map, refl, sym, ap, ◌∙◌, arith}
use Rattle.pgo_model.specs.LogView.{entry_view}
use Rattle.pgo_syntax.specs.RecordView.{note_view}
use Rattle.pgo_workers.specs.View.{notes_of}
use Rattle.pgo_resource.specs.PlainSets.{map_length}
use Rattle.pgo_resource.specs.PlainBoards.{board_layout, shows_of}
use Rattle.pgo_resource.proofs.PlainSteps.{append_nil, stands_here, notes_push, notes_made}
use Rattle.pgo_resource.proofs.plain_board.PlainBoardBoard.note.Goals as goal

pub overflow_cast-position : goal.overflow_cast-position
overflow_cast-position g c = let a = c.args.self.now in omega (arith, c.len-position.ensures, a.entries.ok.0, a.within_steps)

pub invariant_of-self : goal.invariant_of-self
invariant_of-self g c = let a = c.args.self.now in record {
  is_layout = a.is_layout;
  has_all = a.has_all;
  as_many = a.as_many;
  held_once = a.held_once;
  own_entries = a.own_entries;
  unheld = a.unheld;
  within_steps = a.within_steps;
  own_notes = ap (λ l. notes_of a.instance (map note_view l)) c.push_reserved.ensures.items ∙ notes_push a.instance a.notes.items _ c.requires.may.instance ∙ omega (arith, a.own_notes, c.push_reserved.ensures.len, a.notes.ok.0, c.push_reserved.new.self.ok.0);
  held_room = a.held_room;
  entry_room = a.entry_room;
  note_room = omega (arith, c.push_reserved.ensures.capacity, a.note_room);
}

pub returns-clause-ok : goal.returns-clause-ok
returns-clause-ok g c = let a = c.args.self.now in record {
  same = record { instance = refl; resources = refl; steps = refl; share = refl };
  entries_more = [];
  notes_more = [];
  others = tt;
  other_notes = tt;
  entries = sym (append_nil (map entry_view a.entries.items));
  notes = notes_made a.notes.items c.push_reserved.new.self.items _ c.push_reserved.ensures.items;
  position_is = omega (arith, c.len-position.ensures, a.entries.ok.0, map_length entry_view a.entries.items);
  stands = stands_here (board_layout a) a.is_layout a.instance g.R.Resource.shows a.entries.items a.contents.items a.held.items (shows_of a) a.has_all a.own_entries refl refl refl c.requires.may.steady;
  held = refl;
  told = refl;
  last = refl;
}
