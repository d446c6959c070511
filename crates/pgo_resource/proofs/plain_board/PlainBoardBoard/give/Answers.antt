use Rattle.std.proofs.Common.{refl, ap, ◌∙◌, arith, vec_len}
use Rattle.pgo_resource.specs.PlainRows.{taken_of, apart, rows}
use Rattle.pgo_resource.specs.PlainBoards.{board_layout, here}
use Rattle.pgo_resource.proofs.PlainPlaces.{drop_apart, taken_without}
use Rattle.pgo_resource.proofs.PlainSteps.{nothing_grows, rows_without, free_give}
use Rattle.pgo_resource.proofs.plain_board.PlainBoardBoard.give.Goals as goal

pub invariant_of-self : goal.invariant_of-self
invariant_of-self g c = let a = c.args.self.now in let m = c.requires.may in record {
  is_layout = a.is_layout;
  has_all = a.has_all;
  as_many = a.as_many;
  held_once = ap (λ l. apart (vec_len a.contents) (taken_of l)) c.forget.ensures.rest ∙ ap (apart (vec_len a.contents)) (taken_without a.held.items c.args.r) ∙ drop_apart (vec_len a.contents) c.args.r (taken_of a.held.items) a.held_once;
  own_entries = a.own_entries;
  unheld = free_give g.R.Resource.shows (vec_len a.contents) (here a) a.contents.items a.held.items c.forget.new.held.items c.args.r m.hold c.forget.ensures.rest m.is_held m.base m.current m.number a.unheld;
  within_steps = a.within_steps;
  own_notes = a.own_notes;
  held_room = omega (arith, c.forget.ensures.capacity, a.held_room);
  entry_room = a.entry_room;
  note_room = a.note_room;
}

pub returns-clause-gives : goal.returns-clause-gives
returns-clause-gives g c = let a = c.args.self.now in record {
  same = record { instance = refl; resources = refl; steps = refl; share = refl };
  grows = nothing_grows (board_layout a) _ _ refl refl;
  held = ap (rows g.R.Resource.shows (here a) a.contents.items) c.forget.ensures.rest ∙ rows_without g.R.Resource.shows (vec_len a.contents) (here a) a.contents.items a.held.items c.args.r a.held_once;
  told = λ h at. refl;
  last = refl;
}
