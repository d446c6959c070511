use Rattle.std.proofs.Common.{◌<◌, [], ◌∷◌, ◌++◌, length, refl, sym, ap, ◌∙◌, arith, vec_len}
use Rattle.pgo_sections.proofs.Domains.{same_of}
use Rattle.pgo_workers.specs.View.{Shown}
use Rattle.pgo_resource.specs.PlainRows.{taken_of, apart, shown_at, rows}
use Rattle.pgo_resource.specs.PlainBoards.{board_layout, here}
use Rattle.pgo_resource.proofs.PlainPlaces.{room, taken_push, taken_length, apart_push}
use Rattle.pgo_resource.proofs.PlainSteps.{nothing_grows, rows_push, not_held, shown_get_or, free_push, of_fits}
use Rattle.pgo_resource.proofs.plain_board.PlainBoardBoard.take.Goals as goal

pub push_reserved-requires : goal.push_reserved-requires
push_reserved-requires g c = let a = c.args.self.now in
    let out = not_held g.R.Resource.shows (here a) a.contents.items a.held.items c.args.r c.requires.free in
    omega (arith, room (vec_len a.contents) c.args.r (taken_of a.held.items) a.held_once c.requires.inside out, taken_length a.held.items, a.held.ok.0, a.held_room)

pub invariant_of-self : goal.invariant_of-self
invariant_of-self g c = let a = c.args.self.now in
    let out = not_held g.R.Resource.shows (here a) a.contents.items a.held.items c.args.r c.requires.free in record {
      is_layout = a.is_layout;
      has_all = a.has_all;
      as_many = a.as_many;
      held_once = ap (λ l. apart (vec_len a.contents) (taken_of l)) c.push_reserved.ensures.items ∙ ap (apart (vec_len a.contents)) (taken_push a.held.items _) ∙ apart_push (vec_len a.contents) c.args.r (taken_of a.held.items) a.held_once c.requires.inside out;
      own_entries = a.own_entries;
      unheld = free_push g.R.Resource.shows (vec_len a.contents) (here a) a.contents.items a.held.items c.push_reserved.new.self.items _ c.push_reserved.ensures.items a.unheld;
      within_steps = a.within_steps;
      own_notes = a.own_notes;
      held_room = omega (arith, c.push_reserved.ensures.capacity, a.held_room);
      entry_room = a.entry_room;
      note_room = a.note_room;
    }

pub returns-clause-ok : goal.returns-clause-ok
returns-clause-ok g c = let a = c.args.self.now in let r = c.args.r in
    let M = g.R.Resource.shows in
    let x : Shown = shown_at M a.contents.items r in
    let out = not_held M (here a) a.contents.items a.held.items r c.requires.free in
    let f = a.unheld r c.requires.inside out in
    let base = same_of x.base (here a r) f.0 in
    let current = same_of x.current (here a r) f.1 in
    let near : r < length a.contents.items = omega (arith, c.requires.inside, a.contents.ok.0) in
    let count = c.count-count.ensures ∙ ap (λ (s : Shown). s.count) (sym (shown_get_or M a.contents.items r c.index.result.now near c.index.ensures)) in record {
      same = record { instance = refl; resources = refl; steps = refl; share = refl };
      grows = nothing_grows (board_layout a) _ _ refl refl;
      value = here a r;
      count = c.count-count.result;
      number = x.number;
      numbered = of_fits x.number r f.2;
      held = ap (rows M (here a) a.contents.items) c.push_reserved.ensures.items ∙ rows_push M (here a) a.contents.items a.held.items _
          ∙ (λ i. rows M (here a) a.contents.items a.held.items ++ record { resource = r; value = here a r; count = c.count-count.result; content = record { base = base i; current = current i; count = sym count i; number = x.number } } ∷ []);
      told = refl;
      last = refl;
    }
