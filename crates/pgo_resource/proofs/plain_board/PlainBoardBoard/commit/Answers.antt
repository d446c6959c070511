use Rattle.std.proofs.Common.{◌≡◌, true, [], ◌∷◌, ◌++◌, map, refl, sym, ap, ◌∙◌, subst, arith, vec_len}
use Rattle.std.proofs.lemmas.List.{map_push}
use Rattle.pgo_model.specs.LogView.{entry_view}
use Rattle.pgo_syntax.specs.RecordView.{note_view}
use Rattle.pgo_workers.specs.Worlds.{world_of}
use Rattle.pgo_resource.specs.PlainRows.{are_of, values_at}
use Rattle.pgo_resource.specs.PlainSets.{map_length}
use Rattle.pgo_resource.specs.PlainBoards.{board_layout, shows_of, here}
use Rattle.pgo_resource.proofs.PlainSteps.{append_nil, nothing_grows, are_push, values_push, stands_here, rows_renewed, free_commit}
use Rattle.pgo_resource.proofs.plain_board.PlainBoardBoard.commit.Goals as goal

pub returns-then-len-self-clause-err : goal.returns-then-len-self-clause-err
returns-then-len-self-clause-err g c = let a = c.args.self.now in (
  refl,
  record {
    same = record { instance = refl; resources = refl; steps = refl; share = refl };
    grows = nothing_grows (board_layout a) _ _ refl refl;
    full = refl;
    is_full = map_length entry_view a.entries.items ∙ omega (arith, c.if-len-self.true, c.len.ensures, a.entries.ok.0);
    held = refl;
    told = refl;
    last = refl;
  },
)

pub invariant_of-self-2 : goal.invariant_of-self-2
invariant_of-self-2 g c = let a = c.args.self.now in let y = board_layout a in let e = c.args.e in let news = c.push_reserved.new.self.items in
    let is = subst (λ k. (world_of y).is_of k (entry_view e).change ≡ true) c.requires.may.instance c.requires.may.is_of in record {
      is_layout = a.is_layout;
      has_all = a.has_all;
      as_many = a.as_many;
      held_once = a.held_once;
      own_entries = ap (are_of y a.instance) c.push_reserved.ensures.items ∙ are_push y a.instance a.entries.items e a.own_entries c.requires.may.instance is;
      unheld = free_commit g.R.Resource.shows (vec_len a.contents) (here a) (values_at y news) ((world_of y).changes (entry_view e).change) a.contents.items a.held.items
          (values_push y a.is_layout a.instance a.entries.items news e c.push_reserved.ensures.items a.has_all a.own_entries is (vec_len a.contents) a.as_many) c.requires.may.changes a.unheld;
      within_steps = omega (arith, a.within_steps, c.if-len-self.false, c.len.ensures, a.entries.ok.0, c.push_reserved.ensures.len, c.push_reserved.new.self.ok.0);
      own_notes = a.own_notes;
      held_room = a.held_room;
      entry_room = omega (arith, c.push_reserved.ensures.capacity, a.entry_room);
      note_room = a.note_room;
    }

pub returns-clause-ok : goal.returns-clause-ok
returns-clause-ok g c = let a = c.args.self.now in let y = board_layout a in let e = c.args.e in let items = c.push_reserved.ensures.items in
    let is = subst (λ k. (world_of y).is_of k (entry_view e).change ≡ true) c.requires.may.instance c.requires.may.is_of in
    let log = ap (map entry_view) items ∙ map_push entry_view a.entries.items e in record {
      same = record { instance = refl; resources = refl; steps = refl; share = refl };
      entries_more = [];
      notes_more = [];
      others = tt;
      other_notes = tt;
      entries = log ∙ ap (λ l. l ++ entry_view e ∷ []) (sym (append_nil (map entry_view a.entries.items)));
      notes = sym (append_nil (map note_view a.notes.items));
      number = omega (arith, c.len-2.ensures, c.push_reserved.new.self.ok.0, map_length entry_view c.push_reserved.new.self.items);
      stands = stands_here y a.is_layout a.instance g.R.Resource.shows a.entries.items a.contents.items a.held.items (shows_of a) a.has_all a.own_entries refl refl refl c.requires.may.steady;
      held = rows_renewed g.R.Resource.shows (vec_len a.contents) (here a) (values_at y c.push_reserved.new.self.items) ((world_of y).changes (entry_view e).change) a.contents.items a.held.items
          (values_push y a.is_layout a.instance a.entries.items c.push_reserved.new.self.items e items a.has_all a.own_entries is (vec_len a.contents) a.as_many) a.held_once;
      told = refl;
      last = refl;
    }
