use Rattle.std.proofs.Common.{◌≡◌, ◌≤◌, ◌*◌, ◌-◌, ℕ, suc, true, None, length, refl, sym, subst, arith, vec_len}
use Rattle.std.specs.Prelude.{nat_le}
use Rattle.pgo_syntax.specs.RecordView.{note_view}
use Rattle.pgo_workers.specs.View.{Notes, notes_of}
use Rattle.pgo_workers.specs.Worlds.{IsLayout, HasAll, world_of}
use Rattle.pgo_resource.specs.PlainRows.{FreeStands}
use Rattle.pgo_core.specs.AllViews.{Leaves}
use Rattle.pgo_core.specs.Claims.{claimed}
use Rattle.pgo_core.specs.ExclusiveRows.{layout_with, values_behind, are_own, are_of_all}
use Rattle.pgo_core.specs.ExclusiveBoards.{board_layout, shows_of, views_of}
use Rattle.pgo_journal.specs.Journal.{JournalView}
use Rattle.pgo_core.proofs.NotesBound.{shares_push, all_push}
use Rattle.pgo_core.proofs.BoardSteps.{seen, all_seen, note_room, notes, note_leaves}
use Rattle.pgo_core.proofs.exclusive_board.ExclusiveBoardBoard.note.Goals as goal

pub note-position-requires : goal.note-position-requires
note-position-requires g c = note_room c.args.self.now (note_view c.args.n) c.requires.may

pub invariant_of-self : goal.invariant_of-self
invariant_of-self g c =
    let a = c.args.self.now in let n = note_view c.args.n in let m = c.requires.may in let is = sym {A = JournalView} c.note-position.ensures.noted in
    let near : nat_le n.instance (length (board_layout a).ids - 1) ≡ true = (let s = a.current_there in let t = m.instance in grind (arith, s, t)) in record {
      is_layout = subst (λ j. IsLayout (layout_with a.layout j)) is a.is_layout;
      has_all = subst (λ j. HasAll (layout_with a.layout j) j.start) is a.has_all;
      as_many = a.as_many;
      held_once = a.held_once;
      holders = a.holders;
      current_there = a.current_there;
      own_entries = subst (λ j. are_own (layout_with a.layout j) j.entries ≡ true) is a.own_entries;
      unheld = subst (λ j. FreeStands g.R.Resource.shows (vec_len a.contents) (values_behind (layout_with a.layout j) j.entries) a.contents.items (claimed a.claims.items)) is a.unheld;
      within_steps = subst (λ j. length j.entries ≤ j.steps) is a.within_steps;
      shares = subst (λ j. (i : ℕ) → notes_of i j.notes ≤ a.share) is (shares_push a.share a.current a.journal.notes _ m.instance m.share a.shares);
      noted_by = subst (λ j. are_of_all (length (board_layout a).ids - 1) j.notes ≡ true) is (all_push (length (board_layout a).ids - 1) a.journal.notes _ a.noted_by near);
      note_room = subst (λ j. j.room ≡ a.share * suc (length (board_layout a).ids - 1)) is a.note_room;
      refused = refl;
      claim_room = a.claim_room;
    }

pub returns-clause-stays : goal.returns-clause-stays
returns-clause-stays g c =
    let a = c.args.self.now in
    subst (λ j. Leaves (views_of a) (all_seen a a.claims.items None j a.moved)) (sym {A = JournalView} c.note-position.ensures.noted) (note_leaves a (note_view c.args.n) c.requires.may c.note-position.result c.note-position.ensures.position)

pub returns-clause-ok : goal.returns-clause-ok
returns-clause-ok g c =
    let a = c.args.self.now in let n = note_view c.args.n in
    subst (λ j. Notes (world_of (board_layout a)) n c.note-position.result (shows_of a) (seen a a.claims.items None j a.current)) (sym {A = JournalView} c.note-position.ensures.noted)
    (notes a n c.requires.may c.note-position.result c.note-position.ensures.position)
