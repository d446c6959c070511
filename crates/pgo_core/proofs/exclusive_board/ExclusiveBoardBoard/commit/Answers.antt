use Rattle.std.proofs.Common.{◌≡◌, ◌≤◌, ◌*◌, ◌-◌, ℕ, suc, true, None, Some, length, refl, sym, ap, ◌∙◌, subst, arith, vec_len}
use Rattle.pgo_model.specs.LogView.{entry_view}
use Rattle.pgo_syntax.specs.declared.records.Refusal.TheVariants as refusals
use Rattle.pgo_workers.specs.View.{Commits, JournalFull, notes_of}
use Rattle.pgo_workers.specs.Worlds.{IsLayout, HasAll, world_of}
use Rattle.pgo_resource.specs.PlainRows.{FreeStands}
use Rattle.pgo_core.specs.AllViews.{Leaves}
use Rattle.pgo_core.specs.Claims.{claimed}
use Rattle.pgo_core.specs.ExclusiveRows.{layout_with, values_behind, are_own, are_of_all}
use Rattle.pgo_core.specs.ExclusiveBoards.{board_layout, shows_of, views_of}
use Rattle.pgo_journal.specs.Journal.{JournalView}
use Rattle.pgo_core.proofs.Entries.{own_push, one_more}
use Rattle.pgo_core.proofs.BoardSteps.{seen, all_seen, appends, commit_free, commits, commit_leaves, full, last_leaves}
use Rattle.pgo_core.proofs.exclusive_board.ExclusiveBoardBoard.commit.Goals as goal

pub append-appended-requires : goal.append-appended-requires
append-appended-requires g c = appends c.args.self.now (entry_view c.args.e) c.requires.may

pub invariant_of-self : goal.invariant_of-self
invariant_of-self g c =
    let a = c.args.self.now in let e = entry_view c.args.e in let m = c.requires.may in let is = sym {A = JournalView} c.in-Ok.ensures.appended in
    let room : length a.journal.entries ≡ a.journal.steps → ⊥ = λ q. let z = c.in-Ok.ensures.full.1 q in grind (arith, z) in record {
      is_layout = subst (λ j. IsLayout (layout_with a.layout j)) is a.is_layout;
      has_all = subst (λ j. HasAll (layout_with a.layout j) j.start) is a.has_all;
      as_many = a.as_many;
      held_once = a.held_once;
      holders = a.holders;
      current_there = a.current_there;
      own_entries = subst (λ j. are_own (layout_with a.layout j) j.entries ≡ true) is (own_push (board_layout a) a.journal.entries e a.own_entries m.is_of);
      unheld = subst (λ j. FreeStands g.R.Resource.shows (vec_len a.contents) (values_behind (layout_with a.layout j) j.entries) a.contents.items (claimed a.claims.items)) is (commit_free a e m);
      within_steps = subst (λ j. length j.entries ≤ j.steps) is (one_more a.journal.entries e a.journal.steps a.within_steps room);
      shares = subst (λ j. (i : ℕ) → notes_of i j.notes ≤ a.share) is a.shares;
      noted_by = subst (λ j. are_of_all (length (board_layout a).ids - 1) j.notes ≡ true) is a.noted_by;
      note_room = subst (λ j. j.room ≡ a.share * suc (length (board_layout a).ids - 1)) is a.note_room;
      refused = refl;
      claim_room = a.claim_room;
    }

pub invariant_of-self-in-Err : goal.invariant_of-self-in-Err
invariant_of-self-in-Err g c =
    let a = c.args.self.now in let is = sym {A = JournalView} c.in-Err.ensures.unchanged in record {
      is_layout = subst (λ j. IsLayout (layout_with a.layout j)) is a.is_layout;
      has_all = subst (λ j. HasAll (layout_with a.layout j) j.start) is a.has_all;
      as_many = a.as_many;
      held_once = a.held_once;
      holders = a.holders;
      current_there = a.current_there;
      own_entries = subst (λ j. are_own (layout_with a.layout j) j.entries ≡ true) is a.own_entries;
      unheld = subst (λ j. FreeStands g.R.Resource.shows (vec_len a.contents) (values_behind (layout_with a.layout j) j.entries) a.contents.items (claimed a.claims.items)) is a.unheld;
      within_steps = subst (λ j. length j.entries ≤ j.steps) is a.within_steps;
      shares = subst (λ j. (i : ℕ) → notes_of i j.notes ≤ a.share) is a.shares;
      noted_by = subst (λ j. are_of_all (length (board_layout a).ids - 1) j.notes ≡ true) is a.noted_by;
      note_room = subst (λ j. j.room ≡ a.share * suc (length (board_layout a).ids - 1)) is a.note_room;
      refused = refl;
      claim_room = a.claim_room;
    }

pub returns-in-Ok-clause-stays : goal.returns-in-Ok-clause-stays
returns-in-Ok-clause-stays g c =
    let a = c.args.self.now in
    subst (λ j. Leaves (views_of a) (all_seen a a.claims.items None j a.moved)) (sym {A = JournalView} c.in-Ok.ensures.appended) (commit_leaves a (entry_view c.args.e) c.requires.may)

pub returns-in-Ok-clause-ok : goal.returns-in-Ok-clause-ok
returns-in-Ok-clause-ok g c =
    let a = c.args.self.now in let e = entry_view c.args.e in
    subst (λ j. Commits (world_of (board_layout a)) e c.in-Ok.n (shows_of a) (seen a a.claims.items None j a.current)) (sym {A = JournalView} c.in-Ok.ensures.appended)
    (commits a e c.requires.may c.in-Ok.n (c.in-Ok.ensures.number ∙ ap (λ j. length j.entries) c.in-Ok.ensures.appended))

pub returns-in-Err-clause-stays : goal.returns-in-Err-clause-stays
returns-in-Err-clause-stays g c =
    let a = c.args.self.now in let l = Some (refusals.Full c.in-Err.full.entries) in
    subst (λ j. Leaves (views_of a) (all_seen a a.claims.items l j a.moved)) (sym {A = JournalView} c.in-Err.ensures.unchanged) (last_leaves a l)

pub returns-in-Err-clause-err : goal.returns-in-Err-clause-err
returns-in-Err-clause-err g c =
    let a = c.args.self.now in let f = c.in-Err.full in let l = Some (refusals.Full f.entries) in (
      ap (λ f. f.entry) c.in-Err.ensures.refused,
      subst (λ j. JournalFull (world_of (board_layout a)) f.entries (shows_of a) (seen a a.claims.items l j a.current)) (sym {A = JournalView} c.in-Err.ensures.unchanged)
          (full a f.entries (ap (λ f. f.entries) c.in-Err.ensures.refused) (c.in-Err.ensures.full.0 refl)),
    )
