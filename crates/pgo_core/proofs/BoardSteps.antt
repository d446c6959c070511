-- What each call of a board of all instances does to what it shows.
use Rattle.std.proofs.Common.{◌≡◌, ◌<◌, ◌-◌, ℕ, Bool, true, false, List, [], ◌∷◌, ◌++◌, length, get_or, Option, Some, None, refl, sym, ap, ◌∙◌, subst, arith}
use Rattle.std.proofs.lemmas.List.{append-nil}
use Rattle.std.specs.Prelude.{if◌then◌else◌, nat_eq, vec_len, IsSome}
use Rattle.pgo_journal.specs.Journal.{JournalView, MayAppend, with_entry, with_note, placed}
use Rattle.pgo_model.specs.Log.{Effect}
use Rattle.pgo_model.specs.Machine.{Entry, Note, among}
use Rattle.pgo_sections.proofs.Domains.{same_of}
use Rattle.pgo_syntax.specs.declared.records.Refusal.{Refusal}
use Rattle.pgo_syntax.specs.declared.records.Refusal.TheVariants as refusals
use Rattle.pgo_workers.specs.View as view
use Rattle.pgo_workers.specs.View.{Shown, View, Grows, Takes, TakeHeld, Commits, Notes, JournalFull, Gives, MayCommit, MayNote, MayGive, hold_at, resources_of}
use Rattle.pgo_workers.specs.Worlds.{Layout, world_of}
use Rattle.pgo_resource.specs.declared.resource.Resource.{Ghosts}
use Rattle.pgo_resource.specs.PlainRows.{taken_of, apart, shown_at, rows, FreeStands}
use Rattle.pgo_resource.specs.PlainSets.{held_among}
use Rattle.pgo_resource.proofs.PlainPlaces.{room, apart_push, drop_apart}
use Rattle.pgo_resource.proofs.PlainSteps.{rows_push, not_held, shown_get_or, of_fits, rows_renewed, rows_without}
use Rattle.pgo_core.specs.declared.claims.Claim.{Claim}
use Rattle.pgo_core.specs.declared.exclusive_board.ExclusiveBoard.{ExclusiveBoard}
use Rattle.pgo_core.specs.AllViews.{AllViews, Leaves}
use Rattle.pgo_core.specs.Claims.{claimed, taken_by, taken_in, holder_of, without_claim}
use Rattle.pgo_core.specs.ClaimLaws.{none_by, by_apart, not_else, resources_rows}
use Rattle.pgo_core.specs.ExclusiveRows.{layout_with, values_behind, is_refused, seen_from}
use Rattle.pgo_core.specs.ExclusiveBoards.{board_layout, here, view_at, shows_of, views_of}
use Rattle.pgo_core.proofs.ClaimSteps.{nobody, holds, holder_within, is_instance, claimed_push, claimed_length, claimed_without, taken_push_own, taken_push_else, taken_without_own, taken_without_else}
use Rattle.pgo_core.proofs.Contents.{free_commit, rows_stay, rows_values}
use Rattle.pgo_core.proofs.Entries.{values_push, may_append, stands_here}
use Rattle.pgo_core.proofs.NotesBound.{notes_left}
use Rattle.pgo_core.proofs.LeavesSteps.{leaves_last, leaves_more, leaves_moved}

-- nobody else is there
nothing_grows : (y : Layout) (b c : View Effect) → c.entries ≡ b.entries → c.notes ≡ b.notes → Grows (world_of y) b c
nothing_grows y b c e n = record { entries_more = []; notes_more = []; entries = e ∙ sym (append-nil b.entries); notes = n ∙ sym (append-nil b.notes); others = tt; other_notes = tt }

module _ {R : Type 0} {g : Ghosts R} (a : ExclusiveBoard R g) where
  abbrev last_instance : ℕ
  last_instance = length (board_layout a).ids - 1

  -- with other claims, another refusal and another journal
  abbrev pub seen : List Claim → Option Refusal → JournalView → ℕ → View Effect
  seen = seen_from g.shows a.layout (vec_len a.contents) a.share a.contents.items

  abbrev pub all_seen : List Claim → Option Refusal → JournalView → Bool → AllViews Effect
  all_seen cs l j moved = record { current = a.current; view = seen cs l j; content = shown_at g.shows a.contents.items; lent = a.lent; moved = moved }

  mine_apart : (k : ℕ) → apart (vec_len a.contents) (taken_of (taken_by k a.claims.items)) ≡ true
  mine_apart k = by_apart (vec_len a.contents) k a.claims.items a.held_once

  -- ---- take

  pub somebody_holds : (r h : ℕ) → holder_of a.claims.items r ≡ Some h → among r (resources_of (view_at a h).held) ≡ true
  somebody_holds r h e = ap (among r) (resources_rows g.shows (here a) a.contents.items (taken_by h a.claims.items)) ∙ holds a.claims.items r h e

  pub nobody_holds : (r : ℕ) → holder_of a.claims.items r ≡ None → (h : ℕ) → among r (resources_of (view_at a h).held) ≡ true → ⊥
  nobody_holds r none h e =
      let x = none_by h r a.claims.items (nobody a.claims.items r none) in
      let y = ap (among r) (sym (resources_rows g.shows (here a) a.contents.items (taken_by h a.claims.items))) ∙ e in grind (arith, sym x ∙ y)

  module _ (r : ℕ) (free : hold_at (shows_of a).held r ≡ None) where
    not_mine : among r (taken_of (taken_by a.current a.claims.items)) ≡ false
    not_mine = not_held g.shows (here a) a.contents.items (taken_by a.current a.claims.items) r free

    pub other_holds : (h : ℕ) → holder_of a.claims.items r ≡ Some h → (h ≡ a.current → ⊥)
    other_holds h e same = let x = holds a.claims.items r h e in let y = ap (λ k. among r (taken_of (taken_by k a.claims.items))) (sym same) in let z = not_mine in grind (arith, x, sym x ∙ sym y ∙ z)

    pub refused_is : (h : ℕ) → holder_of a.claims.items r ≡ Some h → is_refused (Some (refusals.Held r h)) a.current a.claims.items ≡ true
    refused_is h e = go (nat_eq h a.current) refl
      where
        go : (b : Bool) → nat_eq h a.current ≡ b → (if b then false else among r (taken_of (taken_by h a.claims.items))) ≡ true
        go true q = absurd (other_holds h e (grind (arith, q)))
        go false q = holds a.claims.items r h e

    pub take_held : (h : ℕ) → holder_of a.claims.items r ≡ Some h → TakeHeld (world_of (board_layout a)) r h (shows_of a) (seen a.claims.items (Some (refusals.Held r h)) a.journal a.current)
    take_held h e = record {
      same = record { instance = refl; resources = refl; steps = refl; share = refl };
      grows = nothing_grows (board_layout a) _ _ refl refl;
      other = other_holds h e;
      there = is_instance (length (board_layout a).ids) h a.current (holder_within last_instance a.claims.items r h a.holders e) a.current_there (other_holds h e);
      held = refl;
      told = refl;
      last = refl;
    }

    module _ (inside : r < vec_len a.contents) (none : holder_of a.claims.items r ≡ None) where
      pub out : among r (claimed a.claims.items) ≡ false
      out = nobody a.claims.items r none

      pub take_room : length a.claims.items < vec_len a.contents
      take_room = subst (λ n. n < vec_len a.contents) (claimed_length a.claims.items) (room (vec_len a.contents) r (claimed a.claims.items) a.held_once inside out)

      module _ (c : Claim) (resource : c.resource ≡ r) (holder : c.holder ≡ a.current) where
        pub take_once : apart (vec_len a.contents) (claimed (a.claims.items ++ c ∷ [])) ≡ true
        take_once =
            ap (apart (vec_len a.contents)) (claimed_push a.claims.items c ∙ ap (λ q. claimed a.claims.items ++ q ∷ []) resource)
            ∙ apart_push (vec_len a.contents) r (claimed a.claims.items) a.held_once inside out

        pub takes : (x : R) → r < length a.contents.items → x ≡ get_or a.contents.items r x → c.count ≡ (g.shows x).count → Takes (world_of (board_layout a)) r (shows_of a) (seen (a.claims.items ++ c ∷ []) None a.journal a.current)
        takes x near at counted =
            let z : Shown = shown_at g.shows a.contents.items r in
            let f = a.unheld r inside out in
            let base = same_of z.base (here a r) f.0 in
            let current = same_of z.current (here a r) f.1 in
            let count : c.count ≡ z.count = counted ∙ ap (λ (s : Shown). s.count) (sym (shown_get_or g.shows a.contents.items r x near at)) in record {
              same = record { instance = refl; resources = refl; steps = refl; share = refl };
              grows = nothing_grows (board_layout a) _ _ refl refl;
              value = here a r;
              count = c.count;
              number = z.number;
              numbered = of_fits z.number r f.2;
              held = ap (rows g.shows (here a) a.contents.items) (taken_push_own a.current a.claims.items c holder) ∙ rows_push g.shows (here a) a.contents.items (taken_by a.current a.claims.items) (taken_in c)
                  ∙ (λ i. rows g.shows (here a) a.contents.items (taken_by a.current a.claims.items) ++ record { resource = resource i; value = here a (resource i); count = c.count; content = shown_at g.shows a.contents.items (resource i) } ∷ [])
                  ∙ (λ i. rows g.shows (here a) a.contents.items (taken_by a.current a.claims.items) ++ record { resource = r; value = here a r; count = c.count; content = record { base = base i; current = current i; count = sym count i; number = z.number } } ∷ []);
              told = refl;
              last = refl;
            }

        pub take_leaves : Leaves (views_of a) (all_seen (a.claims.items ++ c ∷ []) None a.journal true)
        take_leaves = leaves_moved (views_of a) (λ j. (seen (a.claims.items ++ c ∷ []) None a.journal j).held) (λ j. None)
            (λ j ne. ap (rows g.shows (here a) a.contents.items) (taken_push_else j a.claims.items c (λ e. ne (sym e ∙ holder))))

  pub last_leaves : (l : Option Refusal) → Leaves (views_of a) (all_seen a.claims.items l a.journal a.moved)
  last_leaves l = leaves_last (views_of a) (λ j. (seen a.claims.items l a.journal j).last)

  -- ---- commit

  pub full : (n : ℕ) → n ≡ a.journal.steps → length a.journal.entries ≡ a.journal.steps → JournalFull (world_of (board_layout a)) n (shows_of a) (seen a.claims.items (Some (refusals.Full n)) a.journal a.current)
  full n e is = record {
    same = record { instance = refl; resources = refl; steps = refl; share = refl };
    grows = nothing_grows (board_layout a) _ _ refl refl;
    full = e;
    is_full = is;
    held = refl;
    told = refl;
    last = ap (λ n. Some (view.IsFull n)) refl;
  }

  module _ (e : Entry Effect) (may : MayCommit (world_of (board_layout a)) e (shows_of a)) where
    abbrev new : JournalView
    new = with_entry e a.journal

    pub appends : MayAppend a.journal e
    appends = may_append (board_layout a) a.is_layout a.journal.entries a.has_all a.own_entries a.journal e refl refl may.is_of

    pushed : (r : ℕ) → r < vec_len a.contents → values_behind (board_layout a) new.entries r ≡ view.changed ((world_of (board_layout a)).changes e.change) r (here a r)
    pushed = values_push (board_layout a) a.is_layout a.journal.entries a.has_all a.own_entries e may.is_of (vec_len a.contents) a.as_many

    pub commit_free : FreeStands g.shows (vec_len a.contents) (values_behind (layout_with a.layout new) new.entries) a.contents.items (claimed a.claims.items)
    commit_free = free_commit g.shows (vec_len a.contents) (here a) (values_behind (board_layout a) new.entries) ((world_of (board_layout a)).changes e.change) a.contents.items a.claims.items a.current pushed may.changes a.unheld

    held_stays : (j : ℕ) → (j ≡ a.current → ⊥) → (seen a.claims.items None new j).held ≡ (view_at a j).held
    held_stays j ne =
        rows_stay g.shows (vec_len a.contents) (here a) (values_behind (board_layout a) new.entries) ((world_of (board_layout a)).changes e.change) a.contents.items a.claims.items a.current pushed may.changes (taken_by j a.claims.items) (mine_apart j)
        (λ r there. not_else (vec_len a.contents) j a.current r a.claims.items a.held_once there (λ z. ne (sym z)))

    same_resources : resources_of (seen a.claims.items None new a.current).held ≡ resources_of (view_at a a.current).held
    same_resources =
        resources_rows g.shows (values_behind (board_layout a) new.entries) a.contents.items (taken_by a.current a.claims.items)
        ∙ sym (resources_rows g.shows (here a) a.contents.items (taken_by a.current a.claims.items))

    pub commits : (n : ℕ) → n ≡ length new.entries → Commits (world_of (board_layout a)) e n (shows_of a) (seen a.claims.items None new a.current)
    commits n number = record {
      same = record { instance = refl; resources = refl; steps = refl; share = refl };
      entries_more = [];
      notes_more = [];
      others = tt;
      other_notes = tt;
      entries = ap (λ l. l ++ e ∷ []) (sym (append-nil a.journal.entries));
      notes = sym (append-nil a.journal.notes);
      number = number;
      stands = stands_here (board_layout a) a.is_layout a.journal.entries a.has_all a.own_entries (shows_of a) refl (rows_values g.shows (here a) a.contents.items (taken_by a.current a.claims.items)) may.steady;
      held = rows_renewed g.shows (vec_len a.contents) (here a) (values_behind (board_layout a) new.entries) ((world_of (board_layout a)).changes e.change) a.contents.items (taken_by a.current a.claims.items) pushed (mine_apart a.current);
      told = refl;
      last = refl;
    }

    pub commit_leaves : Leaves (views_of a) (all_seen a.claims.items None new a.moved)
    commit_leaves = leaves_more (views_of a) (λ j. (seen a.claims.items None new j).held) (λ j. new.entries) (λ j. new.notes) (e ∷ []) [] (λ j. None) held_stays same_resources
        (λ j. refl) (λ j. sym (append-nil a.journal.notes)) (may.instance, tt) tt

  -- ---- note

  module _ (n : Note) (may : MayNote (world_of (board_layout a)) n (shows_of a)) where
    pub note_room : length a.journal.notes < a.journal.room
    note_room = subst (λ r. length a.journal.notes < r) (sym a.note_room) (notes_left a.share last_instance a.current a.journal.notes a.shares a.noted_by a.current_there may.share)

    module _ (p : ℕ) (position : p ≡ length a.journal.entries) where
      abbrev noted : JournalView
      noted = with_note (placed p n) a.journal

      pub notes : Notes (world_of (board_layout a)) n p (shows_of a) (seen a.claims.items None noted a.current)
      notes = record {
        same = record { instance = refl; resources = refl; steps = refl; share = refl };
        entries_more = [];
        notes_more = [];
        others = tt;
        other_notes = tt;
        entries = sym (append-nil a.journal.entries);
        notes = ap (λ l. l ++ placed p n ∷ []) (sym (append-nil a.journal.notes));
        position_is = position;
        stands = stands_here (board_layout a) a.is_layout a.journal.entries a.has_all a.own_entries (shows_of a) refl (rows_values g.shows (here a) a.contents.items (taken_by a.current a.claims.items)) may.steady;
        held = refl;
        told = refl;
        last = refl;
      }

      pub note_leaves : Leaves (views_of a) (all_seen a.claims.items None noted a.moved)
      note_leaves = leaves_more (views_of a) (λ j. (view_at a j).held) (λ j. noted.entries) (λ j. noted.notes) [] (placed p n ∷ []) (λ j. None) (λ j ne. refl) refl
          (λ j. sym (append-nil a.journal.entries)) (λ j. refl) tt (may.instance, tt)

  -- ---- give

  module _ (r : ℕ) (may : MayGive r (shows_of a)) where
    mine : among r (taken_of (taken_by a.current a.claims.items)) ≡ true
    mine = held_among g.shows (here a) a.contents.items (taken_by a.current a.claims.items) r (subst (λ o. IsSome o) (sym may.is_held) refl)

    pub give_once : apart (vec_len a.contents) (claimed (without_claim a.claims.items r)) ≡ true
    give_once = ap (apart (vec_len a.contents)) (claimed_without a.claims.items r) ∙ drop_apart (vec_len a.contents) r (claimed a.claims.items) a.held_once

    pub gives : Gives (world_of (board_layout a)) r (shows_of a) (seen (without_claim a.claims.items r) a.last a.journal a.current)
    gives = record {
      same = record { instance = refl; resources = refl; steps = refl; share = refl };
      grows = nothing_grows (board_layout a) _ _ refl refl;
      held = ap (rows g.shows (here a) a.contents.items) (taken_without_own (vec_len a.contents) r a.current a.claims.items a.held_once mine) ∙ rows_without g.shows (vec_len a.contents) (here a) a.contents.items (taken_by a.current a.claims.items) r (mine_apart a.current);
      told = λ h at. refl;
      last = refl;
    }

    else_stays : (j : ℕ) → (j ≡ a.current → ⊥) → taken_by j (without_claim a.claims.items r) ≡ taken_by j a.claims.items
    else_stays j ne = taken_without_else (vec_len a.contents) r a.current j ne a.claims.items a.held_once mine

    pub give_leaves : Leaves (views_of a) (all_seen (without_claim a.claims.items r) a.last a.journal true)
    give_leaves = leaves_moved (views_of a) (λ j. (seen (without_claim a.claims.items r) a.last a.journal j).held) (λ j. (view_at a j).last) (λ j ne. ap (rows g.shows (here a) a.contents.items) (else_stays j ne))

    pub give_refused : is_refused a.last a.current (without_claim a.claims.items r) ≡ true
    give_refused = go a.last a.refused
      where
        go : (o : Option Refusal) → is_refused o a.current a.claims.items ≡ true → is_refused o a.current (without_claim a.claims.items r) ≡ true
        go None e = refl
        go (Some (refusals.Held q h)) e = by_case (nat_eq h a.current) refl e
          where
            by_case : (b : Bool) → nat_eq h a.current ≡ b → (if b then false else among q (taken_of (taken_by h a.claims.items))) ≡ true → (if b then false else among q (taken_of (taken_by h (without_claim a.claims.items r)))) ≡ true
            by_case true z e = e
            by_case false z e = ap (λ l. among q (taken_of l)) (else_stays h (λ w. far z w)) ∙ e
              where
                far : nat_eq h a.current ≡ false → h ≡ a.current → ⊥
                far z w = grind (arith, z, w)
        go (Some (refusals.Down q o)) e = refl
        go (Some (refusals.Many leaves at)) e = refl
        go (Some (refusals.Full n)) e = refl
