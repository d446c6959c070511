-- What a board of all instances shows.
use Rattle.std.proofs.Common.{◌≡◌, ◌≤◌, ℕ, Bool, true, false, [], length, set, Option, Some, None, refl, sym, ap, ◌∙◌, arith}
use Rattle.std.proofs.lemmas.List.{append-nil}
use Rattle.std.proofs.Props.{props}
use Rattle.std.specs.Prelude.{◌-◌, ◌*◌, suc, if◌then◌else◌, nat_eq, IsSome, slice_get, vec_len, vec_capacity}
use Rattle.std.specs.Vec.{with_item}
use mathlib.Core.HLevel.{is_prop→PathP}
use Rattle.pgo_base.specs.Data.{Data}
use Rattle.pgo_model.specs.Log.{Effect}
use Rattle.pgo_model.specs.Machine.{among}
use Rattle.pgo_workers.specs.View.{Hold, View, hold_at, with_content, notes_of}
use Rattle.pgo_workers.specs.Worker.{with_held}
use Rattle.pgo_workers.specs.Worlds.{Layout, IsLayout, HasAll}
use Rattle.pgo_resource.specs.declared.resource.Resource.{Ghosts}
use Rattle.pgo_resource.specs.Layouts.{layout_view}
use Rattle.pgo_resource.specs.PlainRows.{taken_of, apart, spot, shown_at, rows, FreeStands}
use Rattle.pgo_resource.specs.PlainSets.{free_set, rows_set, rows_other, shown_get, shown_set_other, hold_content, held_among}
use Rattle.pgo_core.specs.declared.exclusive_board.ExclusiveBoard.{ExclusiveBoard}
use Rattle.pgo_core.specs.AllViews.{AllViews, Leaves}
use Rattle.pgo_core.specs.LeavesLaws.{leaves_same, leaves_on}
use Rattle.pgo_core.specs.Claims.{claimed, taken_by, are_within}
use Rattle.pgo_core.specs.ClaimLaws.{some_by, by_apart, not_else, resources_rows}
use Rattle.pgo_core.specs.ExclusiveRows.{layout_with, values_behind, are_own, are_of_all, is_refused, seen_from}

-- a view on which nothing was done
abbrev pub fresh_view : (instance resources steps share : ℕ) → View Effect
fresh_view k n steps share = record { instance = k; resources = n; steps = steps; share = share; held = []; entries = []; notes = []; told = None; last = None }

module _ {R : Type 0} {g : Ghosts R} where
  abbrev pub board_layout : ExclusiveBoard R g → Layout
  board_layout s = layout_with s.layout s.journal

  -- the values of resources behind all entries
  abbrev pub here : ExclusiveBoard R g → ℕ → Data
  here s = values_behind (board_layout s) s.journal.entries

  -- what instance j sees
  abbrev pub view_at : ExclusiveBoard R g → ℕ → View Effect
  view_at s = seen_from g.shows s.layout (vec_len s.contents) s.share s.contents.items s.claims.items s.last s.journal

  abbrev pub shows_of : ExclusiveBoard R g → View Effect
  shows_of s = view_at s s.current

  -- what all see
  abbrev pub views_of : ExclusiveBoard R g → AllViews Effect
  views_of s = record { current = s.current; view = view_at s; content = shown_at g.shows s.contents.items; lent = s.lent; moved = s.moved }

  abbrev pub inside_of : ExclusiveBoard R g → ℕ → Option R
  inside_of s r = slice_get s.contents.items r

  abbrev pub with_exclusive : ExclusiveBoard R g → ℕ → R → ExclusiveBoard R g
  with_exclusive s r c = record s {
    contents = with_item s.contents (spot (length s.contents.items) r (claimed s.claims.items)) c;
    lent = true;
    unheld = free_set g.shows (vec_len s.contents) (here s) s.contents.items (claimed s.claims.items) r c s.unheld;
  }

  abbrev pub stays_of : ExclusiveBoard R g → ExclusiveBoard R g → Type 0
  stays_of s t = Leaves (views_of s) (views_of t)

  pub same_stays : (s : ExclusiveBoard R g) → stays_of s s
  same_stays s = leaves_same (views_of s)

  pub on_stays : (s t u : ExclusiveBoard R g) → stays_of s t → stays_of t u → stays_of s u
  on_stays s t u = leaves_on (views_of s) (views_of t) (views_of u)

  pub with_stays : (s : ExclusiveBoard R g) (r : ℕ) (c : R) → IsSome (hold_at (shows_of s).held r) → stays_of s (with_exclusive s r c)
  with_stays s r c there =
      let cs = s.claims.items in let xs = s.contents.items in let n = vec_len s.contents in
      let held = held_among g.shows (here s) xs (taken_by s.current cs) r there in
      let at : spot (length xs) r (claimed cs) ≡ r = ap (λ b. if b then r else length xs) (some_by s.current r cs held) in record {
        current = refl;
        same = λ j. record { instance = refl; resources = refl; steps = refl; share = refl };
        told = λ j. refl;
        held = λ j ne. ap (λ q. rows g.shows (here s) (set xs q c) (taken_by j cs)) at ∙ rows_other g.shows (here s) xs (taken_by j cs) r c (not_else n s.current j r cs s.held_once held ne);
        entries_more = [];
        notes_more = [];
        entries = λ j. sym (append-nil s.journal.entries);
        notes = λ j. sym (append-nil s.journal.notes);
        entries_of = tt;
        notes_of = tt;
        lent = λ e. absurd (grind (arith, e));
        moved = λ e. (e, resources_rows g.shows (here s) (set xs (spot (length xs) r (claimed cs)) c) (taken_by s.current cs) ∙ sym (resources_rows g.shows (here s) xs (taken_by s.current cs)));
        content = λ e q out. ap (λ p. shown_at g.shows (set xs p c) q) at ∙ shown_set_other g.shows xs q r c (other q (nat_eq r q) refl held (ap (among q) (sym (resources_rows g.shows (here s) xs (taken_by s.current cs))) ∙ out));
      }
    where
      other : (q : ℕ) (b : Bool) → nat_eq r q ≡ b → among r (taken_of (taken_by s.current s.claims.items)) ≡ true → among q (taken_of (taken_by s.current s.claims.items)) ≡ false → nat_eq r q ≡ false
      other q true e held out = let same : r ≡ q = grind (arith, e) in absurd (grind (arith, held, out, ap (λ x. among x (taken_of (taken_by s.current s.claims.items))) same))
      other q false e held out = e

  pub room_of : (s : ExclusiveBoard R g) → length (shows_of s).entries ≤ (shows_of s).steps
  room_of s = s.within_steps

  pub resources_of_board : (s : ExclusiveBoard R g) → (shows_of s).resources ≡ length (board_layout s).resources
  resources_of_board s = s.as_many

  pub shown_of : (s : ExclusiveBoard R g) (r : ℕ) (c : R) (h : Hold) → inside_of s r ≡ Some c → hold_at (shows_of s).held r ≡ Some h → h.content ≡ g.shows c
  shown_of s r c h is at = hold_content g.shows (here s) s.contents.items (taken_by s.current s.claims.items) r h at ∙ shown_get g.shows s.contents.items r c is

  pub keeps_exclusive : (s : ExclusiveBoard R g) (r : ℕ) (c : R) → board_layout (with_exclusive s r c) ≡ board_layout s
  keeps_exclusive s r c = refl

  pub puts_exclusive : (s : ExclusiveBoard R g) (r : ℕ) (c : R) → IsSome (hold_at (shows_of s).held r) → shows_of (with_exclusive s r c) ≡ with_held (with_content r (g.shows c) (shows_of s).held) (shows_of s)
  puts_exclusive s r c there =
      let cs = s.claims.items in let xs = s.contents.items in let hs = taken_by s.current cs in
      let held = held_among g.shows (here s) xs hs r there in
      let at : spot (length xs) r (claimed cs) ≡ spot (length xs) r (taken_of hs) = ap (λ b. if b then r else length xs) (some_by s.current r cs held ∙ sym held) in
      ap (λ l. with_held l (shows_of s)) (ap (λ q. rows g.shows (here s) (set xs q c) hs) at ∙ rows_set g.shows (vec_len s.contents) (here s) xs hs r c s.contents.ok.0 (by_apart (vec_len s.contents) s.current cs s.held_once) there)

  pub board_ext : (a b : ExclusiveBoard R g) → a.current ≡ b.current → a.share ≡ b.share → a.layout ≡ b.layout → a.contents ≡ b.contents → a.claims ≡ b.claims → a.journal ≡ b.journal → a.last ≡ b.last → a.lent ≡ b.lent → a.moved ≡ b.moved → a ≡ b
  board_ext a b e1 e2 e3 e4 e5 e6 e7 e8 e9 = λ i. record {
    current = e1 i;
    share = e2 i;
    layout = e3 i;
    contents = e4 i;
    claims = e5 i;
    journal = e6 i;
    last = e7 i;
    lent = e8 i;
    moved = e9 i;
    is_layout = is_prop→PathP (λ j. IsLayout (layout_with (e3 j) (e6 j))) (λ j. hlevel props) a.is_layout b.is_layout i;
    has_all = is_prop→PathP (λ j. HasAll (layout_with (e3 j) (e6 j)) (e6 j).start) (λ j. hlevel props) a.has_all b.has_all i;
    as_many = is_prop→PathP (λ j. vec_len (e4 j) ≡ length (layout_view (e3 j)).resources) (λ j. hlevel props) a.as_many b.as_many i;
    held_once = is_prop→PathP (λ j. apart (vec_len (e4 j)) (claimed (e5 j).items) ≡ true) (λ j. hlevel props) a.held_once b.held_once i;
    holders = is_prop→PathP (λ j. are_within (length (layout_view (e3 j)).ids - 1) (e5 j).items ≡ true) (λ j. hlevel props) a.holders b.holders i;
    current_there = is_prop→PathP (λ j. e1 j ≤ length (layout_view (e3 j)).ids - 1) (λ j. hlevel props) a.current_there b.current_there i;
    own_entries = is_prop→PathP (λ j. are_own (layout_with (e3 j) (e6 j)) (e6 j).entries ≡ true) (λ j. hlevel props) a.own_entries b.own_entries i;
    unheld = is_prop→PathP (λ j. FreeStands g.shows (vec_len (e4 j)) (values_behind (layout_with (e3 j) (e6 j)) (e6 j).entries) (e4 j).items (claimed (e5 j).items)) (λ j. hlevel props) a.unheld b.unheld i;
    within_steps = is_prop→PathP (λ j. length (e6 j).entries ≤ (e6 j).steps) (λ j. hlevel props) a.within_steps b.within_steps i;
    shares = is_prop→PathP (λ j. (n : ℕ) → notes_of n (e6 j).notes ≤ e2 j) (λ j. hlevel props) a.shares b.shares i;
    noted_by = is_prop→PathP (λ j. are_of_all (length (layout_view (e3 j)).ids - 1) (e6 j).notes ≡ true) (λ j. hlevel props) a.noted_by b.noted_by i;
    note_room = is_prop→PathP (λ j. (e6 j).room ≡ e2 j * suc (length (layout_view (e3 j)).ids - 1)) (λ j. hlevel props) a.note_room b.note_room i;
    refused = is_prop→PathP (λ j. is_refused (e7 j) (e1 j) (e5 j).items ≡ true) (λ j. hlevel props) a.refused b.refused i;
    claim_room = is_prop→PathP (λ j. vec_len (e4 j) ≤ vec_capacity (e5 j)) (λ j. hlevel props) a.claim_room b.claim_room i;
  }
