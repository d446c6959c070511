-- What a board of one instance shows.
use Rattle.std.proofs.Common.{◌≡◌, ◌≤◌, ℕ, true, map, length, Option, Some, None, refl, ap, ◌∙◌, arith}
use Rattle.std.proofs.Props.{props}
use Rattle.std.specs.Prelude.{if◌then◌else◌, IsSome, slice_get, vec_len, vec_capacity}
use Rattle.std.specs.Vec.{with_item}
use mathlib.Core.HLevel.{is_prop→PathP}
use Rattle.pgo_base.specs.Data.{Data}
use Rattle.pgo_model.specs.Log.{Effect}
use Rattle.pgo_model.specs.LogView.{entry_view}
use Rattle.pgo_syntax.specs.RecordView.{note_view}
use Rattle.pgo_workers.specs.View.{Hold, View, IsFull, hold_at, with_content, notes_of}
use Rattle.pgo_workers.specs.Worker.{with_held}
use Rattle.pgo_workers.specs.Worlds.{Layout, IsLayout, HasAll}
use Rattle.pgo_resource.specs.declared.resource.Resource.{Ghosts}
use Rattle.pgo_resource.specs.declared.plain_board.PlainBoard.{PlainBoard}
use Rattle.pgo_resource.specs.Layouts.{layout_view}
use Rattle.pgo_resource.specs.PlainRows.{taken_of, apart, are_of, spot, values_at, rows, FreeStands}
use Rattle.pgo_resource.specs.PlainSets.{free_set, rows_set, shown_get, hold_content, map_length}

module _ {R : Type 0} {g : Ghosts R} where
  abbrev pub board_layout : PlainBoard R g → Layout
  board_layout s = layout_view s.layout

  -- the values of resources behind all entries
  abbrev pub here : PlainBoard R g → ℕ → Data
  here s = values_at (board_layout s) s.entries.items

  abbrev pub shows_of : PlainBoard R g → View Effect
  shows_of s = record {
    instance = s.instance;
    resources = vec_len s.contents;
    steps = s.steps;
    share = s.share;
    held = rows g.shows (here s) s.contents.items s.held.items;
    entries = map entry_view s.entries.items;
    notes = map note_view s.notes.items;
    told = None;
    last = if s.full then Some (IsFull s.steps) else None;
  }

  abbrev pub inside_of : PlainBoard R g → ℕ → Option R
  inside_of s r = slice_get s.contents.items r

  abbrev pub with_plain : PlainBoard R g → ℕ → R → PlainBoard R g
  with_plain s r c = record s {
    contents = with_item s.contents (spot (length s.contents.items) r (taken_of s.held.items)) c;
    unheld = free_set g.shows (vec_len s.contents) (here s) s.contents.items (taken_of s.held.items) r c s.unheld;
  }

  pub room_of : (s : PlainBoard R g) → length (shows_of s).entries ≤ (shows_of s).steps
  room_of s = omega (arith, map_length entry_view s.entries.items, s.within_steps)

  pub resources_of_board : (s : PlainBoard R g) → (shows_of s).resources ≡ length (board_layout s).resources
  resources_of_board s = s.as_many

  pub shown_of : (s : PlainBoard R g) (r : ℕ) (c : R) (h : Hold) → inside_of s r ≡ Some c → hold_at (shows_of s).held r ≡ Some h → h.content ≡ g.shows c
  shown_of s r c h is at = hold_content g.shows (here s) s.contents.items s.held.items r h at ∙ shown_get g.shows s.contents.items r c is

  pub keeps_plain : (s : PlainBoard R g) (r : ℕ) (c : R) → board_layout (with_plain s r c) ≡ board_layout s
  keeps_plain s r c = refl

  pub puts_plain : (s : PlainBoard R g) (r : ℕ) (c : R) → IsSome (hold_at (shows_of s).held r) → shows_of (with_plain s r c) ≡ with_held (with_content r (g.shows c) (shows_of s).held) (shows_of s)
  puts_plain s r c there = ap (λ hs. with_held hs (shows_of s)) (rows_set g.shows (vec_len s.contents) (here s) s.contents.items s.held.items r c s.contents.ok.0 s.held_once there)

  pub board_ext : (a b : PlainBoard R g) → a.instance ≡ b.instance → a.steps ≡ b.steps → a.share ≡ b.share → a.layout ≡ b.layout → a.contents ≡ b.contents → a.held ≡ b.held → a.entries ≡ b.entries → a.notes ≡ b.notes → a.full ≡ b.full → a ≡ b
  board_ext a b e1 e2 e3 e4 e5 e6 e7 e8 e9 = λ i. record {
    instance = e1 i;
    steps = e2 i;
    share = e3 i;
    layout = e4 i;
    contents = e5 i;
    held = e6 i;
    entries = e7 i;
    notes = e8 i;
    full = e9 i;
    is_layout = is_prop→PathP (λ j. IsLayout (layout_view (e4 j))) (λ j. hlevel props) a.is_layout b.is_layout i;
    has_all = is_prop→PathP (λ j. HasAll (layout_view (e4 j)) (e4 j).start) (λ j. hlevel props) a.has_all b.has_all i;
    as_many = is_prop→PathP (λ j. vec_len (e5 j) ≡ length (layout_view (e4 j)).resources) (λ j. hlevel props) a.as_many b.as_many i;
    held_once = is_prop→PathP (λ j. apart (vec_len (e5 j)) (taken_of (e6 j).items) ≡ true) (λ j. hlevel props) a.held_once b.held_once i;
    own_entries = is_prop→PathP (λ j. are_of (layout_view (e4 j)) (e1 j) (e7 j).items ≡ true) (λ j. hlevel props) a.own_entries b.own_entries i;
    unheld = is_prop→PathP (λ j. FreeStands g.shows (vec_len (e5 j)) (values_at (layout_view (e4 j)) (e7 j).items) (e5 j).items (taken_of (e6 j).items)) (λ j. hlevel props) a.unheld b.unheld i;
    within_steps = is_prop→PathP (λ j. length (e7 j).items ≤ e2 j) (λ j. hlevel props) a.within_steps b.within_steps i;
    own_notes = is_prop→PathP (λ j. notes_of (e1 j) (map note_view (e8 j).items) ≡ length (e8 j).items) (λ j. hlevel props) a.own_notes b.own_notes i;
    held_room = is_prop→PathP (λ j. vec_len (e5 j) ≤ vec_capacity (e6 j)) (λ j. hlevel props) a.held_room b.held_room i;
    entry_room = is_prop→PathP (λ j. e2 j ≤ vec_capacity (e7 j)) (λ j. hlevel props) a.entry_room b.entry_room i;
    note_room = is_prop→PathP (λ j. e3 j ≤ vec_capacity (e8 j)) (λ j. hlevel props) a.note_room b.note_room i;
  }
