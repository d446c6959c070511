-- What a seat's board shows.
use Rattle.std.proofs.Common.{◌≡◌, ◌≤◌, ◌∙◌, ℕ, List, length, Option, Some, None, ap}
use Rattle.std.proofs.Props.{props}
use Rattle.std.specs.Coded.{Coded-set}
use Rattle.std.specs.Prelude.{IsSome, vec_len, vec_capacity}
use Rattle.std.specs.Vec.{with_item}
use mathlib.Core.HLevel.{is_prop→PathP}
use Rattle.pgo_model.specs.Log.{Effect}
use Rattle.pgo_resource.specs.declared.resource.Resource.{Ghosts}
use Rattle.pgo_syntax.specs.declared.records.Refusal.{Refusal}
use Rattle.pgo_syntax.specs.declared.records.Refusal.TheVariants as refusals
use Rattle.pgo_workers.specs.View as view
use Rattle.pgo_workers.specs.View.{Hold, View, hold_at, with_content}
use Rattle.pgo_workers.specs.Worker.{with_held}
use Rattle.pgo_workers.specs.Worlds.{Layout}
use Rattle.pgo_table.specs.Code.{coded_terms}
use Rattle.pgo_table.specs.Places.{place, content_at}
use Rattle.pgo_shared.specs.Rows.{rows, rows_set, shown_at}
use Rattle.pgo_table.specs.SeatViews.{WordStep, SeatView, resources}
use Rattle.pgo_shared.specs.declared.seat_board.SeatBoard.{SeatBoard}
use Rattle.pgo_shared.specs.declared.shared.Shared.{Shared}

abbrev pub last_of : Option Refusal → Option view.Refusal
last_of None = None
last_of (Some (refusals.Held r h)) = Some (view.IsHeld r h)
last_of (Some (refusals.Down r o)) = None
last_of (Some (refusals.Many leaves at)) = None
last_of (Some (refusals.Full n)) = Some (view.IsFull n)

module _ {R : Type 0} {g : Ghosts R} where
  abbrev pub view_of : SeatBoard R g → SeatView
  view_of s = s.instance.seat.me.0

  -- its table
  abbrev pub table_of : SeatBoard R g → Shared R
  table_of s = s.shared.now

  abbrev pub layout_of_board : SeatBoard R g → Layout
  layout_of_board s = (view_of s).terms.layout

  -- its steps at words
  abbrev pub steps_of : SeatBoard R g → List WordStep
  steps_of s = (view_of s).word_steps

  abbrev pub shows_of : SeatBoard R g → View Effect
  shows_of s = record {
    instance = s.instance.number;
    resources = length (layout_of_board s).resources;
    steps = (view_of s).terms.steps;
    share = (view_of s).terms.share;
    held = rows g.shows (view_of s).holds s.contents.items;
    entries = (view_of s).me.entries;
    notes = (view_of s).me.notes;
    told = Some (view_of s).me.told;
    last = last_of s.last;
  }

  abbrev pub inside_of : SeatBoard R g → ℕ → Option R
  inside_of s r = content_at (resources (view_of s).holds) s.contents.items r

  abbrev pub with_inside : SeatBoard R g → ℕ → R → SeatBoard R g
  with_inside s r c = record s { contents = with_item s.contents (place (resources (view_of s).holds) r) c }

  pub board_ext : (a b : SeatBoard R g) → a.shared ≡ b.shared → a.instance ≡ b.instance → a.contents ≡ b.contents → a.last ≡ b.last → a ≡ b
  board_ext a b f h k l = λ i. record {
    shared = f i;
    instance = h i;
    contents = k i;
    last = l i;
    table = is_prop→PathP (λ j. (h j).seat.table_id ≡ (f j).now.table.shared.table_id) (λ j. hlevel props) a.table b.table i;
    terms = is_prop→PathP (λ j. (h j).seat.me.0.terms ≡ (f j).now.table.shared.key) (λ j. Coded-set coded_terms (h j).seat.me.0.terms (f j).now.table.shared.key) a.terms b.terms i;
    paired = is_prop→PathP (λ j. vec_len (k j) ≡ vec_len (h j).held) (λ j. hlevel props) a.paired b.paired i;
    room = is_prop→PathP (λ j. length (h j).seat.me.0.terms.layout.resources ≤ vec_capacity (k j)) (λ j. hlevel props) a.room b.room i;
    within = is_prop→PathP (λ j. length (h j).seat.me.0.me.entries ≤ (h j).seat.me.0.terms.steps) (λ j. hlevel props) a.within b.within i;
  }

  -- it stays at its table
  abbrev pub stays_of : SeatBoard R g → SeatBoard R g → Type 0
  stays_of s t = table_of t ≡ table_of s

  pub on_stays : (s t u : SeatBoard R g) → stays_of s t → stays_of t u → stays_of s u
  on_stays s t u h k = k ∙ h

  pub room_of : (s : SeatBoard R g) → length (shows_of s).entries ≤ (shows_of s).steps
  room_of s = s.within

  pub shown_of : (s : SeatBoard R g) (r : ℕ) (c : R) (h : Hold) → inside_of s r ≡ Some c → hold_at (shows_of s).held r ≡ Some h → h.content ≡ g.shows c
  shown_of s r c h is at = shown_at g.shows (view_of s).holds s.contents.items r c h is at

  pub puts_inside : (s : SeatBoard R g) (r : ℕ) (c : R) → IsSome (hold_at (shows_of s).held r) → shows_of (with_inside s r c) ≡ with_held (with_content r (g.shows c) (shows_of s).held) (shows_of s)
  puts_inside s r c there = ap (λ hs. with_held hs (shows_of s)) (rows_set g.shows (view_of s).holds s.contents.items r c)
