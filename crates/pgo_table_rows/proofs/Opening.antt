-- Clients of new seats.
use Rattle.std.proofs.Common.{◌≡◌, ◌+◌, ◌<◌, ℕ, suc, List, [], ◌∷◌, map, length, get_or, refl, sym, ap, ◌∙◌, subst, arith}
use Rattle.std.proofs.lemmas.List.{length-map}
use Rattle.pgo_meaning.specs.System.{member_of, system_of}
use Rattle.pgo_syntax.specs.declared.bound.Bound.{Bound}
use Rattle.pgo_resource.specs.declared.resource.Resource.{Ghosts}
use Rattle.pgo_table.specs.SeatViews.{TableTerms}
use Rattle.pgo_table.specs.Seen.{at_rest}
use Rattle.pgo_model.specs.System.{Member}
use Rattle.pgo_workers.specs.Worlds.{layout_of}
use Rattle.pgo_shared.specs.SeatBoards.{layout_of_board, shows_of, table_of}
use Rattle.pgo_shared.specs.Seats.{IsFreshSeat, history_of}
use Rattle.pgo_shared.specs.Tables.{terms_of}
use Rattle.pgo_shared.specs.declared.seat_board.BoardSeat.{BoardSeat}
use Rattle.pgo_shared.specs.declared.seat_board.SeatBoard.{SeatBoard}
use Rattle.pgo_shared.specs.declared.shared.Shared.{Shared}
use Rattle.pgo_table_rows.specs.Clients.{Knows}

module _ {R : Type 0} {g : Ghosts R} where
  abbrev pub AreFresh : Shared R → ℕ → List (BoardSeat R g) → Type 0
  AreFresh s n xs = (j : ℕ) (d : BoardSeat R g) → j < length xs → IsFreshSeat s (n + j) (get_or xs j d)

  pub all_fresh : (s : Shared R) (n : ℕ) (xs ys : List (BoardSeat R g)) → n ≡ 0 → ys ≡ xs → ((k : ℕ) (d : BoardSeat R g) → k < length xs → IsFreshSeat s k (get_or xs k d)) → AreFresh s n ys
  all_fresh s n xs ys none is each = subst (AreFresh s n) (sym is) (λ j d near. let e : j ≡ n + j = omega (arith, none) in subst (λ i. IsFreshSeat s i (get_or xs j d)) e (each j d near))

  pub first_fresh : (s : Shared R) (n : ℕ) (xs ys : List (BoardSeat R g)) (x : BoardSeat R g) → xs ≡ x ∷ ys → AreFresh s n xs → IsFreshSeat s n x
  first_fresh s n xs ys x is each = let e : n + 0 ≡ n = omega arith in subst (λ i. IsFreshSeat s i x) e (subst (AreFresh s n) is each 0 x (omega arith))

  pub rest_fresh : (s : Shared R) (n m : ℕ) (xs ys : List (BoardSeat R g)) (x : BoardSeat R g) → xs ≡ x ∷ ys → m ≡ n + 1 → AreFresh s n xs → AreFresh s m ys
  rest_fresh s n m xs ys x is more each j d near = let e : n + suc j ≡ m + j = omega (arith, more) in subst (λ i. IsFreshSeat s i (get_or ys j d)) e (subst (AreFresh s n) is each (suc j) d (omega (arith, near)))

  -- what is known of the board of a new seat
  pub knows_fresh : (s : Shared R) (k share : ℕ) (b : SeatBoard R g) (seat : BoardSeat R g) → IsFreshSeat s k seat → shows_of b ≡ at_rest (terms_of s) (history_of seat) → share ≡ (terms_of s).share → Knows (shows_of b) k share 0 []
  knows_fresh s k share b seat fresh shows e = subst (λ v. Knows v k share 0 []) (sym (shows ∙ ap (at_rest (terms_of s)) fresh.1)) (record { instance = refl; share_is = sym e; notes_are = refl; listed = refl; once = tt; good = tt })

  -- a board has the layout of its table
  pub layout_at : (s : Shared R) (b : SeatBoard R g) → table_of b ≡ s → layout_of_board b ≡ (terms_of s).layout
  layout_at s b table = ap (λ (t : TableTerms). t.layout) (b.terms ∙ ap terms_of table)

-- a layout has the instances of the specification
pub instances_many : (b : Bound) → length (layout_of (system_of b)).ids ≡ length b.instances
instances_many b = length-map (map member_of b.instances) (λ (m : Member). m.id) ∙ length-map b.instances member_of
