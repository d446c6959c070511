-- Lists of jobs that grow at their end.
use Rattle.std.proofs.Common.{◌≡◌, ◌++◌, ◌+◌, ◌<◌, ℕ, zero, suc, false, List, [], ◌∷◌, length, get_or, slice_index_or, refl, sym, ap, ◌∙◌, subst, arith}
use Rattle.std.proofs.lemmas.List.{map-append, length-append}
use Rattle.std.specs.List.{remove}
use Rattle.pgo_resource.specs.declared.resource.Resource.{Ghosts}
use Rattle.pgo_section.specs.declared.worker.Worker.{Worker}
use Rattle.pgo_table.proofs.Seated.{pushed_each}
use Rattle.pgo_table.specs.Seen.{Seen}
use Rattle.pgo_shared.specs.SeatBoards.{shows_of, table_of}
use Rattle.pgo_shared.specs.Seats.{IsOf, history_of}
use Rattle.pgo_shared.specs.declared.seat_board.BoardSeat.{BoardSeat}
use Rattle.pgo_shared.specs.declared.seat_board.SeatBoard.{SeatBoard}
use Rattle.pgo_threads.specs.declared.jobs.Job.{Job}
use Rattle.pgo_joined.specs.JoinedRuns.{AreEnded}

-- the first is taken out
pub one_less : {A : Type 0} (P : ℕ → A → Type 0) (xs ys : List A) (n m : ℕ) → ys ≡ remove xs 0 → m ≡ n + 1 → 0 < length xs → ((j : ℕ) (d : A) → j < length xs → P (n + j) (get_or xs j d)) → (j : ℕ) (d : A) → j < length ys → P (m + j) (get_or ys j d)
one_less P [] ys n m is more some each j d near = absurd (omega (arith, some))
one_less P (x ∷ xs) ys n m is more some each j d near =
    let e : n + suc j ≡ m + j = omega (arith, more) in
    subst (λ l. P (m + j) (get_or l j d)) (sym is) (subst (λ i. P i (get_or xs j d)) e (each (suc j) d (let q : length ys ≡ length xs = ap length is in omega (arith, near, q))))

pub first_is : {A : Type 0} (P : ℕ → A → Type 0) (xs : List A) (x : A) (n : ℕ) → 0 < length xs → get_or xs 0 x ≡ x → ((j : ℕ) (d : A) → j < length xs → P (n + j) (get_or xs j d)) → P n x
first_is P xs x n some is each = let e : n + 0 ≡ n = omega arith in subst (P n) is (subst (λ i. P i (get_or xs 0 x)) e (each 0 x some))

-- two lists by one index, each with one more at its end
pairs : {A B : Type 0} (P : A → B → Type 0) (xs : List A) (ys : List B) (x : A) (y : B) → length ys ≡ length xs → ((k : ℕ) (d : A) (e : B) → k < length xs → P (slice_index_or xs k d) (slice_index_or ys k e)) → P x y
    → (k : ℕ) (d : A) (e : B) → k < length (xs ++ x ∷ []) → P (slice_index_or (xs ++ x ∷ []) k d) (slice_index_or (ys ++ y ∷ []) k e)
pairs P [] [] x y long each last zero d e near = last
pairs P [] [] x y long each last (suc k) d e near = absurd (omega (arith, near))
pairs P [] (b ∷ ys) x y long each last k d e near = absurd (omega (arith, long))
pairs P (a ∷ xs) [] x y long each last k d e near = absurd (omega (arith, long))
pairs P (a ∷ xs) (b ∷ ys) x y long each last zero d e near = each 0 d e (omega arith)
pairs P (a ∷ xs) (b ∷ ys) x y long each last (suc k) d e near = pairs P xs ys x y (omega (arith, long)) (λ k d e near. each (suc k) d e (omega (arith, near))) last k d e (omega (arith, near))

-- the member behind these
pub mid_at : {A : Type 0} (l k : List A) (x d : A) → slice_index_or (l ++ (x ∷ k)) (length l) d ≡ x
mid_at [] k x d = refl
mid_at (z ∷ l) k x d = mid_at l k x d

module _ {C R : Type 0} {g : Ghosts R} where
  pub begins : AreEnded {C = C} {R = R} {g = g} [] [] []
  begins = record { fine = λ k d h. absurd (omega (arith, h)); workers_are = refl; as_many = refl; seats_are = λ k d s h. absurd (omega (arith, h)) }

  pub one_ended : (done : List (Job C (SeatBoard R g) R)) (ws vs : List (Worker C)) (ss ts : List (BoardSeat R g)) (j : Job C (SeatBoard R g) R) (w : Worker C) (s : BoardSeat R g) → vs ≡ ws ++ (w ∷ []) → ts ≡ ss ++ (s ∷ []) → w ≡ j.worker
      → IsOf (table_of j.board) s → Seen (shows_of j.board) (history_of s) → j.failed ≡ false → AreEnded done ws ss → AreEnded (done ++ (j ∷ [])) vs ts
  one_ended done ws vs ss ts j w s vs_are ts_are worker is_of seen fine e = record {
    fine = λ k d near. pushed_each (λ i (x : Job C (SeatBoard R g) R). x.failed ≡ false) done (done ++ (j ∷ [])) j (length done) refl refl e.fine fine k d (let a = length-append done (j ∷ []) in omega (arith, near, a));
    workers_are = vs_are ∙ (λ i. e.workers_are i ++ (worker i ∷ [])) ∙ sym (map-append (λ (x : Job C (SeatBoard R g) R). x.worker) done (j ∷ []));
    as_many = ap length ts_are ∙ (let a = length-append ss (s ∷ []) in let b = length-append done (j ∷ []) in let m = e.as_many in omega (arith, a, b, m));
    seats_are = λ k d x near. subst (λ l. IsOf (table_of (slice_index_or (done ++ (j ∷ [])) k d).board) (slice_index_or l k x) × Seen (shows_of (slice_index_or (done ++ (j ∷ [])) k d).board) (history_of (slice_index_or l k x))) (sym ts_are)
        (pairs (λ (a : Job C (SeatBoard R g) R) (b : BoardSeat R g). IsOf (table_of a.board) b × Seen (shows_of a.board) (history_of b)) done ss j s e.as_many e.seats_are (is_of, seen) k d x near);
  }
