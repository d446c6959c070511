-- Accounts of workers, made one after the other.
use Rattle.std.proofs.Common.{◌≡◌, ◌≤◌, ◌<◌, ℕ, zero, suc, ◌+◌, ◌&&◌, Bool, true, false, List, [], ◌∷◌, ◌++◌, length, map, Some, Vec, vec_capacity, ◌⊎◌, inl, inr, refl, sym, ap, ◌∙◌, subst, arith, take, get_or}
use Rattle.std.proofs.lemmas.List.{take_more}
use Rattle.std.specs.Prelude.{nat_le}
use Rattle.pgo_model.specs.Machine as machine
use Rattle.pgo_model.specs.Machine.{nth, is_empty}
use Rattle.pgo_syntax.specs.ManyLeaves.{results_in}
use Rattle.pgo_syntax.specs.RecordView.{record_view, result_view}
use Rattle.pgo_syntax.specs.declared.records.AttemptResult.{AttemptResult}
use Rattle.pgo_syntax.specs.declared.records.Record.{Record}
use Rattle.pgo_journal.specs.declared.finished.Account.{Account}
use Rattle.pgo_section.specs.declared.worker.Worker.{Worker}
use Rattle.pgo_core.specs.Cores.{all_roomy, attempts_from, IsAccountOf, AreAccountsOf}

map_end : {A B : Type 0} (f : A → B) (l : List A) (x : A) → map f (l ++ (x ∷ [])) ≡ map f l ++ (f x ∷ [])
map_end f [] x = refl
map_end f (y ∷ l) x = ap (λ l. f y ∷ l) (map_end f l x)

map_length : {A B : Type 0} (f : A → B) (l : List A) → length (map f l) ≡ length l
map_length f [] = refl
map_length f (x ∷ l) = ap suc (map_length f l)

take_length : {A : Type 0} (i : ℕ) (l : List A) → i < length l → length (take i l) ≡ i
take_length zero l h = refl
take_length (suc i) [] h = absurd (omega (arith, h))
take_length (suc i) (x ∷ l) h = ap suc (take_length i l (omega (arith, h)))

from_end : (n : ℕ) (xs : List machine.Record) (x : machine.Record) → attempts_from n (xs ++ (x ∷ [])) ≡ attempts_from n xs ++ ((n + length xs, x) ∷ [])
from_end n [] x = let e : n ≡ n + 0 = omega arith in ap (λ i. (i, x) ∷ []) e
from_end n (y ∷ xs) x = let e : suc n + length xs ≡ n + suc (length xs) = omega arith in ap (λ l. (n, y) ∷ l) (from_end (suc n) xs x ∙ ap (λ i. attempts_from (suc n) xs ++ ((i, x) ∷ [])) e)

pub one_numbered : (results : List AttemptResult) (i : ℕ) (room new : List Record) (r : Record) (d : AttemptResult) → new ≡ room ++ (r ∷ []) → map record_view room ≡ attempts_from 1 (map result_view (take i results)) → i < length results
    → r.attempt ≡ 1 + i → r.result ≡ get_or results i d → map record_view new ≡ attempts_from 1 (map result_view (take (i + 1) results))
one_numbered results i room new r d items old inside number is =
    let count : 1 + i ≡ 1 + length (map result_view (take i results)) = ap (λ n. 1 + n) (sym (map_length result_view (take i results) ∙ take_length i results inside)) in
    ap (map record_view) items ∙ map_end record_view room r
    ∙ (λ j. old j ++ (((number ∙ count) j, result_view (is j)) ∷ []))
    ∙ sym (from_end 1 (map result_view (take i results)) (result_view (get_or results i d)))
    ∙ ap (attempts_from 1) (sym (map_end result_view (take i results) (get_or results i d)) ∙ ap (map result_view) (sym (take_more results i d inside)))

pub one_result : (results : List AttemptResult) (i : ℕ) (room new : List Record) (r : Record) (d : AttemptResult) → new ≡ room ++ (r ∷ []) → results_in room ≡ take i results → i < length results → r.result ≡ get_or results i d
    → results_in new ≡ take (i + 1) results
one_result results i room new r d items old inside is = ap results_in items ∙ map_end (λ (r : Record). r.result) room r ∙ (λ j. old j ++ (is j ∷ [])) ∙ sym (take_more results i d inside)

-- the first list is empty and has room
pub first_room : {A B : Type 0} (n : ℕ) (v : Vec A B) (vs : List (Vec A B)) → all_roomy n (v ∷ vs) ≡ true → (length v.items ≡ 0) × (n ≤ vec_capacity v) × (all_roomy n vs ≡ true)
first_room n v vs e = go (is_empty v.items) (nat_le n (vec_capacity v)) refl refl e
  where
    none : {A : Type 0} (l : List A) → is_empty l ≡ true → length l ≡ 0
    none [] e = refl
    none (x ∷ l) e = absurd (grind (arith, e))

    go : (a b : Bool) → is_empty v.items ≡ a → nat_le n (vec_capacity v) ≡ b → (a && (b && all_roomy n vs)) ≡ true → (length v.items ≡ 0) × (n ≤ vec_capacity v) × (all_roomy n vs ≡ true)
    go true true p q e = (none v.items p, grind (arith, q), e)
    go true false p q e = absurd (grind (arith, e))
    go false b p q e = absurd (grind (arith, e))

pub nth_end : {A : Type 0} (l : List A) (x : A) (k : ℕ) (y : A) → nth (l ++ (x ∷ [])) k ≡ Some y → (nth l k ≡ Some y) ⊎ ((k ≡ length l) × (x ≡ y))
nth_end [] x zero y e = inr (refl, grind (arith, e))
nth_end [] x (suc k) y e = absurd (grind (arith, e))
nth_end (z ∷ l) x zero y e = inl e
nth_end (z ∷ l) x (suc k) y e = go (nth_end l x k y e)
  where
    go : (nth l k ≡ Some y) ⊎ ((k ≡ length l) × (x ≡ y)) → (nth l k ≡ Some y) ⊎ ((suc k ≡ suc (length l)) × (x ≡ y))
    go (inl h) = inl h
    go (inr h) = inr (ap suc h.0, h.1)

pub one_account : {C : Type 0} (ws : List (Worker C)) (old new : List Account) (w : Worker C) (a : Account) → new ≡ old ++ (a ∷ []) → AreAccountsOf ws old → nth ws (length old) ≡ Some w → IsAccountOf w a → AreAccountsOf ws new
one_account {C} ws old new w a items are here is k b e = go (nth_end old a k b (sym (ap (λ l. nth l k) items) ∙ e))
  where
    go : (nth old k ≡ Some b) ⊎ ((k ≡ length old) × (a ≡ b)) → (w : Worker C) × (nth ws k ≡ Some w) × IsAccountOf w b
    go (inl h) = are k b h
    go (inr h) = (w, ap (nth ws) h.0 ∙ here, subst (IsAccountOf w) h.1 is)
