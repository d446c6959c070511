-- The first choice of members.
use Rattle.std.proofs.Common.{◌≡◌, ℕ, zero, suc, ◌<◌, ◌≤◌, ◌+◌, List, [], ◌∷◌, ◌++◌, length, map, drop, take, get_or, refl, ap, sym, ◌∙◌, arith, add-one, subst}
use Rattle.std.proofs.Math.ListN.{set}
use Rattle.std.proofs.lemmas.List.{append-nil, drop_all, take_all}
use Rattle.std.specs.Prelude.{Bool, true, false, not}
use Rattle.pgo_base.specs.declared.bindings.BoundName.{BoundName}
use Rattle.pgo_model.specs.Operators.{choices}
use Rattle.pgo_eval.specs.Choices.{over_bound, sets_of, AreAt, has_empty, still_left, restarted}
use Rattle.pgo_eval.proofs.Choices.{left_first, no_choices, first_at}
use Rattle.pgo_eval.proofs.Advance.{first_restarted, over_restarted, sets_restarted}

start_at : (old : List BoundName) (i : ℕ) (d : BoundName) → i < length old → set (map restarted (take i old) ++ drop i old) i (restarted (get_or (map restarted (take i old) ++ drop i old) i d)) ≡ map restarted (take (suc i) old) ++ drop (suc i) old
start_at [] i d h = absurd (omega arith)
start_at (b ∷ bs) zero d h = refl
start_at (b ∷ bs) (suc i) d h = ap (λ xs. restarted b ∷ xs) (start_at bs i d (omega arith))

-- one name more is at its first place
pub start_more : (old now : List BoundName) (i : ℕ) (d : BoundName) → i < length old → now ≡ map restarted (take i old) ++ drop i old → set now i (restarted (get_or now i d)) ≡ map restarted (take (i + 1) old) ++ drop (i + 1) old
start_more old now i d h e =
    ap (λ xs. set xs i (restarted (get_or xs i d))) e ∙ start_at old i d h ∙ ap (λ j. map restarted (take j old) ++ drop j old) (sym (add-one i))

-- all names are
pub start_all : (old now : List BoundName) (i : ℕ) → length old ≤ i → now ≡ map restarted (take i old) ++ drop i old → now ≡ map restarted old
start_all old now i h e =
    e ∙ (λ j. map restarted (take_all i old h j) ++ drop_all i old h j) ∙ append-nil (map restarted old)

pub record Started (old now : List BoundName) (full : Bool) : Type 0 where
  pub at : full ≡ true → AreAt now
  pub over : over_bound now ≡ over_bound old
  pub left : still_left full now ≡ choices (sets_of old)

-- where all names are at their first places
pub started : (old now : List BoundName) (empty : Bool) → now ≡ map restarted old → empty ≡ has_empty now → Started old now (not empty)
started old now empty e h =
    subst (λ xs. Started old xs (not empty)) (sym e) (go empty (h ∙ ap has_empty e))
  where
    go : (empty : Bool) → empty ≡ has_empty (map restarted old) → Started old (map restarted old) (not empty)
    go true h = record {
      at = λ f. absurd (cc);
      over = over_restarted old;
      left = sym (no_choices (map restarted old) (sym h)) ∙ ap choices (sets_restarted old);
    }
    go false h = record {
      at = λ f. first_at (map restarted old) (first_restarted old) (sym h);
      over = over_restarted old;
      left = left_first (map restarted old) (first_restarted old) ∙ ap choices (sets_restarted old);
    }
