-- Lists that are made before the first turn.
use Rattle.std.proofs.Common.{◌≡◌, ◌≤◌, ℕ, ◌&&◌, Bool, true, false, List, [], ◌∷◌, ◌++◌, length, Some, Vec, vec_capacity, ◌⊎◌, inl, inr, refl, sym, ap, ◌∙◌, subst, arith}
use Rattle.std.specs.Prelude.{nat_le}
use Rattle.pgo_model.specs.Core.{Settings}
use Rattle.pgo_model.specs.Machine.{nth, is_empty}
use Rattle.pgo_model.specs.System.{System}
use Rattle.pgo_workers.specs.Walk.{Walk}
use Rattle.pgo_section.specs.Programs.{Trees}
use Rattle.pgo_section.specs.declared.worker.Worker.{Worker}
use Rattle.pgo_core.specs.Cores.{all_roomy, IsOpened, AreOpened}
use Rattle.pgo_core.proofs.AccountLists.{nth_end}

-- one list more
pub one_room : {A B : Type 0} (n : ℕ) (vs : List (Vec A B)) (v : Vec A B) → all_roomy n vs ≡ true → v.items ≡ [] → n ≤ vec_capacity v → all_roomy n (vs ++ (v ∷ [])) ≡ true
one_room n [] v all empty room = (λ i. is_empty (empty i) && (near (nat_le n (vec_capacity v)) refl i && true))
  where
    near : (b : Bool) → nat_le n (vec_capacity v) ≡ b → b ≡ true
    near true e = refl
    near false e = absurd (grind (arith, e, room))
one_room n (u ∷ vs) v all empty room = go (is_empty u.items) (nat_le n (vec_capacity u)) all (λ h. one_room n vs v h empty room)
  where
    go : (a b : Bool) → (a && (b && all_roomy n vs)) ≡ true → (all_roomy n vs ≡ true → all_roomy n (vs ++ (v ∷ [])) ≡ true) → (a && (b && all_roomy n (vs ++ (v ∷ [])))) ≡ true
    go true true h ih = ih h
    go true false h ih = absurd (grind (arith, h))
    go false b h ih = absurd (grind (arith, h))

-- one worker more
pub one_opened : {C : Type 0} (y : System) (tree : Trees) (walk : C → Walk) (settings : Settings) (ws new : List (Worker C)) (w : Worker C) (k : ℕ) → new ≡ ws ++ (w ∷ []) → k ≡ length ws → AreOpened y tree walk settings ws → IsOpened y tree walk settings k w → AreOpened y tree walk settings new
one_opened y tree walk settings ws new w k items len are is j v e = go (nth_end ws w j v (sym (ap (λ l. nth l j) items) ∙ e))
  where
    go : (nth ws j ≡ Some v) ⊎ ((j ≡ length ws) × (w ≡ v)) → IsOpened y tree walk settings j v
    go (inl h) = are j v h
    go (inr h) = subst (λ j. IsOpened y tree walk settings j v) (len ∙ sym h.0) (subst (IsOpened y tree walk settings k) h.1 is)
