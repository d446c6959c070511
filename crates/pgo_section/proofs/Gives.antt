-- Gives of what is held.
use Rattle.std.proofs.Common.{◌≡◌, ℕ, Bool, true, false, List, [], ◌∷◌, length, get_or, Some, None, refl, sym, ap, ◌∙◌, subst, arith}
use Rattle.std.specs.Prelude.{if◌then◌else◌, nat_eq, not, ◌==◌}
use Rattle.std.specs.List.{remove}
use Rattle.pgo_model.specs.Machine.{is_empty}
use Rattle.pgo_workers.specs.Walk.{Walk}
use Rattle.pgo_workers.specs.View.{Hold, View, World, EachHold, MayGive, hold_at, resources_of}
use Rattle.pgo_workers.specs.Worker.{Program, Phase, Resting, Walking, Giving, Worker, is_giving}
use Rattle.pgo_workers.specs.Sentences.{Meets, Sound, Place}
use Rattle.pgo_section.specs.Sight.{phase_at}

eq_true : (a b : ℕ) → a ≡ b → nat_eq a b ≡ true
eq_true a b e = grind (arith, e)

module _ {S D : Type 0} (W : World S D) (P : Program S D) (Reaches : ℕ → ℕ → Type 0) (Good : S → Type 0) where
  giving_place : (w : Worker) (b : View D) (p : Phase) → is_giving p ≡ true → Place W P Reaches Good w b p → EachHold (λ h. h.content.current ≡ h.value) b.held × (w.taken ≡ [] → ⊥)
  giving_place w b Resting e q = absurd (grind (arith, e))
  giving_place w b (Walking x j) e q = absurd (grind (arith, e))
  giving_place w b Giving e q = q

  pub some_taken : (w : Worker) (b : View D) → Meets W P Reaches Good w b → is_giving w.phase ≡ true → w.taken ≡ [] → ⊥
  some_taken w b m g = (giving_place w b w.phase g m.place).1

  pub may_give : (w : Worker) (b : View D) (r : ℕ) (rs : List ℕ) → Meets W P Reaches Good w b → is_giving w.phase ≡ true → w.taken ≡ r ∷ rs → MayGive r b
  may_give w b r rs m g first = go b.held refl (sym first ∙ m.taken) m.sound (giving_place w b w.phase g m.place).0
    where
      at_first : (h : Hold) (hs : List Hold) → h.resource ≡ r → hold_at (h ∷ hs) r ≡ Some h
      at_first h hs e = ap (λ b. if b then Some h else hold_at hs r) (eq_true h.resource r e)

      go : (l : List Hold) → b.held ≡ l → r ∷ rs ≡ resources_of l → EachHold (Sound W P Reaches Good) b.held → EachHold (λ h. h.content.current ≡ h.value) b.held → MayGive r b
      go [] e f s back = absurd (grind (arith, f))
      go (h ∷ hs) e f s back =
          let named : h.resource ≡ r = (let q : h.resource ≡ r = cc in q) in
          let s0 = (subst (EachHold (Sound W P Reaches Good)) e s).0 in
          record {
            hold = h;
            is_held = ap (λ l. hold_at l r) e ∙ at_first h hs named;
            base = s0.0;
            current = (subst (EachHold (λ h. h.content.current ≡ h.value)) e back).0;
            count = s0.1;
            number = s0.2;
          }

pub first_of_list : (l : List ℕ) (r : ℕ) → (l ≡ [] → ⊥) → r ≡ get_or l 0 r → l ≡ r ∷ remove l 0
first_of_list [] r n e = absurd (n refl)
first_of_list (x ∷ l) r n e = let q : remove (x ∷ l) 0 ≡ l = refl in (λ i. sym e i ∷ sym q i)

pub phase_of : {C : Type 0} (walk : C → Walk) (j : ℕ) (rs : List ℕ) (n : ℕ) (b : Bool) → length rs ≡ n → b ≡ (n == 0) → phase_at walk (not b) None j ≡ (if is_empty rs then Resting else Giving)
phase_of walk j [] n b e f = let q : b ≡ true = (let z : n == 0 ≡ true = grind (arith, e) in f ∙ z) in ap (λ b. phase_at walk (not b) None j) q
phase_of walk j (r ∷ rs) n b e f = let q : b ≡ false = (let z : n == 0 ≡ false = grind (arith, e) in f ∙ z) in ap (λ b. phase_at walk (not b) None j) q
