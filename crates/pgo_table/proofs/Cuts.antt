-- The lists that a seat keeps, cut where a resource stands.
use Rattle.std.proofs.Common.{append-nil, append_assoc, drop, ◌≡◌, ℕ, zero, suc, ◌<◌, ◌≢◌, Bool, true, false, List, [], ◌∷◌, ◌++◌, map, length, get_or, sym, refl, ap, ◌∙◌, arith, None, Some}
use Rattle.std.proofs.lemmas.List.{map-append, length-map}
use Rattle.std.specs.List.{remove}
use Rattle.std.specs.Prelude.{if◌then◌else◌, nat_eq}
use Rattle.atomic_table.specs.Table.{turned}
use Rattle.pgo_model.specs.Machine.{among}
use Rattle.pgo_resource.specs.PlainRows.{apart}
use Rattle.pgo_resource.proofs.PlainPlaces.{apart_parts, apart_made}
use Rattle.pgo_table.specs.SeatViews.{Holding, holding_at, without, resources}
use Rattle.pgo_table.specs.Places.{place}
use Rattle.pgo_table.specs.SeatCalls.{empty_slot, turned_by}
use Rattle.pgo_table.specs.Steps.{Slot}
use Rattle.pgo_table.proofs.Sums.{eq_is, is_eq, not_eq, eq_not, not_some}

-- a list cut at a place
pub record Cut (xs : List ℕ) (p r : ℕ) : Type 0 where
  pub front : List ℕ
  pub back : List ℕ
  pub whole : xs ≡ front ++ r ∷ back
  pub place : length front ≡ p
  pub others : remove xs p ≡ front ++ back

pub cut : (xs : List ℕ) (p r : ℕ) → p < length xs → get_or xs p 0 ≡ r → Cut xs p r
cut [] p r h e = absurd (omega (arith, h))
cut (x ∷ xs) zero r h e = record { front = []; back = xs; whole = ap (λ (y : ℕ). y ∷ xs) e; place = refl; others = refl }
cut (x ∷ xs) (suc p) r h e = let t = cut xs p r (omega (arith, h)) e in record { front = x ∷ t.front; back = t.back; whole = ap (λ (l : List ℕ). x ∷ l) t.whole; place = ap suc t.place; others = ap (λ (l : List ℕ). x ∷ l) t.others }

pub turned_by-all : {A : Type 0} (xs ys : List (ℕ × A)) → turned_by (length xs) (xs ++ ys) ≡ ys ++ xs
turned_by-all [] ys = sym (append-nil ys)
turned_by-all (x ∷ xs) ys = ap (turned_by (length xs)) (append_assoc xs ys (x ∷ [])) ∙ (turned_by-all xs (ys ++ x ∷ []) ∙ append_assoc ys (x ∷ []) xs)

-- the slots after as many turns as stand before r
pub to_front : {C : Type 0} (xs : List ℕ) (p r : ℕ) (t : Cut xs p r) → turned_by p (map (empty_slot {C = C}) xs) ≡ (r, None) ∷ (map (empty_slot {C = C}) t.back ++ map (empty_slot {C = C}) t.front)
to_front {C} xs p r t =
    let E : ℕ → ℕ × Slot C = empty_slot {C = C} in
    let long : length (map E t.front) ≡ p = length-map t.front E ∙ t.place in
    ap (λ (l : List ℕ). turned_by p (map E l)) t.whole ∙ (ap (turned_by p) (map-append E t.front (r ∷ t.back)) ∙ (ap (λ (n : ℕ). turned_by n (map E t.front ++ map E (r ∷ t.back))) (sym long) ∙ turned_by-all (map E t.front) (map E (r ∷ t.back))))

pub to_back : {C : Type 0} (front back : List ℕ) (n : ℕ) → n ≡ length back → turned_by n (map (empty_slot {C = C}) back ++ map (empty_slot {C = C}) front) ≡ map (empty_slot {C = C}) (front ++ back)
to_back {C} front back n e =
    let E : ℕ → ℕ × Slot C = empty_slot {C = C} in
    ap (λ (k : ℕ). turned_by k (map E back ++ map E front)) (e ∙ sym (length-map back E)) ∙ (turned_by-all (map E back) (map E front) ∙ sym (map-append E front back))

pub turns : {C : Type 0} (r : ℕ) (xs : List ℕ) → turned ((r, None) ∷ map (empty_slot {C = C}) xs) ≡ map (empty_slot {C = C}) (xs ++ r ∷ [])
turns {C} r xs = sym (map-append (empty_slot {C = C}) xs (r ∷ []))

-- ---- each once

pub record Around (n r : ℕ) (front back : List ℕ) : Type 0 where
  pub before : among r front ≡ false
  pub behind : among r back ≡ false
  pub others : apart n (front ++ back) ≡ true

among-append : (q : ℕ) (a b : List ℕ) → among q (a ++ b) ≡ false → (among q a ≡ false) × (among q b ≡ false)
among-append q [] b h = (refl, h)
among-append q (x ∷ a) b h = go (nat_eq q x) h (λ h. among-append q a b h)
  where
    go : (t : Bool) → (if t then true else among q (a ++ b)) ≡ false → (among q (a ++ b) ≡ false → (among q a ≡ false) × (among q b ≡ false)) → ((if t then true else among q a) ≡ false) × (among q b ≡ false)
    go true h ih = absurd (grind (arith, h))
    go false h ih = ih h

among-both : (q : ℕ) (a b : List ℕ) → among q a ≡ false → among q b ≡ false → among q (a ++ b) ≡ false
among-both q [] b h k = k
among-both q (x ∷ a) b h k = go (nat_eq q x) h (λ h. among-both q a b h k)
  where
    go : (t : Bool) → (if t then true else among q a) ≡ false → (among q a ≡ false → among q (a ++ b) ≡ false) → (if t then true else among q (a ++ b)) ≡ false
    go true h ih = h
    go false h ih = ih h

pub around : (n r : ℕ) (front back : List ℕ) → apart n (front ++ r ∷ back) ≡ true → Around n r front back
around n r [] back a = let p = apart_parts n r back a in record { before = refl; behind = p.1; others = p.2 }
around n r (x ∷ front) back a =
    let p = apart_parts n x (front ++ r ∷ back) a in let q = around n r front back p.2 in let s = among-append x front (r ∷ back) p.1 in record {
      before = go (nat_eq r x) refl s.1 q.before;
      behind = q.behind;
      others = apart_made n x (front ++ back) p.0 (among-both x front back s.0 (rest (nat_eq x r) s.1)) q.others;
    }
  where
    rest : (t : Bool) → (if t then true else among x back) ≡ false → among x back ≡ false
    rest true h = absurd (grind (arith, h))
    rest false h = h

    go : (t : Bool) → nat_eq r x ≡ t → (if nat_eq x r then true else among x back) ≡ false → among r front ≡ false → (if t then true else among r front) ≡ false
    go true e h k = absurd (grind (arith, sym (ap (λ b. if b then true else among x back) (is_eq x r (sym (eq_is r x e)))) ∙ h))
    go false e h k = k

-- without r nothing else goes
pub without_none : (hs : List Holding) (r : ℕ) → among r (resources hs) ≡ false → without hs r ≡ hs
without_none [] r out = refl
without_none (x ∷ hs) r out = go (nat_eq x.resource r) refl out (λ o. without_none hs r o)
  where
    go : (t : Bool) → nat_eq x.resource r ≡ t → (if nat_eq r x.resource then true else among r (resources hs)) ≡ false → (among r (resources hs) ≡ false → without hs r ≡ hs) → (if t then without hs r else x ∷ without hs r) ≡ x ∷ hs
    go true e h ih = absurd (grind (arith, sym (ap (λ b. if b then true else among r (resources hs)) (is_eq r x.resource (sym (eq_is x.resource r e)))) ∙ h))
    go false e h ih = ap (λ (l : List Holding). x ∷ l) (ih (rest (nat_eq r x.resource) h))
      where
        rest : (t : Bool) → (if t then true else among r (resources hs)) ≡ false → among r (resources hs) ≡ false
        rest true h = absurd (grind (arith, h))
        rest false h = h

pub listed-without : (hs : List Holding) (front back : List ℕ) (r : ℕ) → resources hs ≡ front ++ r ∷ back → among r front ≡ false → among r back ≡ false → resources (without hs r) ≡ front ++ back
listed-without [] [] back r e before behind = absurd (let l = ap (λ (l : List ℕ). length l) e in omega (arith, l))
listed-without [] (f ∷ front) back r e before behind = absurd (let l = ap (λ (l : List ℕ). length l) e in omega (arith, l))
listed-without (x ∷ xs) [] back r e before behind =
    let head : x.resource ≡ r = ap (λ (l : List ℕ). get_or l 0 0) e in let tail : resources xs ≡ back = ap (drop 1) e in
    ap (λ t. resources (if t then without xs r else x ∷ without xs r)) (is_eq x.resource r head) ∙ (ap resources (without_none xs r (ap (among r) tail ∙ behind)) ∙ tail)
listed-without (x ∷ xs) (f ∷ front) back r e before behind =
    let head : x.resource ≡ f = ap (λ (l : List ℕ). get_or l 0 0) e in let tail : resources xs ≡ front ++ r ∷ back = ap (drop 1) e in
    let two = parts (nat_eq r f) refl before in
    ap (λ t. resources (if t then without xs r else x ∷ without xs r)) (not_eq x.resource r (λ same. two.0 (sym same ∙ head))) ∙ (λ i. head i ∷ listed-without xs front back r tail two.1 behind i)
  where
    parts : (t : Bool) → nat_eq r f ≡ t → (if t then true else among r front) ≡ false → (r ≢ f) × (among r front ≡ false)
    parts true e h = absurd (grind (arith, h))
    parts false e h = (eq_not r f e, h)

pub placed : (hs : List Holding) (r : ℕ) (h : Holding) → holding_at hs r ≡ Some h → (k : ℕ) × (k < length (resources hs)) × (get_or (resources hs) k 0 ≡ r)
placed [] r h at = absurd (not_some None h refl at)
placed (x ∷ xs) r h at = go (nat_eq x.resource r) refl at (λ e. placed xs r h e)
  where
    go : (t : Bool) → nat_eq x.resource r ≡ t → (if t then Some x else holding_at xs r) ≡ Some h → (holding_at xs r ≡ Some h → (k : ℕ) × (k < length (resources xs)) × (get_or (resources xs) k 0 ≡ r)) → (k : ℕ) × (k < length (resources (x ∷ xs))) × (get_or (resources (x ∷ xs)) k 0 ≡ r)
    go true e at ih = (0, omega arith, eq_is x.resource r e)
    go false e at ih = let t = ih at in (suc t.0, let n = t.1 in omega (arith, n), t.2)

pub place_is : (xs : List ℕ) (i r : ℕ) → ((k : ℕ) → k < i → get_or xs k 0 ≢ r) → i < length xs → get_or xs i 0 ≡ r → place xs r ≡ i
place_is [] i r before near at = absurd (omega (arith, near))
place_is (x ∷ xs) zero r before near at = ap (λ b. if b then 0 else suc (place xs r)) (is_eq x r at)
place_is (x ∷ xs) (suc i) r before near at = ap (λ b. if b then 0 else suc (place xs r)) (not_eq x r (before 0 (omega arith))) ∙ ap suc (place_is xs i r (λ k h. before (suc k) (omega (arith, h))) (omega (arith, near)) at)
