-- What comes of trying leaf after leaf.
use Rattle.std.proofs.Common.{◌≡◌, ◌≤◌, ◌<◌, ℕ, zero, suc, Bool, true, false, List, [], ◌∷◌, length, take, drop, Option, Some, None, refl, sym, ap, ◌∙◌, arith}
use Rattle.std.specs.Prelude.{if◌then◌else◌}
use Rattle.pgo_model.specs.System.{Words}
use Rattle.pgo_tries.specs.Chosen.{Chosen, Leaf, follow, leaves_from, turned, In, Here, There}
use Rattle.pgo_tries.specs.Tries.{Chained, Begins, chained}

-- the first leaf that isn't blocked; or all are; or the first ones are, as many as were tried, and there are more
pub data Result (E : Type 0) : Type 0 where
  Found : (e : E) → Result E
  AllBlocked : Result E
  Many : Result E

abbrev pub tried_on : {E : Type 0} → (List ℕ → Result E) → Option (List ℕ) → Result E
tried_on f None = AllBlocked
tried_on f (Some p) = f p

-- at most `room` leaves are tried, from the path p on
abbrev pub tried : {E : Type 0} → (E → Bool) → Words → ℕ → List ℕ → Chosen E → Result E
tried blocked w zero p t = Many
tried blocked w (suc room) p t =
    let l = follow w 0 p t in if blocked l.1 then tried_on (λ q. tried blocked w room q t) (turned w 0 l.0) else Found l.1

module _ {E : Type 0} (blocked : E → Bool) where
  -- of a list of leaves
  abbrev pub first_of : ℕ → List (Leaf E) → Result E
  first_of room [] = AllBlocked
  first_of zero (l ∷ ls) = Many
  first_of (suc room) (l ∷ ls) = if blocked l.1 then first_of room ls else Found l.1

  along_chain : (w : Words) (t : Chosen E) (room : ℕ) (p : List ℕ) (l : Leaf E) (ls : List (Leaf E)) → follow w 0 p t ≡ l → Chained w 0 t (l ∷ ls) → tried blocked w room p t ≡ first_of room (l ∷ ls)
  along_chain w t zero p l ls e c = refl
  along_chain w t (suc room) p l [] e c =
      ap (λ (l : Leaf E). if blocked l.1 then tried_on (λ q. tried blocked w room q t) (turned w 0 l.0) else Found l.1) e
      ∙ ap (λ o. if blocked l.1 then tried_on (λ q. tried blocked w room q t) o else Found l.1) c
  along_chain w t (suc room) p l (m ∷ ls) e c =
      ap (λ (l : Leaf E). if blocked l.1 then tried_on (λ q. tried blocked w room q t) (turned w 0 l.0) else Found l.1) e
      ∙ ap (λ o. if blocked l.1 then tried_on (λ q. tried blocked w room q t) o else Found l.1) c.0.1
      ∙ ap (λ r. if blocked l.1 then r else Found l.1) (along_chain w t room c.0.0 m ls c.0.2 c.1)

  -- what is tried are the leaves from the words on
  pub tried_leaves : (w : Words) (t : Chosen E) (room : ℕ) → tried blocked w room [] t ≡ first_of room (leaves_from w 0 t)
  tried_leaves w t room = go (leaves_from w 0 t) (chained w 0 t)
    where
      go : (ls : List (Leaf E)) → Chained w 0 t ls × Begins (follow w 0 [] t) ls → tried blocked w room [] t ≡ first_of room ls
      go [] h = absurd h.0
      go (l ∷ ls) h = along_chain w t room [] l ls (sym h.1) h.0

  abbrev pub AreBlocked : List (Leaf E) → Type 0
  AreBlocked ls = (l : Leaf E) → In l ls → blocked l.1 ≡ true

  found_not : (e : E) → Found e ≡ AllBlocked → ⊥
  found_not e h = let x : true ≡ false = ap is_found h in grind (arith, x)
    where
      is_found : Result E → Bool
      is_found (Found e) = true
      is_found AllBlocked = false
      is_found Many = false

  many_not : (let m : Result E = Many in m) ≡ AllBlocked → ⊥
  many_not h = let x : true ≡ false = ap is_many h in grind (arith, x)
    where
      is_many : Result E → Bool
      is_many (Found e) = false
      is_many AllBlocked = false
      is_many Many = true

  pub all_blocked : (room : ℕ) (ls : List (Leaf E)) → first_of room ls ≡ AllBlocked → AreBlocked ls × (length ls ≤ room)
  all_blocked room [] h = ((λ l i. elim i [ ]), (let z : 0 ≤ room = omega arith in z))
  all_blocked zero (l ∷ ls) h = absurd (many_not h)
  all_blocked (suc room) (l ∷ ls) h = go (all_blocked room ls) (blocked l.1) refl h
    where
      each : blocked l.1 ≡ true → AreBlocked ls → AreBlocked (l ∷ ls)
      each e a m (Here _) = e
      each e a m (There _ i) = a m i

      go : (first_of room ls ≡ AllBlocked → AreBlocked ls × (length ls ≤ room)) → (b : Bool) → blocked l.1 ≡ b → (if b then first_of room ls else Found l.1) ≡ AllBlocked → AreBlocked (l ∷ ls) × (suc (length ls) ≤ suc room)
      go ih false e h = absurd (found_not l.1 h)
      go ih true e h = let r = ih h in (each e r.0, (let q = r.1 in let z : suc (length ls) ≤ suc room = omega (arith, q) in z))

  pub when_blocked : (room : ℕ) (ls : List (Leaf E)) → AreBlocked ls → length ls ≤ room → first_of room ls ≡ AllBlocked
  when_blocked room [] a h = refl
  when_blocked zero (l ∷ ls) a h = absurd (omega (arith, h))
  when_blocked (suc room) (l ∷ ls) a h =
      ap (λ (b : Bool). if b then first_of room ls else Found l.1) (a l (Here ls)) ∙ when_blocked room ls (λ m i. a m (There l i)) (let z : length ls ≤ room = omega (arith, h) in z)

  found_many : (e : E) → Found e ≡ Many → ⊥
  found_many e h = let x : true ≡ false = ap is_found h in grind (arith, x)
    where
      is_found : Result E → Bool
      is_found (Found e) = true
      is_found AllBlocked = false
      is_found Many = false

  blocked_many : (let m : Result E = AllBlocked in m) ≡ Many → ⊥
  blocked_many h = let x : true ≡ false = ap is_all h in grind (arith, x)
    where
      is_all : Result E → Bool
      is_all (Found e) = false
      is_all AllBlocked = true
      is_all Many = false

  -- Many: the first leaves, as many as are tried, are blocked, and there are more
  pub more_leaves : (room : ℕ) (ls : List (Leaf E)) → first_of room ls ≡ Many → AreBlocked (take room ls) × (room < length ls)
  more_leaves room [] h = absurd (blocked_many h)
  more_leaves zero (l ∷ ls) h = ((λ l i. elim i [ ]), (let z : 0 < suc (length ls) = omega arith in z))
  more_leaves (suc room) (l ∷ ls) h = go (more_leaves room ls) (blocked l.1) refl h
    where
      each : blocked l.1 ≡ true → AreBlocked (take room ls) → AreBlocked (l ∷ take room ls)
      each e a m (Here _) = e
      each e a m (There _ i) = a m i

      go : (first_of room ls ≡ Many → AreBlocked (take room ls) × (room < length ls)) → (b : Bool) → blocked l.1 ≡ b → (if b then first_of room ls else Found l.1) ≡ Many → AreBlocked (l ∷ take room ls) × (suc room < suc (length ls))
      go ih false e h = absurd (found_many l.1 h)
      go ih true e h = let r = ih h in (each e r.0, (let q = r.1 in let z : suc room < suc (length ls) = omega (arith, q) in z))

  -- an end that is found is not blocked, and is that of the first leaf that isn't
  pub first_found : (room : ℕ) (ls : List (Leaf E)) (e : E) → first_of room ls ≡ Found e → (n : ℕ) × (n < room) × (l : Leaf E) × (rest : List (Leaf E)) × (drop n ls ≡ l ∷ rest) × (l.1 ≡ e) × (blocked e ≡ false) × AreBlocked (take n ls)
  first_found room [] e h = absurd (found_not e (sym h))
  first_found zero (l ∷ ls) e h = absurd (found_many e (sym h))
  first_found (suc room) (l ∷ ls) e h = go (first_found room ls e) (blocked l.1) refl h
    where
      at : Result E → E → E
      at (Found x) y = x
      at AllBlocked y = y
      at Many y = y

      each : (n : ℕ) → blocked l.1 ≡ true → AreBlocked (take n ls) → AreBlocked (l ∷ take n ls)
      each n e a m (Here _) = e
      each n e a m (There _ i) = a m i

      go : (first_of room ls ≡ Found e → (n : ℕ) × (n < room) × (l : Leaf E) × (rest : List (Leaf E)) × (drop n ls ≡ l ∷ rest) × (l.1 ≡ e) × (blocked e ≡ false) × AreBlocked (take n ls)) → (b : Bool) → blocked l.1 ≡ b → (if b then first_of room ls else Found l.1) ≡ Found e
          → (n : ℕ) × (n < suc room) × (m : Leaf E) × (rest : List (Leaf E)) × (drop n (l ∷ ls) ≡ m ∷ rest) × (m.1 ≡ e) × (blocked e ≡ false) × AreBlocked (take n (l ∷ ls))
      go ih false f h = let s : l.1 ≡ e = ap (λ r. at r e) h in (0, (let z : 0 < suc room = omega arith in z), l, ls, refl, s, sym (ap blocked s) ∙ f, (λ l i. elim i [ ]))
      go ih true f h = let r = ih h in (suc r.0, (let q = r.1 in let z : suc r.0 < suc room = omega (arith, q) in z), r.2, r.3, r.4, r.5, r.6, each r.0 f r.7)
