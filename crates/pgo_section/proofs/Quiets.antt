-- What is done to contents, and what a walk does on them.
use Rattle.std.proofs.Common.{◌≡◌, ◌≤◌, ◌<◌, ◌+◌, ℕ, zero, suc, Bool, true, false, List, [], ◌∷◌, length, drop, get_or, Option, Some, None, refl, sym, ap, ◌∙◌, subst, arith}
use Rattle.std.specs.Prelude.{if◌then◌else◌, nat_eq, nat_lt}
use Rattle.std.proofs.Math.ListN.{set}
use Rattle.pgo_base.specs.Data.{Data}
use Rattle.pgo_model.specs.Machine.{put}
use Rattle.pgo_resource.specs.PlainRows.{nothing, shown_at}
use Rattle.pgo_workers.specs.View.{Shown}
use Rattle.pgo_workers.specs.Walk.{End, Walk, Stop, Touch, Again, Within, goes_back, settled, settled_stays, within_settled, ending_from, visits_from}
use Rattle.pgo_section.specs.Quiet.{bases, currents, Begins, WithinFirst, Went}

module _ {R : Type 0} (shows : R → Shown) where
  set_here : (xs : List R) (i : ℕ) (c : R) → i < length xs → shown_at shows (set xs i c) i ≡ shows c
  set_here [] i c h = absurd (omega (arith, h))
  set_here (x ∷ xs) zero c h = refl
  set_here (x ∷ xs) (suc i) c h = set_here xs i c (omega (arith, h))

  set_other : (xs : List R) (i : ℕ) (c : R) (r : ℕ) → (r ≡ i → ⊥) → shown_at shows (set xs i c) r ≡ shown_at shows xs r
  set_other [] i c r h = refl
  set_other (x ∷ xs) zero c zero h = absurd (h refl)
  set_other (x ∷ xs) zero c (suc r) h = refl
  set_other (x ∷ xs) (suc i) c zero h = refl
  set_other (x ∷ xs) (suc i) c (suc r) h = set_other xs i c r (λ e. h (ap (λ n. suc n) e))

  -- with another content at i
  shown_set : (xs : List R) (i : ℕ) (c : R) (r : ℕ) → i < length xs → shown_at shows (set xs i c) r ≡ (if nat_eq r i then shows c else shown_at shows xs r)
  shown_set xs i c r h = go (nat_eq r i) refl
    where
      go : (b : Bool) → nat_eq r i ≡ b → shown_at shows (set xs i c) r ≡ (if b then shows c else shown_at shows xs r)
      go true q = ap (shown_at shows (set xs i c)) (let s : r ≡ i = grind (arith, q) in s) ∙ set_here xs i c h
      go false q = set_other xs i c r (λ s. absurd (let z : nat_eq r i ≡ true = grind (arith, s) in grind (arith, q, z)))

  pub shown_here : (xs : List R) (i : ℕ) (c : R) → i < length xs → c ≡ get_or xs i c → shown_at shows xs i ≡ shows c
  shown_here [] i c h e = absurd (omega (arith, h))
  shown_here (x ∷ xs) zero c h e = ap shows (sym e)
  shown_here (x ∷ xs) (suc i) c h e = shown_here xs i c (omega (arith, h)) e

  pub shown_far : (xs : List R) (r : ℕ) → length xs ≤ r → shown_at shows xs r ≡ nothing
  shown_far [] r h = refl
  shown_far (x ∷ xs) zero h = absurd (omega (arith, h))
  shown_far (x ∷ xs) (suc r) h = shown_far xs r (omega (arith, h))

  -- a content with the same base
  pub base_set : (xs : List R) (i : ℕ) (old new : R) → i < length xs → old ≡ get_or xs i old → (shows new).base ≡ (shows old).base → bases shows (set xs i new) ≡ bases shows xs
  base_set xs i old new h at e = λ j. λ r. each r j
    where
      pick : (r : ℕ) (b : Bool) → nat_eq r i ≡ b → (if b then shows new else shown_at shows xs r).base ≡ (shown_at shows xs r).base
      pick r true q = e ∙ ap (λ (c : Shown). c.base) (sym (shown_here xs i old h at)) ∙ ap (λ n. (shown_at shows xs n).base) (let s : i ≡ r = grind (arith, q) in s)
      pick r false q = refl

      each : (r : ℕ) → bases shows (set xs i new) r ≡ bases shows xs r
      each r = ap (λ (c : Shown). c.base) (shown_set xs i new r h) ∙ pick r (nat_eq r i) refl

  pub current_set : (xs : List R) (i : ℕ) (new : R) → i < length xs → currents shows (set xs i new) ≡ put i (shows new).current (currents shows xs)
  current_set xs i new h = λ j. λ r. each r j
    where
      pick : (r : ℕ) (b : Bool) → (if b then shows new else shown_at shows xs r).current ≡ (if b then (shows new).current else (shown_at shows xs r).current)
      pick r true = refl
      pick r false = refl

      each : (r : ℕ) → currents shows (set xs i new) r ≡ put i (shows new).current (currents shows xs) r
      each r = ap (λ (c : Shown). c.current) (shown_set xs i new r h) ∙ pick r (nat_eq r i)

  -- one content more is put back
  pub reset_step : (xs start : List R) (i : ℕ) (old new : R) → i < length xs → old ≡ get_or xs i old → shows new ≡ record (shows old) { current = (shows old).base } → bases shows xs ≡ bases shows start
      → ((r : ℕ) → r < i → currents shows xs r ≡ bases shows start r) → (r : ℕ) → r < i + 1 → currents shows (set xs i new) r ≡ bases shows start r
  reset_step xs start i old new h at e same before r near = ap (λ (f : ℕ → Data). f r) (current_set xs i new h) ∙ pick (nat_eq r i) refl
    where
      pick : (b : Bool) → nat_eq r i ≡ b → (if b then (shows new).current else currents shows xs r) ≡ bases shows start r
      pick true q =
          ap (λ (c : Shown). c.current) e ∙ ap (λ (c : Shown). c.base) (sym (shown_here xs i old h at)) ∙ ap (bases shows xs) (let s : i ≡ r = grind (arith, q) in s) ∙ ap (λ (f : ℕ → Data). f r) same
      pick false q = before r (let n : (r ≡ i → ⊥) = (λ s. absurd (let z : nat_eq r i ≡ true = grind (arith, s) in grind (arith, q, z))) in omega (arith, near, n))

  pub reset_end : (xs start : List R) (i : ℕ) → length xs ≤ i → bases shows xs ≡ bases shows start → ((r : ℕ) → r < i → currents shows xs r ≡ bases shows start r) → currents shows xs ≡ bases shows start
  reset_end xs start i far same before = λ j. λ r. each r (nat_lt r i) refl j
    where
      each : (r : ℕ) (b : Bool) → nat_lt r i ≡ b → currents shows xs r ≡ bases shows start r
      each r true q = before r (grind (arith, q))
      each r false q =
          let none = shown_far xs r (let z : i ≤ r = grind (arith, q) in omega (arith, far, z)) in
          ap (λ (c : Shown). c.current) none ∙ ap (λ (c : Shown). c.base) (sym none) ∙ ap (λ (f : ℕ → Data). f r) same

-- ---- walks

ending_settled : (s : ℕ → Data) (w : Walk) (f : ℕ → Data) → ending_from s (settled w) (if goes_back w then s else f) ≡ ending_from s w f
ending_settled s (Stop e) f = refl
ending_settled s (Touch r leave rest) f = refl
ending_settled s (Again w) f = go (goes_back w) (ending_settled s w s)
  where
    go : (b : Bool) → ending_from s (settled w) (if b then s else s) ≡ ending_from s w s → ending_from s (settled w) s ≡ ending_from s w s
    go true h = h
    go false h = h

visits_settled : (s : ℕ → Data) (w : Walk) (f : ℕ → Data) → visits_from s (settled w) (if goes_back w then s else f) ≡ visits_from s w f
visits_settled s (Stop e) f = refl
visits_settled s (Touch r leave rest) f = refl
visits_settled s (Again w) f = go (goes_back w) (visits_settled s w s)
  where
    go : (b : Bool) → visits_from s (settled w) (if b then s else s) ≡ visits_from s w s → visits_from s (settled w) s ≡ visits_from s w s
    go true h = h
    go false h = h

less : (a b c : List ℕ) (r : ℕ) → a ≡ b → c ≡ r ∷ b → length a < length c
less a b c r e f = subst (λ l. length a < length l) (sym f) (subst (λ l. length l < suc (length b)) (sym e) (let n = length b in omega (arith)))

-- an access, and what is settled behind it
went : (n : ℕ) (s : ℕ → Data) (r : ℕ) (leave : Data → Data) (rest : Data → Walk) (f g : ℕ → Data) → WithinFirst n (Touch r leave rest)
    → g ≡ (if goes_back (rest (f r)) then s else put r (leave (f r)) f) → Went n s (Touch r leave rest) f (settled (rest (f r))) g
went n s r leave rest f g within e =
    let w = rest (f r) in let h = put r (leave (f r)) f in record {
      begins = record { within = within_settled (λ r. r < n) (λ o. Unit {0}) w (within.1 (f r)); settled = settled_stays w };
      ending = ap (ending_from s (settled w)) e ∙ ending_settled s w h;
      fewer = less _ (visits_from s w h) _ r (ap (visits_from s (settled w)) e ∙ visits_settled s w h) refl;
    }

pub first_below : (n : ℕ) (w : Walk) (r : ℕ) (leave : Data → Data) (rest : Data → Walk) → w ≡ Touch r leave rest → WithinFirst n w → r < n
first_below n w r leave rest e h = (subst (WithinFirst n) e h).0

-- the same, of what the calls say
pub went_on : (n : ℕ) (s : ℕ → Data) (w v u : Walk) (f g : ℕ → Data) (r : ℕ) (leave : Data → Data) (rest : Data → Walk) (x : Data) (b : Bool) → w ≡ Touch r leave rest → WithinFirst n w → f r ≡ x → v ≡ rest x → u ≡ settled v → b ≡ goes_back v
    → g ≡ (if b then s else put r (leave x) f) → Went n s w f u g
went_on n s w v u f g r leave rest x b e within at lead settles back is =
    let there : v ≡ rest (f r) = lead ∙ ap rest (sym at) in
    let values : g ≡ (if goes_back (rest (f r)) then s else put r (leave (f r)) f) =
    is ∙ ap (λ b. if b then s else put r (leave x) f) (back ∙ ap goes_back there) ∙ ap (λ y. if goes_back (rest (f r)) then s else put r (leave y) f) (sym at) in
    subst (λ w. Went n s w f u g) (sym e) (subst (λ u. Went n s (Touch r leave rest) f u g) (sym (settles ∙ ap settled there)) (went n s r leave rest f g (subst (WithinFirst n) e within) values))

-- an end without an access is that of all values
pub stuck_end : (w : Walk) (e : End) → w ≡ Stop e → (s f : ℕ → Data) → ending_from s w f ≡ e
stuck_end w e is s f = ap (λ w. ending_from s w f) is
