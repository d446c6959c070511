-- Parts joined: what they find, and the states between them.
use Rattle.std.proofs.Common.{◌≡◌, ◌≤◌, ◌<◌, ◌+◌, ◌-◌, ◌⊎◌, inl, inr, ℕ, zero, suc, Bool, true, false, List, [], ◌∷◌, ◌++◌, length, map, take, drop, Option, Some, None, Result, Ok, Err, IfOk, refl, sym, ap, ◌∙◌, subst, arith}
use Rattle.std.specs.Prelude.{nat_lt}
use Rattle.std.proofs.lemmas.Bool.{ltb-true}
use Rattle.std.proofs.lemmas.List.{length-map}
use Rattle.std.specs.List.{AllByRecursion, AllZip}
use Rattle.pgo_base.specs.Data.{Data}
use Rattle.pgo_base.specs.Lookup.{Name, Vars}
use Rattle.pgo_base.specs.declared.log.Entry as memory
use Rattle.pgo_model.specs.IsRun.{IsStep}
use Rattle.pgo_model.specs.Log.{Effect, StateAt}
use Rattle.pgo_model.specs.LogView.{entry_view}
use Rattle.pgo_model.specs.Machine.{Entry, nth}
use Rattle.pgo_model.specs.MachineLists.{nth_below}
use Rattle.pgo_model.specs.Module.{Module}
use Rattle.pgo_model.specs.Steps.{IsPlaced}
use Rattle.pgo_check.specs.Verdict.{Finds}
use Rattle.pgo_check_par.specs.Parts.{AreParts, FindsAt, Follow, FoundBy, scanned}
use Rattle.pgo_check_par.specs.declared.parts.Part.{Part}
use Rattle.pgo_check_par.proofs.Slices.{finds_in, state_cut, state_front}

below : (p c : ℕ) → (p < c) ⊎ (c ≤ p)
below p c = go (nat_lt p c) refl
  where
    go : (b : Bool) → nat_lt p c ≡ b → (p < c) ⊎ (c ≤ p)
    go true e = inl (ltb-true p c e)
    go false e = inr (grind (arith, e))

pub map_take : {A B : Type 0} (f : A → B) (k : ℕ) (l : List A) → map f (take k l) ≡ take k (map f l)
map_take f zero l = refl
map_take f (suc k) [] = refl
map_take f (suc k) (x ∷ l) = ap (λ r. f x ∷ r) (map_take f k l)

pub map_drop : {A B : Type 0} (f : A → B) (k : ℕ) (l : List A) → map f (drop k l) ≡ drop k (map f l)
map_drop f zero l = refl
map_drop f (suc k) [] = refl
map_drop f (suc k) (x ∷ l) = map_drop f k l

part_length : {A : Type 0} (l : List A) (a b : ℕ) → a ≤ b → b ≤ length l → length (take (b - a) (drop a l)) ≡ b - a
part_length {A} l a b h g = front (drop a l) (b - a) (let q = rest l a in omega (arith, q, h, g))
  where
    rest : {A : Type 0} (l : List A) (a : ℕ) → length l ≤ length (drop a l) + a
    rest l zero = omega arith
    rest [] (suc a) = omega arith
    rest (x ∷ l) (suc a) = let q = rest l a in omega (arith, q)

    front : {A : Type 0} (l : List A) (k : ℕ) → k ≤ length l → length (take k l) ≡ k
    front l zero h = refl
    front [] (suc k) h = absurd (omega (arith, h))
    front (x ∷ l) (suc k) h = ap suc (front l k (omega (arith, h)))

-- the state behind a part
pub behind_part : (s t : Vars) (es : List memory.Entry) (a b : ℕ) (o : Option Vars) → a ≤ b → b ≤ length es → StateAt s (map entry_view es) a ≡ Some t
    → o ≡ StateAt t (map entry_view (take (b - a) (drop a es))) (length (take (b - a) (drop a es))) → StateAt s (map entry_view es) b ≡ o
behind_part s t es a b o h g at is =
    let k : length (take (b - a) (drop a es)) ≡ b - a = part_length es a b h g in
    let l : map entry_view (take (b - a) (drop a es)) ≡ take (b - a) (drop a (map entry_view es)) = map_take entry_view (b - a) (drop a es) ∙ ap (take (b - a)) (map_drop entry_view a es) in
    let sum : b ≡ a + (b - a) = omega (arith, h) in
    ap (StateAt s (map entry_view es)) sum ∙ state_cut s t (map entry_view es) a (b - a) at
    ∙ sym (is ∙ (λ i. StateAt t (l i) (k i)) ∙ state_front t (drop a (map entry_view es)) (b - a) (b - a) (omega arith))

pub follow_more : (s t : Vars) (l : List (Entry Effect)) (a : ℕ) (ps : List Part) (b c : ℕ) → Follow s l a ps b → b < c → c ≤ length l → StateAt s l b ≡ Some t → Follow s l a (ps ++ (record { start = t; from = b; to = c } ∷ [])) c
follow_more s t l a [] b c h less short at = (sym h, less, short, at, refl)
follow_more s t l a (p ∷ ps) b c h less short at = (h.0, h.1, h.2, h.3, follow_more s t l p.to ps b c h.4 less short at)

follow_le : (s : Vars) (l : List (Entry Effect)) (a : ℕ) (ps : List Part) (b : ℕ) → Follow s l a ps b → a ≤ b
follow_le s l a [] b h = omega (arith, h)
follow_le s l a (p ∷ ps) b h = let q = follow_le s l p.to ps b h.4 in let e = h.0 in let n = h.1 in omega (arith, e, n, q)

follow_within : (s : Vars) (l : List (Entry Effect)) (a : ℕ) (ps : List Part) (b : ℕ) → Follow s l a ps b → a ≤ length l → b ≤ length l
follow_within s l a [] b h g = subst (λ n. n ≤ length l) h g
follow_within s l a (p ∷ ps) b h g = follow_within s l p.to ps b h.4 h.2

module _ (m : Module) (consts : List (Name × Data)) (ids : List Data) (s : Vars) (l : List (Entry Effect)) where
  -- what no entry before c is, and then
  behind : (a c b : ℕ) (o : Option ℕ) → a ≤ c → FindsAt m consts ids s l a c None → FindsAt m consts ids s l c b o → FindsAt m consts ids s l a b o
  behind a c b None le before h = λ p e x y at. go p e x y at (below p c)
    where
      go : (p : ℕ) (e : Entry Effect) → a ≤ p → p < b → nth l p ≡ Some e → (p < c) ⊎ (c ≤ p) → IsStep m consts ids s l p e
      go p e x y at (inl z) = before p e x z at
      go p e x y at (inr z) = h p e z y at
  behind a c b (Some p) le before h = (h.0, (let q = h.1 in omega (arith, le, q)), h.2, h.3, h.4, λ q d x y at. go q d x y at (below q c))
    where
      go : (q : ℕ) (d : Entry Effect) → a ≤ q → q < p → nth l q ≡ Some d → (q < c) ⊎ (c ≤ q) → IsStep m consts ids s l q d
      go q d x y at (inl z) = before q d x z at
      go q d x y at (inr z) = h.5 q d z y at

  abbrev FoundHere : {E : Type 0} → Part → Result (Option ℕ) E → Type 0
  FoundHere = FoundBy m consts ids s l

  pub finds_all : {E : Type 0} (a : ℕ) (ps : List Part) (b : ℕ) (rs : List (Result (Option ℕ) E)) → Follow s l a ps b → AllZip FoundHere ps rs → IfOk (scanned rs) (FindsAt m consts ids s l a b)
  finds_all a [] b [] h z = λ p e x y at. absurd (omega (arith, h, x, y))
  finds_all a [] b (r ∷ rs) h z = absurd z
  finds_all a (p ∷ ps) b [] h z = absurd z
  finds_all a (p ∷ ps) b (Err e ∷ rs) h z = tt
  finds_all a (p ∷ ps) b (Ok (Some q) ∷ rs) h z =
      let rest = follow_le s l p.to ps b h.4 in let x = z.0 h.3 in let less = x.2 in
      subst (λ a. FindsAt m consts ids s l a b (Some q)) h.0 (x.0, x.1, omega (arith, rest, less), x.3, x.4, x.5)
  finds_all {E} a (p ∷ ps) b (Ok None ∷ rs) h z = go (scanned rs) (finds_all p.to ps b rs h.4 z.1)
    where
      go : (r : Result (Option ℕ) E) → IfOk r (FindsAt m consts ids s l p.to b) → IfOk r (FindsAt m consts ids s l a b)
      go (Err e) q = tt
      go (Ok o) q = let less = h.1 in subst (λ a. FindsAt m consts ids s l a b o) h.0 (behind p.from p.to b o (omega (arith, less)) (z.0 h.3) q)

  -- what is found up to the end, or up to where there is no state, is found of all
  pub finds_end : (ps : List Part) (o : Option ℕ) → (parts : AreParts s l ps) → FindsAt m consts ids s l 0 parts.last o → Finds m consts ids s l o
  finds_end ps (Some p) parts h = record { entry = h.0; found = h.3; bad = h.4; earlier = λ q less d at. h.5 q d (omega arith) less at }
  finds_end ps None parts h = go parts.ends
    where
      there : {A : Type 0} (l : List A) (n : ℕ) → n < length l → (x : A) × (nth l n ≡ Some x)
      there [] n h = absurd (omega (arith, h))
      there (x ∷ l) zero h = (x, refl)
      there (x ∷ l) (suc n) h = there l n (omega (arith, h))

      no : {A : Type 0} {v : A} → Some v ≡ None → ⊥
      no h = absurd (cc)

      gone : (n : ℕ) → parts.last ≡ n → StateAt s l parts.last ≡ None → ⊥
      gone zero e none = no (sym (ap (StateAt s l) e) ∙ none)
      gone (suc n) e none =
          let short = follow_within s l 0 ps parts.last parts.follow (omega arith) in
          let x = there l n (omega (arith, short, e)) in
          let y = h n x.0 (omega arith) (omega (arith, e)) x.1 in
          no (sym y.to ∙ sym (ap (StateAt s l) e) ∙ none)

      go : (parts.last ≡ length l) ⊎ (StateAt s l parts.last ≡ None) → Finds m consts ids s l None
      go (inl e) = λ p d at. let b = nth_below l p d at in h p d (omega arith) (omega (arith, b, e)) at
      go (inr none) = absurd (gone parts.last refl none)

  -- what is found in a part from the state before it
  pub finds_part : (t : Vars) (a b : ℕ) (o : Option ℕ) → a ≤ b → StateAt s l a ≡ Some t → Finds m consts ids t (take (b - a) (drop a l)) o
      → FindsAt m consts ids s l a b (elim o as (λ o. Option ℕ) [ None ↦ None | Some p ↦ Some (a + p) ])
  finds_part t a b None le at h =
      let x = finds_in m consts ids s t l a (b - a) at None h in
      λ p e low high found.
      let k : p ≡ a + (p - a) = omega (arith, low) in
      subst (λ n. IsStep m consts ids s l n e) (sym k) (x (p - a) e (omega (arith, low, high)) (ap (nth l) (sym k) ∙ found))
  finds_part t a b (Some q) le at h =
      let x = finds_in m consts ids s t l a (b - a) at (Some q) h in let less = x.1 in (
        x.0,
        omega arith,
        omega (arith, less, le),
        x.2,
        x.3,
        λ p d low high found.
            let k : p ≡ a + (p - a) = omega (arith, low) in
            subst (λ n. IsStep m consts ids s l n d) (sym k) (x.4 (p - a) d (omega (arith, low, high)) (ap (nth l) (sym k) ∙ found)),
      )

pub zip_weaker : {A B : Type 0} (Q R : A → B → Type 0) (xs : List A) (ys : List B) → ((x : A) (y : B) → Q x y → R x y) → AllZip Q xs ys → AllZip R xs ys
zip_weaker Q R [] [] f h = tt
zip_weaker Q R [] (y ∷ ys) f h = absurd h
zip_weaker Q R (x ∷ xs) [] f h = absurd h
zip_weaker Q R (x ∷ xs) (y ∷ ys) f h = (f x y h.0, zip_weaker Q R xs ys f h.1)

pub follow_all : (s : Vars) (es : List memory.Entry) (a : ℕ) (ps : List Part) (b : ℕ) → Follow s (map entry_view es) a ps b → AllByRecursion (λ (p : Part). (p.from ≤ p.to) × (p.to ≤ length es)) ps
follow_all s es a [] b h = tt
follow_all s es a (p ∷ ps) b h = (((let n = h.1 in omega (arith, n)), subst (λ n. p.to ≤ n) (length-map es entry_view) h.2), follow_all s es p.to ps b h.4)

-- the place that is found is one of the log
pub placed : (m : Module) (consts : List (Name × Data)) (ids : List Data) (s : Vars) (es : List memory.Entry) (o : Option ℕ) → Finds m consts ids s (map entry_view es) o → IsPlaced o (length es)
placed m consts ids s es None h = tt
placed m consts ids s es (Some p) h = subst (λ n. p < n) (length-map es entry_view) (nth_below (map entry_view es) p h.entry h.found)
