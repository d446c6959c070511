-- A step of part of a log, from the state before the part, is a step of the log.
use Rattle.std.proofs.Common.{◌≡◌, ◌≤◌, ◌<◌, ◌+◌, ℕ, zero, suc, List, [], ◌∷◌, length, take, drop, Option, Some, None, refl, sym, ap, ◌∙◌, arith}
use Rattle.std.specs.Prelude.{option_and_then}
use Rattle.pgo_base.specs.Data.{Data}
use Rattle.pgo_base.specs.Lookup.{Name, Vars}
use Rattle.pgo_model.specs.IsRun.{IsStep}
use Rattle.pgo_model.specs.Log.{Effect, After, StateAt}
use Rattle.pgo_model.specs.Machine.{Entry, nth}
use Rattle.pgo_model.specs.Module.{Module}
use Rattle.pgo_check.specs.Verdict.{Finds}

plus_zero : (n : ℕ) → 0 + n ≡ n
plus_zero n = omega arith

plus_suc : (a n : ℕ) → suc a + n ≡ suc (a + n)
plus_suc a n = omega arith

suc_plus : (a n : ℕ) → suc (a + n) ≡ a + suc n
suc_plus a n = omega arith

then_same : {A B : Type 0} (f g : A → Option B) → ((x : A) → f x ≡ g x) → (o : Option A) → option_and_then f o ≡ option_and_then g o
then_same f g h None = refl
then_same f g h (Some x) = h x

-- the states behind a state along the log
pub state_cut : (s t : Vars) (l : List (Entry Effect)) (a n : ℕ) → StateAt s l a ≡ Some t → StateAt s l (a + n) ≡ StateAt t (drop a l) n
state_cut s t l zero n h = ap (StateAt s l) (plus_zero n) ∙ ap (λ u. StateAt u l n) (same h)
  where
    same : Some s ≡ Some t → s ≡ t
    same h = cc
state_cut s t [] (suc a) n h = absurd (cc)
state_cut s t (e ∷ l) (suc a) n h = ap (StateAt s (e ∷ l)) (plus_suc a n) ∙ go (After s e.change) h (λ u k. state_cut u t l a n k)
  where
    go : (o : Option Vars) → option_and_then (λ u. StateAt u l a) o ≡ Some t → ((u : Vars) → StateAt u l a ≡ Some t → StateAt u l (a + n) ≡ StateAt t (drop a l) n) → option_and_then (λ u. StateAt u l (a + n)) o ≡ StateAt t (drop a l) n
    go None k ih = absurd (cc)
    go (Some u) k ih = ih u k

-- and those of its front
pub state_front : (s : Vars) (l : List (Entry Effect)) (k n : ℕ) → n ≤ k → StateAt s (take k l) n ≡ StateAt s l n
state_front s l k zero h = refl
state_front s l zero (suc n) h = absurd (omega (arith, h))
state_front s [] (suc k) (suc n) h = refl
state_front s (e ∷ l) (suc k) (suc n) h = then_same (λ u. StateAt u (take k l) n) (λ u. StateAt u l n) (λ u. state_front u l k n (omega (arith, h))) (After s e.change)

-- entries
pub nth_cut : {A : Type 0} (l : List A) (a n : ℕ) → nth (drop a l) n ≡ nth l (a + n)
nth_cut l zero n = ap (nth l) (sym (plus_zero n))
nth_cut [] (suc a) n = ap (nth []) (sym (plus_suc a n))
nth_cut (x ∷ l) (suc a) n = nth_cut l a n ∙ ap (nth (x ∷ l)) (sym (plus_suc a n))

pub nth_front : {A : Type 0} (l : List A) (k n : ℕ) → n < k → nth (take k l) n ≡ nth l n
nth_front l zero n h = absurd (omega (arith, h))
nth_front [] (suc k) n h = refl
nth_front (x ∷ l) (suc k) zero h = refl
nth_front (x ∷ l) (suc k) (suc n) h = nth_front l k n (omega (arith, h))

nth_past : {A : Type 0} (l : List A) (k n : ℕ) (x : A) → nth (take k l) n ≡ Some x → n < k
nth_past l zero n x h = absurd (cc)
nth_past [] (suc k) n x h = absurd (cc)
nth_past (y ∷ l) (suc k) zero x h = omega arith
nth_past (y ∷ l) (suc k) (suc n) x h = let q = nth_past l k n x h in omega (arith, q)

-- of the log s, l: the entries a to a + k, and the state before them
module _ (m : Module) (consts : List (Name × Data)) (ids : List Data) (s t : Vars) (l : List (Entry Effect)) (a k : ℕ) (at : StateAt s l a ≡ Some t) where
  abbrev pub part : List (Entry Effect)
  part = take k (drop a l)

  state_of : (n : ℕ) → n ≤ k → StateAt t part n ≡ StateAt s l (a + n)
  state_of n h = state_front t (drop a l) k n h ∙ sym (state_cut s t l a n at)

  pub entry_of : (n : ℕ) → n < k → nth part n ≡ nth l (a + n)
  entry_of n h = nth_front (drop a l) k n h ∙ nth_cut l a n

  pub step_of : (n : ℕ) (e : Entry Effect) → n < k → IsStep m consts ids t part n e → IsStep m consts ids s l (a + n) e
  step_of n e h x = record {
    id = x.id;
    before = x.before;
    after = x.after;
    identifier = x.identifier;
    from = sym (state_of n (omega (arith, h))) ∙ x.from;
    to = ap (StateAt s l) (suc_plus a n) ∙ sym (state_of (suc n) (omega (arith, h))) ∙ x.to;
    acts = x.acts;
    next = x.next;
  }

  pub step_in : (n : ℕ) (e : Entry Effect) → n < k → IsStep m consts ids s l (a + n) e → IsStep m consts ids t part n e
  step_in n e h x = record {
    id = x.id;
    before = x.before;
    after = x.after;
    identifier = x.identifier;
    from = state_of n (omega (arith, h)) ∙ x.from;
    to = state_of (suc n) (omega (arith, h)) ∙ ap (StateAt s l) (sym (suc_plus a n)) ∙ x.to;
    acts = x.acts;
    next = x.next;
  }

  -- what is found in the part holds of the log, between a and a + k
  abbrev pub FindsIn : Option ℕ → Type 0
  FindsIn None = (n : ℕ) (e : Entry Effect) → n < k → nth l (a + n) ≡ Some e → IsStep m consts ids s l (a + n) e
  FindsIn (Some p) = (e : Entry Effect) × (p < k) × (nth l (a + p) ≡ Some e) × (IsStep m consts ids s l (a + p) e → ⊥) × ((q : ℕ) (d : Entry Effect) → q < p → nth l (a + q) ≡ Some d → IsStep m consts ids s l (a + q) d)

  pub finds_in : (o : Option ℕ) → Finds m consts ids t part o → FindsIn o
  finds_in None h = λ n e less at_n. step_of n e less (h n e (entry_of n less ∙ at_n))
  finds_in (Some p) h =
      let less = nth_past (drop a l) k p h.entry h.found in (
        h.entry,
        less,
        sym (entry_of p less) ∙ h.found,
        λ x. h.bad (step_in p h.entry less x),
        λ q d b at_q. step_of q d (omega (arith, b, less)) (h.earlier q b d (entry_of q (omega (arith, b, less)) ∙ at_q)),
      )

  -- where each entry of a part is a step, there is a state behind it
  pub state_behind : k ≤ length (drop a l) → (k ≡ 0 → ⊥) → FindsIn None → StateAt s l (a + k) ≡ None → ⊥
  state_behind short some h none = go k refl
    where
      there : {A : Type 0} (l : List A) (n : ℕ) → n < length l → (x : A) × (nth l n ≡ Some x)
      there [] n h = absurd (omega (arith, h))
      there (x ∷ l) zero h = (x, refl)
      there (x ∷ l) (suc n) h = there l n (omega (arith, h))

      go : (j : ℕ) → k ≡ j → ⊥
      go zero e = some e
      go (suc j) e =
          let x = there (drop a l) j (omega (arith, short, e)) in
          let y = h j x.0 (omega (arith, e)) (sym (nth_cut l a j) ∙ x.1) in
          let n : StateAt s l (suc (a + j)) ≡ None = ap (StateAt s l) (suc_plus a j ∙ ap (λ n. a + n) (sym e)) ∙ none in
          no (sym y.to ∙ n)
        where
          no : {A : Type 0} {v : A} → Some v ≡ None → ⊥
          no h = absurd (cc)
