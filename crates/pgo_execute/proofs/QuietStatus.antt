-- The status 22 says that some instance isn't at Done in the last state, and each such one is blocked there.
use Rattle.std.proofs.Common.{◌≡◌, ◌≤◌, ◌<◌, ◌+◌, ◌&&◌, ◌||◌, ◌↔◌, ℕ, zero, suc, Bool, true, false, inl, inr, IsTrue, List, [], ◌∷◌, length, Option, Some, None, refl, sym, ap, ◌∙◌, subst, arith}
use Rattle.std.specs.Prelude.{if◌then◌else◌, option_and_then, unwrap_or}
use Rattle.std.proofs.lemmas.Bool.{and_parts}
use Rattle.std.proofs.lemmas.List.{length-map}
use Rattle.pgo_base.specs.Lookup.{Vars}
use Rattle.pgo_model.specs.Core.{Settings, are_at_done, are_blocked, has_full, has_stopped, is_at_done, last_ends_from, rules_of, state_behind, status_of, status_where}
use Rattle.pgo_model.specs.Log.{Effect, After, StateAt}
use Rattle.pgo_model.specs.Machine.{Entry, Finished, nth, state_at}
use Rattle.pgo_model.specs.Outcome.{is_blocked}
use Rattle.pgo_model.specs.System.{System, Member}
use Rattle.pgo_syntax.specs.declared.bound.Bound.{Bound}
use Rattle.pgo_accesses.specs.Runnable.{IsRunState}
use Rattle.pgo_systems.specs.Premises.{IsGoodState}
use Rattle.pgo_section.specs.Programs.{IsGood}
use Rattle.pgo_execute.specs.Gives.{IsRunStatus}
use Rattle.pgo_meaning.specs.Quiet.{Quiet, quiet_tells}
use Rattle.pgo_meaning.specs.System.{member_of, system_of}

or_false : (a b : Bool) → (a || b) ≡ true → a ≡ false → b ≡ true
or_false true b h q = absurd (grind (arith, q))
or_false false b h q = h

nth_below : {A : Type 0} (l : List A) (k : ℕ) (x : A) → nth l k ≡ Some x → k < length l
nth_below [] k x e = absurd (let z : None ≡ Some x = e in grind (arith, z))
nth_below (y ∷ l) zero x e = omega arith
nth_below (y ∷ l) (suc k) x e = let h = nth_below l k x e in omega (arith, h)

nth_there : {A : Type 0} (l : List A) (k : ℕ) → k < length l → (x : A) × (nth l k ≡ Some x)
nth_there [] k h = absurd (omega (arith, h))
nth_there (y ∷ l) zero h = (y, refl)
nth_there (y ∷ l) (suc k) h = nth_there l k (omega (arith, h))

module _ (y : System) (s : Vars) where
  each_blocked : (k : ℕ) (is : List Member) → are_blocked y s k is ≡ true → (n j : ℕ) (i : Member) → nth is n ≡ Some i → j ≡ n + k → is_at_done y j s ≡ false → is_blocked (y.sect j s (λ n. 0)).end ≡ true
  each_blocked k [] h n j i e at undone = absurd (let z : None ≡ Some i = e in grind (arith, z))
  each_blocked k (x ∷ is) h zero j i e at undone =
      let here : j ≡ k = omega (arith, at) in
      let first = (and_parts (is_at_done y k s || is_blocked (y.sect k s (λ n. 0)).end) (are_blocked y s (suc k) is) h).0 in
      ap (λ j. is_blocked (y.sect j s (λ n. 0)).end) here ∙ or_false (is_at_done y k s) (is_blocked (y.sect k s (λ n. 0)).end) first (ap (λ j. is_at_done y j s) (sym here) ∙ undone)
  each_blocked k (x ∷ is) h (suc n) j i e at undone =
      each_blocked (suc k) is (and_parts (is_at_done y k s || is_blocked (y.sect k s (λ n. 0)).end) (are_blocked y s (suc k) is) h).1 n j i e (omega (arith, at)) undone

  blocked_each : (k : ℕ) (is : List Member) → ((n j : ℕ) (i : Member) → nth is n ≡ Some i → j ≡ n + k → is_at_done y j s ≡ false → is_blocked (y.sect j s (λ n. 0)).end ≡ true) → are_blocked y s k is ≡ true
  blocked_each k [] h = refl
  blocked_each k (x ∷ is) h =
      ap (λ b. b && are_blocked y s (suc k) is) (first (is_at_done y k s) refl) ∙ blocked_each (suc k) is (λ n j i e at. h (suc n) j i e (omega (arith, at)))
    where
      first : (b : Bool) → is_at_done y k s ≡ b → (is_at_done y k s || is_blocked (y.sect k s (λ n. 0)).end) ≡ true
      first true q = ap (λ b. b || is_blocked (y.sect k s (λ n. 0)).end) q
      first false q = ap (λ b. b || is_blocked (y.sect k s (λ n. 0)).end) q ∙ h 0 k x refl (omega arith) q

  -- some member isn't at Done
  undone_there : (k : ℕ) (is : List Member) → are_at_done y s k is ≡ false → (n : ℕ) × (i : Member) × (nth is n ≡ Some i) × (is_at_done y (n + k) s ≡ false)
  undone_there k [] h = absurd (let z : true ≡ false = h in grind (arith, z))
  undone_there k (x ∷ is) h = go (is_at_done y k s) refl h (λ h. undone_there (suc k) is h)
    where
      moved : (n : ℕ) → n + suc k ≡ suc n + k
      moved n = omega arith

      start : 0 + k ≡ k
      start = omega arith

      go : (b : Bool) → is_at_done y k s ≡ b → (b && are_at_done y s (suc k) is) ≡ false → (are_at_done y s (suc k) is ≡ false → (n : ℕ) × (i : Member) × (nth is n ≡ Some i) × (is_at_done y (n + suc k) s ≡ false))
          → (n : ℕ) × (i : Member) × (nth (x ∷ is) n ≡ Some i) × (is_at_done y (n + k) s ≡ false)
      go true q h ih = let r = ih h in (suc r.0, r.1, r.2, ap (λ j. is_at_done y j s) (sym (moved r.0)) ∙ r.3)
      go false q h ih = (0, x, refl, ap (λ j. is_at_done y j s) start ∙ q)

  there_undone : (k : ℕ) (is : List Member) (n j : ℕ) (i : Member) → nth is n ≡ Some i → j ≡ n + k → is_at_done y j s ≡ false → are_at_done y s k is ≡ false
  there_undone k [] n j i e at undone = absurd (let z : None ≡ Some i = e in grind (arith, z))
  there_undone k (x ∷ is) zero j i e at undone = let here : j ≡ k = omega (arith, at) in ap (λ b. b && are_at_done y s (suc k) is) (ap (λ j. is_at_done y j s) (sym here) ∙ undone)
  there_undone k (x ∷ is) (suc n) j i e at undone = go (is_at_done y k s) (there_undone (suc k) is n j i e (omega (arith, at)) undone)
    where
      go : (b : Bool) → are_at_done y s (suc k) is ≡ false → (b && are_at_done y s (suc k) is) ≡ false
      go true h = h
      go false h = refl

module _ (b : Bound) (s : Vars) where
  abbrev y : System
  y = system_of b

  many : length y.members ≡ length b.instances
  many = length-map b.instances member_of

  -- some instance isn't at Done, and each such one is blocked
  pub blocked_quiet : are_at_done y s 0 y.members ≡ false → are_blocked y s 0 y.members ≡ true → Quiet b s
  blocked_quiet undone blocked =
      let u = undone_there y s 0 y.members undone in
      let at : u.0 + 0 ≡ u.0 = omega arith in
      (quiet_tells b s (λ k n. 0)).0 (
        (u.0, subst (λ m. u.0 < m) many (nth_below y.members u.0 u.1 u.2), ap (λ j. is_at_done y j s) (sym at) ∙ u.3),
        λ k here undone.
            let i = nth_there y.members k (subst (λ m. k < m) (sym many) here) in
            each_blocked y s 0 y.members blocked k k i.0 i.1 (omega arith) undone,
      )

  pub quiet_blocked : Quiet b s → (are_at_done y s 0 y.members ≡ false) × (are_blocked y s 0 y.members ≡ true)
  quiet_blocked q =
      let t = (quiet_tells b s (λ k n. 0)).1 q in
      let k = t.0.0 in
      let i = nth_there y.members k (subst (λ m. k < m) (sym many) t.0.1) in (
        there_undone y s 0 y.members k k i.0 i.1 (omega arith) t.0.2,
        blocked_each y s 0 y.members (λ n j i e at undone.
            let same : j ≡ n = omega (arith, at) in
            t.1 j (subst (λ m. j < m) many (subst (λ m. m < length y.members) (sym same) (nth_below y.members n i e))) undone),
      )

-- ---- the status, by its tests

abbrev status_by : Bool → Bool → Bool → Bool → ℕ
status_by a b c d = if a then 20 else if b then 23 else if c then 0 else if d then 22 else 21

-- where it isn't 21 without the last test, it hangs on the others alone
same_by : (a b c d : Bool) → (status_by a b c false ≡ 21 → ⊥) → status_by a b c false ≡ status_by a b c d
same_by true b c d h = refl
same_by false true c d h = refl
same_by false false true d h = refl
same_by false false false d h = absurd (h refl)

-- where it is, the tests before it fail
undone_by : (a b c : Bool) → status_by a b c false ≡ 21 → c ≡ false
undone_by true b c h = absurd (omega (arith, h))
undone_by false true c h = absurd (omega (arith, h))
undone_by false false true h = absurd (omega (arith, h))
undone_by false false false h = refl

abbrev left : Bool → ℕ
left d = if d then 22 else 21

left_by : (a b c d : Bool) → status_by a b c false ≡ 21 → left d ≡ status_by a b c d
left_by true b c d h = absurd (omega (arith, h))
left_by false true c d h = absurd (omega (arith, h))
left_by false false true d h = absurd (omega (arith, h))
left_by false false false d h = refl

quiet_by : (a b c d : Bool) → status_by a b c d ≡ 22 → (c ≡ false) × (d ≡ true)
quiet_by true b c d h = absurd (omega (arith, h))
quiet_by false true c d h = absurd (omega (arith, h))
quiet_by false false true d h = absurd (omega (arith, h))
quiet_by false false false true h = (refl, refl)
quiet_by false false false false h = absurd (omega (arith, h))

by_quiet : (a b c d : Bool) → (status_by a b c d ≡ 20 → ⊥) → (status_by a b c d ≡ 23 → ⊥) → c ≡ false → d ≡ true → status_by a b c d ≡ 22
by_quiet true b c d p q r t = absurd (p refl)
by_quiet false true c d p q r t = absurd (q refl)
by_quiet false false true d p q r t = absurd (grind (arith, r))
by_quiet false false false true p q r t = refl
by_quiet false false false false p q r t = absurd (grind (arith, t))

same_truth : (a b : Bool) → (a ≡ true → b ≡ true) → (b ≡ true → a ≡ true) → a ≡ b
same_truth true true f g = refl
same_truth true false f g = sym (f refl)
same_truth false true f g = g refl
same_truth false false f g = refl

module _ (y : System) (settings : Settings) (f : Finished Effect) where
  abbrev stopped : Bool
  stopped = has_stopped (last_ends_from f 0 y.members)

  abbrev full : Bool
  full = has_full (last_ends_from f 0 y.members)

  abbrev done : Bool
  done = are_at_done y (state_behind y settings f) 0 y.members

  -- a status that isn't 21 without that test hangs on no step of the last state
  pub told_without : (status : ℕ) → status ≡ status_where false y settings f → (status ≡ 21 → ⊥) → status ≡ status_of y settings f
  told_without status e h = e ∙ same_by stopped full done (are_blocked y (state_behind y settings f) 0 y.members) (λ n. h (e ∙ n))

module _ (b : Bound) (settings : Settings) (f : Finished Effect) where
  abbrev last : Vars
  last = state_behind (system_of b) settings f

  -- one that is 21 without it hangs on it
  pub told_with : (status : ℕ) (q : Bool) → status ≡ status_where false (system_of b) settings f → status ≡ 21 → IsTrue q ↔ Quiet b last → left q ≡ status_of (system_of b) settings f
  told_with status q e h is =
      let stopped = has_stopped (last_ends_from f 0 (system_of b).members) in let full = has_full (last_ends_from f 0 (system_of b).members) in
      let at_done = are_at_done (system_of b) last 0 (system_of b).members in let blocked = are_blocked (system_of b) last 0 (system_of b).members in
      let undone = undone_by stopped full at_done (sym e ∙ h) in
      ap left (same_truth q blocked (λ t. (quiet_blocked b last (is.0 t)).1) (λ t. is.1 (blocked_quiet b last undone t))) ∙ left_by stopped full at_done blocked (sym e ∙ h)

  -- 22 exactly where it is neither 20 nor 23, and the last state is quiet
  pub quiet_status : (status : ℕ) → status ≡ status_of (system_of b) settings f → (status ≡ 22) ↔ ((status ≡ 20 → ⊥) × (status ≡ 23 → ⊥) × Quiet b last)
  quiet_status status e =
      let blocked = are_blocked (system_of b) last 0 (system_of b).members in
      let at_done = are_at_done (system_of b) last 0 (system_of b).members in
      let stopped = has_stopped (last_ends_from f 0 (system_of b).members) in let full = has_full (last_ends_from f 0 (system_of b).members) in (
        λ h.
            let t = quiet_by stopped full at_done blocked (sym e ∙ h) in
            ((λ n. let z : 22 ≡ 20 = sym h ∙ n in omega (arith, z)), (λ n. let z : 22 ≡ 23 = sym h ∙ n in omega (arith, z)), blocked_quiet b last t.0 t.1),
        λ h. let t = quiet_blocked b last h.2 in e ∙ by_quiet stopped full at_done blocked (λ n. h.0 (e ∙ n)) (λ n. h.1 (e ∙ n)) t.0 t.1,
      )

-- ---- the last state

-- the state by components is the machine's
pub state_is : (y : System) (settings : Settings) (s : Vars) (l : List (Entry Effect)) (n : ℕ) (t : Vars) → StateAt s l n ≡ Some t → state_at (rules_of y settings) s l n ≡ t
state_is y settings s l zero t e = let same : s ≡ t = grind (arith, e) in same
state_is y settings s [] (suc n) t e = absurd (let z : None ≡ Some t = e in grind (arith, z))
state_is y settings s (x ∷ l) (suc n) t e = go (After s x.change) e (λ u e. state_is y settings u l n t e)
  where
    go : (o : Option Vars) → option_and_then (λ u. StateAt u l n) o ≡ Some t → ((u : Vars) → StateAt u l n ≡ Some t → state_at (rules_of y settings) u l n ≡ t) → state_at (rules_of y settings) (unwrap_or o s) l n ≡ t
    go None e ih = absurd (let z : None ≡ Some t = e in grind (arith, z))
    go (Some u) e ih = ih u e

-- ---- the statuses of a run

-- 21 exactly where it is none of 20, 22 and 23, and not all is done
pub left_status : (status : ℕ) (Done : Type 0) → IsRunStatus status → (status ≡ 0) ↔ Done → (status ≡ 21) ↔ ((status ≡ 20 → ⊥) × (status ≡ 22 → ⊥) × (status ≡ 23 → ⊥) × (Done → ⊥))
left_status status Done either fine = (
  λ h. (
    (λ n. let z : 21 ≡ 20 = sym h ∙ n in omega (arith, z)),
    (λ n. let z : 21 ≡ 22 = sym h ∙ n in omega (arith, z)),
    (λ n. let z : 21 ≡ 23 = sym h ∙ n in omega (arith, z)),
    (λ d. let z : 21 ≡ 0 = sym h ∙ fine.1 d in omega (arith, z)),
  ),
  λ h. go either h,
)
  where
    go : IsRunStatus status → (status ≡ 20 → ⊥) × (status ≡ 22 → ⊥) × (status ≡ 23 → ⊥) × (Done → ⊥) → status ≡ 21
    go (inl e) h = absurd (h.3 (fine.0 e))
    go (inr (inl e)) h = absurd (h.0 e)
    go (inr (inr (inl e))) h = e
    go (inr (inr (inr (inl e)))) h = absurd (h.1 e)
    go (inr (inr (inr (inr e)))) h = absurd (h.2 e)

-- ---- good states

pub itself : (n : ℕ) → n ≤ n
itself n = omega arith

-- a state of a run, over which workers ask what they ask
pub good_state : (b : Bound) (s : Vars) → (IsGood (system_of b) s ↔ IsRunState b s) → IsGoodState b s → IsGood (system_of b) s
good_state b s same g = same.1 (record { state = g.state; labels = g.labels })

-- the state that a journal with these entries has at its end
pub state_left : (y : System) (settings : Settings) (g : Finished Effect) (start : Vars) (entries : List (Entry Effect)) (n : ℕ) (s : Vars) → start ≡ y.start → entries ≡ g.entries → n ≡ length entries → StateAt start entries n ≡ Some s
    → state_behind y settings g ≡ s
state_left y settings g start entries n s first same count at =
    sym (λ i. state_at (rules_of y settings) (first i) (same i) (length (same i))) ∙ state_is y settings start entries (length entries) s (sym (ap (StateAt start entries) count) ∙ at)
