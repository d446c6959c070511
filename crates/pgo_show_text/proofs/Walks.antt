-- A walk over entries, one entry on.
use Rattle.std.proofs.Common.{◌≡◌, ◌<◌, ◌+◌, ℕ, suc, Bool, true, false, cond, List, ◌∷◌, length, map, drop, slice_index_or, Option, Some, ◌⊎◌, inl, inr, refl, subst, ap, sym, ◌∙◌, arith}
use Rattle.std.specs.Prelude.{option_and_then}
use Rattle.std.specs.BTreeMap.{BTreeMap, Updates, get}
use Rattle.std.specs.Ordering.{nat_cmp, is_eq}
use Rattle.std.proofs.lemmas.Bool.Decides.{nat_tests}
use Rattle.std.proofs.lemmas.List.{at_drop_more}
use Rattle.pgo_base.specs.Lookup.{Vars}
use Rattle.pgo_model.specs.Log.{Effect, After, StateAt}
use Rattle.pgo_model.specs.Machine.{Entry}
use Rattle.pgo_show_text.specs.Facts.{behind_all}
use Rattle.pgo_show_text.specs.Walks.{AreStates}

-- what stands under n, where t was put under k
under : (b : Bool) (k n : ℕ) (old new : Option Vars) (t u : Vars) → is_eq (nat_cmp k n) ≡ b → new ≡ cond b (Some t) old → new ≡ Some u → ((k ≡ n) × (Some t ≡ Some u)) ⊎ (old ≡ Some u)
under true k n old new t u test put got = inl (grind (arith, nat_tests), sym put ∙ got)
under false k n old new t u test put got = inr (sym put ∙ got)

settled : (s : Vars) (es : List (Entry Effect)) (k n : ℕ) (t u : Vars) (old : Option Vars) → StateAt s es k ≡ Some t → (old ≡ Some u → StateAt s es n ≡ Some u)
    → ((k ≡ n) × (Some t ≡ Some u)) ⊎ (old ≡ Some u) → StateAt s es n ≡ Some u
settled s es k n t u old here before (inl p) = subst (λ x. StateAt s es x ≡ Some u) p.0 (here ∙ p.1)
settled s es k n t u old here before (inr q) = before q

-- one state more
pub one_kept : (s : Vars) (es : List (Entry Effect)) (m w : BTreeMap ℕ Vars) (k : ℕ) (t : Vars) → Updates nat_cmp m w k (Some t) → AreStates s es m → StateAt s es k ≡ Some t
    → AreStates s es w
one_kept s es m w k t put before here n u got =
    settled s es k n t u (get nat_cmp m n) here (before n u) (under (is_eq (nat_cmp k n)) k n (get nat_cmp m n) (get nat_cmp w n) t u refl (put.0 n) got)

-- the states that the entries behind one more lead to
pub ahead_on : {D E : Type 0} (part : E → Entry Effect) (view : D → E) (s t u : Vars) (es : List D) (k : ℕ) (e : D) → k < length es → e ≡ slice_index_or es k e
    → After t (part (view e)).change ≡ Some u → ((n : ℕ) → StateAt s (map part (map view es)) (k + n) ≡ StateAt t (map part (map view (drop k es))) n)
    → (n : ℕ) → StateAt s (map part (map view es)) (k + 1 + n) ≡ StateAt u (map part (map view (drop (k + 1) es))) n
ahead_on part view s t u es k e below here step ahead n =
    let more : k + 1 + n ≡ k + suc n = omega arith in
    ap (StateAt s (map part (map view es))) more
    ∙ ahead (suc n)
    ∙ at_drop_more (λ ys. StateAt t (map part (map view ys)) (suc n)) es k e below
    ∙ (λ i. StateAt t (map part (map view (sym here i ∷ drop (k + 1) es))) (suc n))
    ∙ ap (option_and_then (λ v. StateAt v (map part (map view (drop (k + 1) es))) n)) step

-- the state behind all entries, as that behind those that are left, one entry on; o is what that entry leads to
pub all_on : {D E : Type 0} (part : E → Entry Effect) (view : D → E) (s t : Vars) (o : Option Vars) (es : List D) (k : ℕ) (e : D) → k < length es → e ≡ slice_index_or es k e
    → After t (part (view e)).change ≡ o → behind_all s (map part (map view es)) ≡ behind_all t (map part (map view (drop k es)))
    → behind_all s (map part (map view es)) ≡ option_and_then (λ v. behind_all v (map part (map view (drop (k + 1) es)))) o
all_on part view s t o es k e below here step left =
    left
    ∙ at_drop_more (λ ys. behind_all t (map part (map view ys))) es k e below
    ∙ (λ i. behind_all t (map part (map view (sym here i ∷ drop (k + 1) es))))
    ∙ ap (option_and_then (λ v. behind_all v (map part (map view (drop (k + 1) es))))) step

-- where the entries that are left lead to the same states, the next one is behind this
pub here_of : (s t : Vars) (es rest : List (Entry Effect)) (k : ℕ) → ((n : ℕ) → StateAt s es (k + n) ≡ StateAt t rest n) → StateAt s es k ≡ Some t
here_of s t es rest k ahead =
    let same : k ≡ k + 0 = omega arith in
    ap (StateAt s es) same ∙ ahead 0
