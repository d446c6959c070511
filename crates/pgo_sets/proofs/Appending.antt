-- A sequence with one element more.
use Rattle.std.proofs.Common.{◌≡◌, ℕ, suc, ◌<◌, ◌≤◌, ◌+◌, Bool, true, false, is_some, if◌then◌else◌, pos, List, [], ◌∷◌, ◌++◌, length, Option, Some, None, option_map, option_and_then, refl, ap, sym, ◌∙◌, subst, arith, add-one}
use Rattle.std.proofs.lemmas.List.{length-append}
use Rattle.std.proofs.lemmas.Option.{same_Some}
use Rattle.std.proofs.lemmas.Bool.Decides.{nat_tests}
use Rattle.pgo_base.specs.Data.{Data, integer, function, pairs, graph-pairs, keys}
use Rattle.pgo_base.specs.Sets.{IsSorted}
use Rattle.pgo_model.specs.Operators.{same_data, sequence, sequence_at, function_from, built}
use Rattle.pgo_model.specs.Sequences.{append, elements_from}
use Rattle.pgo_sets.proofs.Counted.{rest_some}
use Rattle.pgo_sets.proofs.Graphs.{function_sorted}
use Rattle.pgo_sets.proofs.Numbered.{sequence_push, length_sequence, long_sequence, sorted_sequence}
use Rattle.pgo_sets.proofs.Replacing.{same_exact}

-- what has elements is those with their numbers
numbered_again : (n : ℕ) (ps : List (Data × Data)) (vs : List Data) → elements_from n ps ≡ Some vs → ps ≡ sequence_at n vs
numbered_again n [] vs h = ap (sequence_at n) (same_Some [] vs h)
numbered_again n (p ∷ ps) vs h =
    let t = rest_some (same_data p.0 (integer (pos n))) p.1 (elements_from (suc n) ps) vs h in
    let all : p.1 ∷ t.1.0 ≡ vs = same_Some (p.1 ∷ t.1.0) vs (sym (λ i. if t.0 i then option_map (λ ws. p.1 ∷ ws) (t.1.1 i) else None) ∙ h) in
    (λ i. (same_exact p.0 (integer (pos n)) t.0 i, p.1) ∷ numbered_again (suc n) ps t.1.0 t.1.1 i) ∙ ap (sequence_at n) all

-- the sequence that a function with the elements vs is, and x behind them
with_one : (ps : List (Data × Data)) (vs : List Data) (x : Data) (n : ℕ) → elements_from 1 ps ≡ Some vs → n ≡ length ps → ps ++ (integer (pos (suc n)), x) ∷ [] ≡ sequence_at 1 (vs ++ x ∷ [])
with_one ps vs x n h e =
    let same = numbered_again 1 ps vs h in
    let count : n ≡ length vs = e ∙ ap length same ∙ length_sequence 1 vs in
    ap (λ qs. qs ++ (integer (pos (suc n)), x) ∷ []) same ∙ sym (sequence_push 1 vs x (suc n) (omega (arith, count)))

elements_there : {A : Type 0} (r : Option A) (f : A → List Data) (o : Option (List Data)) → is_some r ≡ true → option_map f r ≡ o → (vs : List Data) × (o ≡ Some vs)
elements_there None f o h e = absurd (cc)
elements_there (Some a) f o h e = (f a, sym e)

abbrev pub Longer : List (Data × Data) → Data → Option Data
Longer ps x = option_and_then (λ vs. sequence (vs ++ x ∷ [])) (elements_from 1 ps)

-- what is no sequence has none with an element more
pub none_longer : {A : Type 0} (r : Option A) (f : A → List Data) (ps : List (Data × Data)) (x : Data) → is_some r ≡ false → option_map f r ≡ elements_from 1 ps → Longer ps x ≡ None
none_longer None f ps x h e = ap (option_and_then (λ vs. sequence (vs ++ x ∷ []))) (sym e)
none_longer (Some a) f ps x h e = absurd (cc)

pub long_longer : {A : Type 0} (r : Option A) (f : A → List Data) (ps : List (Data × Data)) (x : Data) (n : ℕ) → is_some r ≡ true → option_map f r ≡ elements_from 1 ps → n ≡ length ps → 65536 ≤ n → Longer ps x ≡ None
long_longer r f ps x n h e l m =
    let there = elements_there r f (elements_from 1 ps) h e in
    let vs = there.0 in
    let count : n ≡ length vs = l ∙ ap length (numbered_again 1 ps vs there.1) ∙ length_sequence 1 vs in
    ap (option_and_then (λ vs. sequence (vs ++ x ∷ []))) there.1
    ∙ long_sequence (vs ++ x ∷ []) (suc n) (omega (arith, count, length-append vs (x ∷ []))) (grind (arith, nat_tests))

pub sorted_longer : {A : Type 0} (r : Option A) (f : A → List Data) (ps : List (Data × Data)) (k x : Data) (n : ℕ) → is_some r ≡ true → option_map f r ≡ elements_from 1 ps → n ≡ length ps → k ≡ integer (pos (suc n)) → IsSorted (keys (ps ++ (k, x) ∷ []))
sorted_longer r f ps k x n h e l d =
    let there = elements_there r f (elements_from 1 ps) h e in
    subst (λ qs. IsSorted (keys qs)) (sym (ap (λ j. ps ++ (j, x) ∷ []) d ∙ with_one ps there.0 x n there.1 l)) (sorted_sequence 1 (there.0 ++ x ∷ []))

pub longer_is : {A : Type 0} (r : Option A) (f : A → List Data) (ps qs : List (Data × Data)) (k x : Data) (n : ℕ) → is_some r ≡ true → option_map f r ≡ elements_from 1 ps → n ≡ length ps → k ≡ integer (pos (suc n)) → qs ≡ ps ++ (k, x) ∷ [] → built (n + 1) (function (pairs qs)) ≡ Longer ps x
longer_is r f ps qs k x n h e l d g =
    let there = elements_there r f (elements_from 1 ps) h e in
    let vs = there.0 in
    let all : qs ≡ sequence_at 1 (vs ++ x ∷ []) = g ∙ ap (λ j. ps ++ (j, x) ∷ []) d ∙ with_one ps vs x n there.1 l in
    let count : n + 1 ≡ length qs = omega (arith, l, ap length g, length-append ps ((k, x) ∷ [])) in
    ap (λ m. built m (function (pairs qs))) count
    ∙ sym (function_sorted qs (subst (λ ps. IsSorted (keys ps)) (sym all) (sorted_sequence 1 (vs ++ x ∷ []))))
    ∙ ap function_from all
    ∙ sym (ap (option_and_then (λ vs. sequence (vs ++ x ∷ []))) there.1)

pub append_is : (ps : List (Data × Data)) (x : Data) → append (function (pairs ps)) x ≡ Longer ps x
append_is ps x = ap (λ qs. Longer qs x) (graph-pairs ps)
