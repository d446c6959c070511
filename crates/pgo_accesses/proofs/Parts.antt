-- Values that are bound and put back: how deep they may be.
use Rattle.std.proofs.Common.{◌≡◌, ℕ, suc, max, ◌≤◌, ◌<◌, Bool, true, false, List, [], ◌∷◌, length, Option, Some, None, refl, sym, ap, ◌∙◌, subst, arith, option_map, option_and_then}
use Rattle.std.specs.Prelude.{if◌then◌else◌, nat_le, nat_lt}
use Rattle.pgo_base.specs.Data.{Data, boolean, integer, string, model, set, function, items, Pairs, no_pairs, pair, pairs, graph, keys, graph-pairs}
use Rattle.pgo_base.specs.Exact.{data_itself}
use Rattle.pgo_base.specs.Size.{depth, pairs_depth, graph_size}
use Rattle.pgo_model.specs.Operators.{same_data, lookup, replace_at, if_few, most_members, function_of}
use Rattle.pgo_sections.specs.BoundValues.{bindable, put_part}
use Rattle.pgo_sections.proofs.Domains.{same_of}
use Rattle.pgo_workers.specs.Operations.{part_of}

-- ---- a value that is bound

pub le_of : (m n : ℕ) → nat_le m n ≡ true → m ≤ n
le_of m n h = grind (arith, h)

pub of_le : (m n : ℕ) → m ≤ n → nat_le m n ≡ true
of_le m n h = grind (arith, h)

pub gt_of : (m n : ℕ) → nat_le m n ≡ false → n < m
gt_of m n h = grind (arith, h)

pub of_gt : (m n : ℕ) → n < m → nat_le m n ≡ false
of_gt m n h = grind (arith, h)

pub not_less : (m n : ℕ) → n ≤ m → nat_lt m n ≡ false
not_less m n h = grind (arith, h)

pub is_less : (m n : ℕ) → m < n → nat_lt m n ≡ true
is_less m n h = grind (arith, h)

at_most : (m n : ℕ) → nat_lt m n ≡ false → n ≤ m
at_most m n h = grind (arith, h)

low_test : (n : ℕ) → nat_le n 2047 ≡ true → nat_lt 2048 (suc (max n 0)) ≡ false
low_test n h = let k = le_of n 2047 h in not_less 2048 (suc (max n 0)) (omega (arith, k))

high_test : (n : ℕ) → nat_le n 2047 ≡ false → nat_lt 2048 (suc (max n 0)) ≡ true
high_test n h = let k = gt_of n 2047 h in is_less 2048 (suc (max n 0)) (omega (arith, k))

pub bindable_low : (v : Data) → nat_le (depth v) 2047 ≡ true → bindable (Some v) ≡ Some v
bindable_low v h = ap (λ b. option_map (λ (x : Data). v) (if b then None else if_few 1 (set (items (v ∷ []))))) (low_test (depth v) h)

pub bindable_high : (v : Data) → nat_le (depth v) 2047 ≡ false → bindable (Some v) ≡ None
bindable_high v h = ap (λ b. option_map (λ (x : Data). v) (if b then None else if_few 1 (set (items (v ∷ []))))) (high_test (depth v) h)

-- what is bound is low
pub bound_low : (o : Option Data) (v : Data) → bindable o ≡ Some v → (o ≡ Some v) × (nat_le (depth v) 2047 ≡ true)
bound_low None v h = absurd (grind (arith, h))
bound_low (Some w) v h = go (nat_le (depth w) 2047) refl
  where
    some_is : (a b : Data) → Some a ≡ Some b → a ≡ b
    some_is a b e = cc

    go : (b : Bool) → nat_le (depth w) 2047 ≡ b → (Some w ≡ Some v) × (nat_le (depth v) 2047 ≡ true)
    go true e = let s : Some w ≡ Some v = sym (bindable_low w e) ∙ h in (s, subst (λ x. nat_le (depth x) 2047 ≡ true) (some_is w v s) e)
    go false e = absurd (let z : None ≡ Some v = sym (bindable_high w e) ∙ h in grind (arith, z))

-- ---- the graph of a function

pub same_self : (x : Data) → same_data x x ≡ true
same_self x = ap Rattle.std.specs.Ordering.is_eq (data_itself x)

pub size_is : (ps : Pairs) → pairs_depth ps ≡ graph_size (graph ps)
size_is no_pairs = refl
size_is (pair k v ps) = ap (λ n. max (max (depth k) (depth v)) n) (size_is ps)

of_pairs : (l : List (Data × Data)) → pairs_depth (pairs l) ≡ graph_size l
of_pairs l = size_is (pairs l) ∙ ap graph_size (graph-pairs l)

pub lookup_low : (i v : Data) (l : List (Data × Data)) (n : ℕ) → lookup i l ≡ Some v → graph_size l ≤ n → depth v ≤ n
lookup_low i v [] n h le = absurd (grind (arith, h))
lookup_low i v (p ∷ l) n h le = go (same_data i p.0) h (λ e k. lookup_low i v l n e k)
  where
    go : (b : Bool) → (if b then Some p.1 else lookup i l) ≡ Some v → (lookup i l ≡ Some v → graph_size l ≤ n → depth v ≤ n) → depth v ≤ n
    go true h ih = let e : p.1 ≡ v = cc in subst (λ x. depth x ≤ n) e (omega (arith, le))
    go false h ih = ih h (omega (arith, le))

pub replaced_low : (i w : Data) (l : List (Data × Data)) (n : ℕ) → graph_size l ≤ n → depth w ≤ n → graph_size (replace_at i w l) ≤ n
replaced_low i w [] n h k = h
replaced_low i w (p ∷ l) n h k = go (same_data i p.0) refl (replaced_low i w l n (omega (arith, h)) k)
  where
    go : (b : Bool) → same_data i p.0 ≡ b → graph_size (replace_at i w l) ≤ n → graph_size (if b then (i, w) ∷ l else p ∷ replace_at i w l) ≤ n
    go true e ih = let s : depth i ≡ depth p.0 = ap depth (same_of i p.0 e) in omega (arith, h, k, s)
    go false e ih = omega (arith, h, ih)

pub replaced_deep : (i w v : Data) (l : List (Data × Data)) (n : ℕ) → lookup i l ≡ Some v → graph_size (replace_at i w l) ≤ n → depth w ≤ n
replaced_deep i w v [] n h k = absurd (grind (arith, h))
replaced_deep i w v (p ∷ l) n h k = go (same_data i p.0) h k (λ e f. replaced_deep i w v l n e f)
  where
    go : (b : Bool) → (if b then Some p.1 else lookup i l) ≡ Some v → graph_size (if b then (i, w) ∷ l else p ∷ replace_at i w l) ≤ n → (lookup i l ≡ Some v → graph_size (replace_at i w l) ≤ n → depth w ≤ n) → depth w ≤ n
    go true h k ih = omega (arith, k)
    go false h k ih = ih h (omega (arith, k))

pub replaced_length : (i w : Data) (l : List (Data × Data)) → length (replace_at i w l) ≡ length l
replaced_length i w [] = refl
replaced_length i w (p ∷ l) = go (same_data i p.0) (replaced_length i w l)
  where
    go : (b : Bool) → length (replace_at i w l) ≡ length l → length (if b then (i, w) ∷ l else p ∷ replace_at i w l) ≡ suc (length l)
    go true ih = refl
    go false ih = ap suc ih

pub replaced_keys : (i w : Data) (l : List (Data × Data)) → keys (replace_at i w l) ≡ keys l
replaced_keys i w [] = refl
replaced_keys i w (p ∷ l) = go (same_data i p.0) refl (replaced_keys i w l)
  where
    go : (b : Bool) → same_data i p.0 ≡ b → keys (replace_at i w l) ≡ keys l → keys (if b then (i, w) ∷ l else p ∷ replace_at i w l) ≡ p.0 ∷ keys l
    go true e ih = ap (λ k. k ∷ keys l) (same_of i p.0 e)
    go false e ih = ap (λ k. p.0 ∷ k) ih

pub lookup_here : (i w v : Data) (l : List (Data × Data)) → lookup i l ≡ Some v → lookup i (replace_at i w l) ≡ Some w
lookup_here i w v [] h = absurd (grind (arith, h))
lookup_here i w v (p ∷ l) h = go (same_data i p.0) refl h (λ e. lookup_here i w v l e)
  where
    go : (b : Bool) → same_data i p.0 ≡ b → (if b then Some p.1 else lookup i l) ≡ Some v → (lookup i l ≡ Some v → lookup i (replace_at i w l) ≡ Some w) → lookup i (if b then (i, w) ∷ l else p ∷ replace_at i w l) ≡ Some w
    go true e h ih = ap (λ b. if b then Some w else lookup i l) (same_self i)
    go false e h ih = ap (λ b. if b then Some p.1 else lookup i (replace_at i w l)) e ∙ ih h

pub lookup_other : (i j w : Data) (l : List (Data × Data)) → same_data j i ≡ false → lookup j (replace_at i w l) ≡ lookup j l
lookup_other i j w [] n = refl
lookup_other i j w (p ∷ l) n = go (same_data i p.0) refl (lookup_other i j w l n)
  where
    go : (b : Bool) → same_data i p.0 ≡ b → lookup j (replace_at i w l) ≡ lookup j l → lookup j (if b then (i, w) ∷ l else p ∷ replace_at i w l) ≡ (if same_data j p.0 then Some p.1 else lookup j l)
    go true e ih =
        ap (λ b. if b then Some w else lookup j l) n
        ∙ sym (ap (λ b. if b then Some p.1 else lookup j l) (subst (λ x. same_data j x ≡ false) (same_of i p.0 e) n))
    go false e ih = ap (λ o. if same_data j p.0 then Some p.1 else o) ih

-- ---- a function with another part

-- the function that has w at i
abbrev pub with_at : Data → Data → Pairs → Data
with_at i w ps = function (pairs (replace_at i w (graph ps)))

pub put_is : (i w v : Data) (ps : Pairs) → lookup i (graph ps) ≡ Some v → put_part i (Some (function ps)) (Some w) ≡ function_of (replace_at i w (graph ps))
put_is i w v ps h =
    ap (λ o. elim o as (λ o. Option Data) [ None ↦ option_map (λ (x : Data). function ps) (Some w) | Some part ↦ option_and_then (λ v. function_of (replace_at i v (graph ps))) (Some w) ]) h

pub depth_at : (i w : Data) (ps : Pairs) → depth (with_at i w ps) ≡ suc (graph_size (replace_at i w (graph ps)))
depth_at i w ps = ap suc (of_pairs (replace_at i w (graph ps)))

pub at_low : (i w : Data) (ps : Pairs) → graph_size (replace_at i w (graph ps)) ≤ 2046 → nat_le (depth (with_at i w ps)) 2047 ≡ true
at_low i w ps h = let d = depth_at i w ps in of_le (depth (with_at i w ps)) 2047 (omega (arith, d, h))

pub made_of : (n m : ℕ) (f : Data) → nat_lt 2048 n ≡ false → nat_lt most_members m ≡ false → (if nat_lt 2048 n then None else (if nat_lt most_members m then None else Some f)) ≡ Some f
made_of n m f h k = ap (λ b. if b then None else (if nat_lt most_members m then None else Some f)) h ∙ ap (λ b. if b then None else Some f) k

pub put_low : (i w v : Data) (ps : Pairs) → lookup i (graph ps) ≡ Some v → nat_lt most_members (length (graph ps)) ≡ false → graph_size (graph ps) ≤ 2046 → nat_le (depth w) 2046 ≡ true
    → bindable (put_part i (Some (function ps)) (Some w)) ≡ Some (with_at i w ps)
put_low i w v ps h few low low_w =
    let l = replace_at i w (graph ps) in
    let size = replaced_low i w (graph ps) 2046 low (le_of (depth w) 2046 low_w) in
    let deep = depth_at i w ps in
    ap bindable (put_is i w v ps h ∙ made_of (depth (with_at i w ps)) (length l) (with_at i w ps) (not_less 2048 _ (omega (arith, deep, size))) (ap (nat_lt most_members) (replaced_length i w (graph ps)) ∙ few))
    ∙ bindable_low (with_at i w ps) (of_le _ 2047 (omega (arith, deep, size)))

pub put_high : (i w v : Data) (ps : Pairs) → lookup i (graph ps) ≡ Some v → nat_lt most_members (length (graph ps)) ≡ false → nat_le (depth w) 2046 ≡ false
    → bindable (put_part i (Some (function ps)) (Some w)) ≡ None
put_high i w v ps h few high =
    ap bindable (put_is i w v ps h) ∙ go (nat_lt 2048 (depth (with_at i w ps))) refl
  where
    l : List (Data × Data)
    l = replace_at i w (graph ps)

    deep : (b : Bool) → nat_le (graph_size l) 2046 ≡ b → 2046 < graph_size l
    deep true e = absurd (let k = replaced_deep i w v (graph ps) 2046 h (le_of (graph_size l) 2046 e) in let z = gt_of (depth w) 2046 high in omega (arith, k, z))
    deep false e = gt_of (graph_size l) 2046 e

    go : (b : Bool) → nat_lt 2048 (depth (with_at i w ps)) ≡ b → bindable (if b then None else if_few (length l) (with_at i w ps)) ≡ None
    go true e = refl
    go false e =
        ap (λ b. bindable (if b then None else Some (with_at i w ps))) (ap (nat_lt most_members) (replaced_length i w (graph ps)) ∙ few)
        ∙ bindable_high (with_at i w ps) (let d = depth_at i w ps in let k = deep (nat_le (graph_size l) 2046) refl in of_gt _ 2047 (omega (arith, d, k)))

-- a part of a value is less deep
pub part_low : (at : Option Data) (v w : Data) → part_of at v ≡ Some w → nat_le (depth v) 2047 ≡ true → nat_le (depth w) 2047 ≡ true
part_low None v w h low = let e : v ≡ w = cc in subst (λ x. nat_le (depth x) 2047 ≡ true) e low
part_low (Some i) (function ps) w h low = let s = size_is ps in let z = le_of (suc (pairs_depth ps)) 2047 low in let k = lookup_low i w (graph ps) 2046 h (omega (arith, s, z)) in of_le (depth w) 2047 (omega (arith, k))
part_low (Some i) (boolean z) w h low = absurd (grind (arith, h))
part_low (Some i) (integer z) w h low = absurd (grind (arith, h))
part_low (Some i) (string z) w h low = absurd (grind (arith, h))
part_low (Some i) (model z) w h low = absurd (grind (arith, h))
part_low (Some i) (set z) w h low = absurd (grind (arith, h))
