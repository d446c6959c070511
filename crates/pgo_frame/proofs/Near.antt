-- Functions on one domain, whose values are the same or low: they are too deep together, and stay so with another part.
use Rattle.std.proofs.Common.{◌≡◌, ℕ, suc, ◌≤◌, Bool, true, false, List, [], ◌∷◌, length, Option, Some, None, ◌⊎◌, inl, inr, refl, sym, ap, ◌∙◌, subst, arith, option_map, option_and_then}
use Rattle.std.specs.Prelude.{if◌then◌else◌, nat_le, nat_lt}
use Rattle.pgo_base.specs.Data.{Data, function, Pairs, pairs, graph, keys, graph-pairs}
use Rattle.pgo_base.specs.Size.{depth, graph_size}
use Rattle.pgo_model.specs.Operators.{same_data, lookup, replace_at, most_members, function_of}
use Rattle.pgo_sections.specs.BoundValues.{bindable, put_part}
use Rattle.pgo_sections.proofs.Domains.{same_of}
use Rattle.pgo_accesses.proofs.Ending.{same_test}
use Rattle.pgo_accesses.proofs.FreeValues.{there}
use Rattle.pgo_accesses.proofs.Parts.{le_of, of_le, size_is, lookup_here, lookup_other, bindable_low, bindable_high, put_is}

-- the values are the same, or both are as low as in a state
abbrev pub SameOrLow : Data → Data → Type 0
SameOrLow v w = (v ≡ w) ⊎ ((depth v ≤ 255) × (depth w ≤ 255))

abbrev pub Near : List (Data × Data) → List (Data × Data) → Type 0
Near [] [] = Unit {0}
Near [] (q ∷ m) = ⊥
Near (p ∷ l) [] = ⊥
Near (p ∷ l) (q ∷ m) = (p.0 ≡ q.0) × SameOrLow p.1 q.1 × Near l m

same_or_low_turned : (v w : Data) → SameOrLow v w → SameOrLow w v
same_or_low_turned v w (inl e) = inl (sym e)
same_or_low_turned v w (inr h) = inr (h.1, h.0)

pub near_turned : (l m : List (Data × Data)) → Near l m → Near m l
near_turned [] [] h = tt
near_turned [] (q ∷ m) h = absurd h
near_turned (p ∷ l) [] h = absurd h
near_turned (p ∷ l) (q ∷ m) h = (sym h.0, same_or_low_turned p.1 q.1 h.1, near_turned l m h.2)

-- what stands in states is near where it has one domain
pub near_start : (l m : List (Data × Data)) → keys l ≡ keys m → graph_size l ≤ 255 → graph_size m ≤ 255 → Near l m
near_start [] [] e h k = tt
near_start [] (q ∷ m) e h k = absurd (let z = ap length e in grind (arith, z))
near_start (p ∷ l) [] e h k = absurd (let z = ap length e in grind (arith, z))
near_start (p ∷ l) (q ∷ m) e h k = (heads e, inr (omega (arith, h), omega (arith, k)), near_start l m (tails e) (omega (arith, h)) (omega (arith, k)))
  where
    heads : p.0 ∷ keys l ≡ q.0 ∷ keys m → p.0 ≡ q.0
    heads e = cc

    tails : p.0 ∷ keys l ≡ q.0 ∷ keys m → keys l ≡ keys m
    tails e = cc

pub near_length : (l m : List (Data × Data)) → Near l m → length l ≡ length m
near_length [] [] h = refl
near_length [] (q ∷ m) h = absurd h
near_length (p ∷ l) [] h = absurd h
near_length (p ∷ l) (q ∷ m) h = ap suc (near_length l m h.2)

low_with : (v w : Data) (n : ℕ) → 255 ≤ n → SameOrLow v w → depth v ≤ n → depth w ≤ n
low_with v w n h (inl e) le = subst (λ x. depth x ≤ n) e le
low_with v w n h (inr k) le = let low = k.1 in omega (arith, h, low)

pub near_low : (l m : List (Data × Data)) (n : ℕ) → 255 ≤ n → Near l m → graph_size l ≤ n → graph_size m ≤ n
near_low [] [] n le h k = k
near_low [] (q ∷ m) n le h k = absurd h
near_low (p ∷ l) [] n le h k = absurd h
near_low (p ∷ l) (q ∷ m) n le h k =
    let key = ap depth h.0 in
    let first = low_with p.1 q.1 n le h.1 (omega (arith, k)) in
    let rest = near_low l m n le h.2 (omega (arith, k)) in
    omega (arith, k, key, first, rest)

pub near_there : (i : Data) (l m : List (Data × Data)) → Near l m → there (lookup i l) ≡ there (lookup i m)
near_there i [] [] h = refl
near_there i [] (q ∷ m) h = absurd h
near_there i (p ∷ l) [] h = absurd h
near_there i (p ∷ l) (q ∷ m) h = go (same_data i p.0) (near_there i l m h.2) ∙ ap (λ k. there (if same_data i k then Some q.1 else lookup i m)) h.0
  where
    go : (b : Bool) → there (lookup i l) ≡ there (lookup i m) → there (if b then Some p.1 else lookup i l) ≡ there (if b then Some q.1 else lookup i m)
    go true ih = refl
    go false ih = ih

pub near_replaced : (i v : Data) (l m : List (Data × Data)) → Near l m → Near (replace_at i v l) (replace_at i v m)
near_replaced i v [] [] h = tt
near_replaced i v [] (q ∷ m) h = absurd h
near_replaced i v (p ∷ l) [] h = absurd h
near_replaced i v (p ∷ l) (q ∷ m) h =
    subst (λ k. Near (if same_data i p.0 then (i, v) ∷ l else p ∷ replace_at i v l) (if same_data i k then (i, v) ∷ m else q ∷ replace_at i v m)) h.0
    (go (same_data i p.0) (near_replaced i v l m h.2))
  where
    go : (b : Bool) → Near (replace_at i v l) (replace_at i v m) → Near (if b then (i, v) ∷ l else p ∷ replace_at i v l) (if b then (i, v) ∷ m else q ∷ replace_at i v m)
    go true ih = (refl, inl refl, h.2)
    go false ih = (h.0, h.1, ih)

-- what is the same at a key stays the same
same_replaced : (i v u w j : Data) (l m : List (Data × Data)) → lookup i l ≡ Some u → lookup i m ≡ Some w → lookup j l ≡ lookup j m → lookup j (replace_at i v l) ≡ lookup j (replace_at i v m)
same_replaced i v u w j l m e f h = go (same_data j i) refl
  where
    go : (b : Bool) → same_data j i ≡ b → lookup j (replace_at i v l) ≡ lookup j (replace_at i v m)
    go true n = subst (λ k. lookup k (replace_at i v l) ≡ lookup k (replace_at i v m)) (sym (same_of j i n)) (lookup_here i v u l e ∙ sym (lookup_here i v w m f))
    go false n = lookup_other i j v l n ∙ h ∙ sym (lookup_other i j v m n)

-- ---- tests of depth

at_most : (m n : ℕ) → nat_lt m n ≡ false → n ≤ m
at_most m n h = grind (arith, h)

not_more : (m n : ℕ) → n ≤ m → nat_lt m n ≡ false
not_more m n h = grind (arith, h)

same_lt : (n d e : ℕ) → (d ≤ n → e ≤ n) → (e ≤ n → d ≤ n) → nat_lt n d ≡ nat_lt n e
same_lt n d e f g = go (nat_lt n d) (nat_lt n e) refl refl
  where
    go : (a b : Bool) → nat_lt n d ≡ a → nat_lt n e ≡ b → nat_lt n d ≡ nat_lt n e
    go true true x y = x ∙ sym y
    go true false x y = absurd (let z : true ≡ false = sym x ∙ not_more n d (g (at_most n e y)) in grind (arith, z))
    go false true x y = absurd (let z : true ≡ false = sym y ∙ not_more n e (f (at_most n d x)) in grind (arith, z))
    go false false x y = x ∙ sym y

pub same_le : (n d e : ℕ) → (d ≤ n → e ≤ n) → (e ≤ n → d ≤ n) → nat_le d n ≡ nat_le e n
same_le n d e f g = same_test (nat_le d n) (nat_le e n) (λ h. of_le e n (f (le_of d n h))) (λ h. of_le d n (g (le_of e n h)))

pub near_depth : (ps qs : Pairs) (n : ℕ) → 255 ≤ n → Near (graph ps) (graph qs) → depth (function ps) ≤ suc n → depth (function qs) ≤ suc n
near_depth ps qs n le h k =
    let a = size_is ps in let b = size_is qs in
    let low = near_low (graph ps) (graph qs) n le h (omega (arith, a, k)) in
    omega (arith, b, low)

pub near_le : (ps qs : Pairs) (n : ℕ) → 255 ≤ n → Near (graph ps) (graph qs) → nat_le (depth (function ps)) (suc n) ≡ nat_le (depth (function qs)) (suc n)
near_le ps qs n le h = same_le (suc n) (depth (function ps)) (depth (function qs)) (λ k. near_depth ps qs n le h k) (λ k. near_depth qs ps n le (near_turned (graph ps) (graph qs) h) k)

near_lt : (ps qs : Pairs) (n : ℕ) → 255 ≤ n → Near (graph ps) (graph qs) → nat_lt (suc n) (depth (function ps)) ≡ nat_lt (suc n) (depth (function qs))
near_lt ps qs n le h = same_lt (suc n) (depth (function ps)) (depth (function qs)) (λ k. near_depth ps qs n le h k) (λ k. near_depth qs ps n le (near_turned (graph ps) (graph qs) h) k)

-- ---- another part of both

-- neither is a value, or both are near functions, and what was the same at a key is the same
pub data Puts (ps qs : Pairs) (o o' : Option Data) : Type 0 where
  neither : o ≡ None → o' ≡ None → Puts ps qs o o'
  functions : (us vs : Pairs) → o ≡ Some (function us) → o' ≡ Some (function vs) → Near (graph us) (graph vs)
      → ((j : Data) → lookup j (graph ps) ≡ lookup j (graph qs) → lookup j (graph us) ≡ lookup j (graph vs)) → Puts ps qs o o'

abbrev made : Bool → Bool → Data → Option Data
made a b f = if a then None else (if b then None else Some f)

makes_near : (ps qs : Pairs) (l m : List (Data × Data)) → Near l m → ((j : Data) → lookup j (graph ps) ≡ lookup j (graph qs) → lookup j l ≡ lookup j m) → Puts ps qs (function_of l) (function_of m)
makes_near ps qs l m h same = subst (λ o. Puts ps qs (function_of l) o) tests (go (nat_lt 2048 (depth (function (pairs l)))) (nat_lt most_members (length l)) refl refl)
  where
    near : Near (graph (pairs l)) (graph (pairs m))
    near = subst (λ a. Near a (graph (pairs m))) (sym (graph-pairs l)) (subst (λ a. Near l a) (sym (graph-pairs m)) h)

    tests : made (nat_lt 2048 (depth (function (pairs l)))) (nat_lt most_members (length l)) (function (pairs m)) ≡ function_of m
    tests =
        let a = near_lt (pairs l) (pairs m) 2047 (omega arith) near in
        let b = ap (nat_lt most_members) (near_length l m h) in
        λ i. made (a i) (b i) (function (pairs m))

    go : (a b : Bool) → nat_lt 2048 (depth (function (pairs l))) ≡ a → nat_lt most_members (length l) ≡ b → Puts ps qs (function_of l) (made (nat_lt 2048 (depth (function (pairs l)))) (nat_lt most_members (length l)) (function (pairs m)))
    go true b e f = neither (λ i. made (e i) (nat_lt most_members (length l)) (function (pairs l))) (λ i. made (e i) (nat_lt most_members (length l)) (function (pairs m)))
    go false true e f = neither (λ i. made (e i) (f i) (function (pairs l))) (λ i. made (e i) (f i) (function (pairs m)))
    go false false e f =
        functions (pairs l) (pairs m) (λ i. made (e i) (f i) (function (pairs l))) (λ i. made (e i) (f i) (function (pairs m))) near
        (λ j k. ap (lookup j) (graph-pairs l) ∙ same j k ∙ sym (ap (lookup j) (graph-pairs m)))

-- an index at which there is nothing changes nothing
put_nowhere : (i w : Data) (ps : Pairs) → lookup i (graph ps) ≡ None → put_part i (Some (function ps)) (Some w) ≡ Some (function ps)
put_nowhere i w ps h =
    ap (λ o. elim o as (λ o. Option Data) [ None ↦ option_map (λ (x : Data). function ps) (Some w) | Some part ↦ option_and_then (λ v. function_of (replace_at i v (graph ps))) (Some w) ]) h

pub puts_near : (i v : Data) (ps qs : Pairs) → Near (graph ps) (graph qs) → Puts ps qs (put_part i (Some (function ps)) (Some v)) (put_part i (Some (function qs)) (Some v))
puts_near i v ps qs h = go (lookup i (graph ps)) (lookup i (graph qs)) refl refl (near_there i (graph ps) (graph qs) h)
  where
    go : (o o' : Option Data) → lookup i (graph ps) ≡ o → lookup i (graph qs) ≡ o' → there o ≡ there o' → Puts ps qs (put_part i (Some (function ps)) (Some v)) (put_part i (Some (function qs)) (Some v))
    go None None e f n = functions ps qs (put_nowhere i v ps e) (put_nowhere i v qs f) h (λ j k. k)
    go None (Some w) e f n = absurd (grind (arith, n))
    go (Some u) None e f n = absurd (grind (arith, n))
    go (Some u) (Some w) e f n =
        let P : Option Data → Type 0 = λ o. Puts ps qs o (put_part i (Some (function qs)) (Some v)) in
        let Q : Option Data → Type 0 = λ o. Puts ps qs (function_of (replace_at i v (graph ps))) o in
        subst P (sym (put_is i v u ps e)) (subst Q (sym (put_is i v w qs f))
        (makes_near ps qs (replace_at i v (graph ps)) (replace_at i v (graph qs)) (near_replaced i v (graph ps) (graph qs) h) (λ j k. same_replaced i v u w j (graph ps) (graph qs) e f k)))

pub bound_near : (ps qs : Pairs) (o o' : Option Data) → Puts ps qs o o' → Puts ps qs (bindable o) (bindable o')
bound_near ps qs o o' (neither e f) = neither (ap bindable e) (ap bindable f)
bound_near ps qs o o' (functions us vs e f h same) = go (nat_le (depth (function us)) 2047) refl
  where
    go : (b : Bool) → nat_le (depth (function us)) 2047 ≡ b → Puts ps qs (bindable o) (bindable o')
    go true n = functions us vs (ap bindable e ∙ bindable_low (function us) n) (ap bindable f ∙ bindable_low (function vs) (sym (near_le us vs 2046 (omega arith) h) ∙ n)) h same
    go false n = neither (ap bindable e ∙ bindable_high (function us) n) (ap bindable f ∙ bindable_high (function vs) (sym (near_le us vs 2046 (omega arith) h) ∙ n))
