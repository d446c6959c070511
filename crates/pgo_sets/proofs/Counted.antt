-- Keys that are in order, each once, are 1, 2 and so on where the first is 1 and the last their number.
use Rattle.std.proofs.Common.{◌≡◌, ◌⊎◌, inl, inr, ℕ, suc, negsuc, ◌<◌, ◌≤◌, ◌+◌, ◌-◌, Bool, true, false, cond, if◌then◌else◌, nat_lt, pos, List, [], ◌∷◌, length, map, get_or, Option, Some, None, option_map, refl, ap, sym, ◌∙◌, arith}
use Rattle.std.proofs.lemmas.Bool.Decides.{nat_tests}
use Rattle.std.specs.declared.cmp.Ordering.TheVariants.{Less, Equal, Greater}
use Rattle.std.specs.Ordering.{is_eq, int_cmp}
use Rattle.std.specs.List.Sorted.{IsStrictlySortedBy}
use Rattle.pgo_base.specs.declared.value.Value.{Value}
use Rattle.pgo_base.specs.Data.{Data, boolean, integer, string, model, set, function, keys}
use Rattle.pgo_base.specs.Exact.{data_itself}
use Rattle.pgo_base.specs.Order.{data_cmp}
use Rattle.pgo_base.specs.Sets.{IsSorted}
use Rattle.pgo_base.specs.Total.{data_total}
use Rattle.pgo_base.specs.View.{data_of, pair_of, key_of, value_of}
use Rattle.pgo_model.specs.Operators.{same_data}
use Rattle.pgo_model.specs.Sequences.{elements_from}
use Rattle.pgo_sets.proofs.Numbered.{number_less}
use Rattle.pgo_sets.proofs.Replacing.{same_exact}

less_number : (m n : ℕ) → int_cmp (pos m) (pos n) ≡ Less → m < n
less_number m n h = go (nat_lt m n) refl (nat_lt n m) h
  where
    go : (b : Bool) → nat_lt m n ≡ b → (c : Bool) → cond b Less (cond c Greater Equal) ≡ Less → m < n
    go true e c g = grind (arith, nat_tests)
    go false e true g = absurd (cc)
    go false e false g = absurd (cc)

-- x is this number or behind it
abbrev Reaches : ℕ → Data → Type 0
Reaches n x = (data_cmp (integer (pos n)) x ≡ Less) ⊎ (x ≡ integer (pos n))

-- what comes behind that is behind the number
behind : (n : ℕ) (x y : Data) → Reaches n x → data_cmp x y ≡ Less → data_cmp (integer (pos n)) y ≡ Less
behind n x y (inl a) h = data_total.trans (integer (pos n)) x y a h
behind n x y (inr e) h = ap (λ z. data_cmp z y) (sym e) ∙ h

-- what is behind a number is the next one or behind it
next_reached : (n : ℕ) (y : Data) → data_cmp (integer (pos n)) y ≡ Less → Reaches (suc n) y
next_reached n (boolean b) h = absurd (cc)
next_reached n (integer (negsuc k)) h = absurd (cc)
next_reached n (integer (pos k)) h = go (nat_lt (suc n) k) refl
  where
    more : n < k
    more = less_number n k h

    go : (b : Bool) → nat_lt (suc n) k ≡ b → Reaches (suc n) (integer (pos k))
    go true e = inl (number_less (suc n) k (grind (arith, nat_tests)))
    go false e = inr (ap (λ m. integer (pos m)) (let l : k ≤ suc n = grind (arith, nat_tests) in let z : k ≡ suc n = omega (arith, l, more) in z))
next_reached n (string s) h = inl refl
next_reached n (model s) h = inl refl
next_reached n (set xs) h = inl refl
next_reached n (function ps) h = inl refl

-- what is a number or behind it, and before the next one, is that number
between : (n : ℕ) (x : Data) → Reaches n x → data_cmp x (integer (pos (suc n))) ≡ Less → x ≡ integer (pos n)
between n x (inr e) h = e
between n (boolean b) (inl a) h = absurd (cc)
between n (integer (negsuc k)) (inl a) h = absurd (cc)
between n (integer (pos k)) (inl a) h =
    let l : n < k = less_number n k a in
    let m : k < suc n = less_number k (suc n) h in
    absurd (omega (arith, l, m))
between n (string s) (inl a) h = absurd (cc)
between n (model s) (inl a) h = absurd (cc)
between n (set xs) (inl a) h = absurd (cc)
between n (function ps) (inl a) h = absurd (cc)

abbrev last_key : Data × Data → List (Data × Data) → Data
last_key p [] = p.0
last_key p (q ∷ qs) = last_key q qs

abbrev second : Data × Data → Data
second p = p.1

one_here : (n : ℕ) (p : Data × Data) (ps : List (Data × Data)) → p.0 ≡ integer (pos n) → elements_from (suc n) ps ≡ Some (map second ps) → elements_from n (p ∷ ps) ≡ Some (map second (p ∷ ps))
one_here n p ps k h =
    let t : same_data p.0 (integer (pos n)) ≡ true = ap (λ x. is_eq (data_cmp x (integer (pos n)))) k ∙ ap is_eq (data_itself (integer (pos n))) in
    (λ i. if t i then option_map (λ vs. p.1 ∷ vs) (h i) else None)

-- from a number or behind it to the last number: each is there
all_there : (n : ℕ) (p : Data × Data) (ps : List (Data × Data)) → IsSorted (keys (p ∷ ps)) → Reaches n p.0 → last_key p ps ≡ integer (pos (n + length ps)) → (p.0 ≡ integer (pos n)) × (elements_from n (p ∷ ps) ≡ Some (map second (p ∷ ps)))
unfolding IsStrictlySortedBy
all_there n p [] s r e =
    let k : p.0 ≡ integer (pos n) = e ∙ ap (λ m. integer (pos m)) (let z : n + 0 ≡ n = omega arith in z) in
    (k, one_here n p [] k refl)
all_there n p (q ∷ qs) s r e =
    let more = all_there (suc n) q qs s.1 (next_reached n q.0 (behind n p.0 q.0 r s.0.0)) (e ∙ ap (λ m. integer (pos m)) (let z : n + suc (length qs) ≡ suc n + length qs = omega arith in z)) in
    let k : p.0 ≡ integer (pos n) = between n p.0 r (ap (data_cmp p.0) (sym more.0) ∙ s.0.0) in
    (k, one_here n p (q ∷ qs) k more.1)

pub rest_some : (b : Bool) (v : Data) (o : Option (List Data)) (vs : List Data) → (if b then option_map (λ ws. v ∷ ws) o else None) ≡ Some vs → (b ≡ true) × ((ws : List Data) × (o ≡ Some ws))
rest_some true v (Some ws) vs h = (refl, (ws, refl))
rest_some true v None vs h = absurd (cc)
rest_some false v o vs h = absurd (cc)

-- where each is there, the last is the last number
last_there : (n : ℕ) (p : Data × Data) (ps : List (Data × Data)) (vs : List Data) → elements_from n (p ∷ ps) ≡ Some vs → last_key p ps ≡ integer (pos (n + length ps))
last_there n p [] vs h =
    let t = rest_some (same_data p.0 (integer (pos n))) p.1 (Some []) vs h in
    same_exact p.0 (integer (pos n)) t.0 ∙ ap (λ m. integer (pos m)) (let z : n ≡ n + 0 = omega arith in z)
last_there n p (q ∷ qs) vs h =
    let t = rest_some (same_data p.0 (integer (pos n))) p.1 (elements_from (suc n) (q ∷ qs)) vs h in
    last_there (suc n) q qs t.1.0 t.1.1 ∙ ap (λ m. integer (pos m)) (let z : suc n + length qs ≡ n + suc (length qs) = omega arith in z)

last_is : (p : Value × Value) (ps : List (Value × Value)) (d : Value × Value) → last_key (pair_of p) (map pair_of ps) ≡ key_of (get_or (p ∷ ps) (length ps) d)
last_is p [] d = refl
last_is p (q ∷ qs) d = last_is q qs d

seconds : (ps : List (Value × Value)) → map second (map pair_of ps) ≡ map value_of ps
seconds [] = refl
seconds (p ∷ ps) = ap (λ vs. value_of p ∷ vs) (seconds ps)

length_pairs : (ps : List (Value × Value)) → length (map pair_of ps) ≡ length ps
length_pairs [] = refl
length_pairs (p ∷ ps) = ap suc (length_pairs ps)

abbrev pub values_where : Bool → List (Value × Value) → Option (List Data)
values_where b ps = if b then Some (map value_of ps) else None

-- the keys are 1, 2 and so on where the first is 1 and the last is their number
pub counted : (ps : List (Value × Value)) (d e : Value × Value) (i : ℕ) (a b : Bool) → IsSorted (keys (map pair_of ps)) → 0 < length ps → i ≡ length ps - 1 → a ≡ same_data (key_of (get_or ps 0 d)) (integer (pos 1)) → b ≡ same_data (key_of (get_or ps i e)) (integer (pos (suc i))) → values_where (if a then b else false) ps ≡ elements_from 1 (map pair_of ps)
counted [] d e i a b s l z h k = absurd (omega (arith, l))
counted (p ∷ ps) d e i a b s l z h k = by_first a (sym h)
  where
    rest : List (Data × Data)
    rest = map pair_of ps

    last : Data
    last = key_of (get_or (p ∷ ps) i e)

    place : i ≡ length ps
    place = omega (arith, z)

    number : suc i ≡ 1 + length rest
    number = omega (arith, place, length_pairs ps)

    end : last_key (pair_of p) rest ≡ last
    end = last_is p ps e ∙ ap (λ n. key_of (get_or (p ∷ ps) n e)) (sym place)

    by_last : (c : Bool) → same_data last (integer (pos (suc i))) ≡ c → same_data (data_of p.0) (integer (pos 1)) ≡ true → (o : Option (List Data)) → elements_from 1 (pair_of p ∷ rest) ≡ o → values_where c (p ∷ ps) ≡ elements_from 1 (pair_of p ∷ rest)
    by_last true f t o y =
        let r = all_there 1 (pair_of p) rest s (inr (same_exact (data_of p.0) (integer (pos 1)) t)) (end ∙ same_exact last (integer (pos (suc i))) f ∙ ap (λ n. integer (pos n)) number) in
        ap Some (sym (seconds (p ∷ ps))) ∙ sym r.1
    by_last false f t None y = sym y
    by_last false f t (Some vs) y =
        let q : last ≡ integer (pos (suc i)) = sym end ∙ last_there 1 (pair_of p) rest vs y ∙ ap (λ n. integer (pos n)) (sym number) in
        let u : same_data last (integer (pos (suc i))) ≡ true = ap (λ x. is_eq (data_cmp x (integer (pos (suc i))))) q ∙ ap is_eq (data_itself (integer (pos (suc i)))) in
        absurd (cc)

    by_first : (c : Bool) → same_data (data_of p.0) (integer (pos 1)) ≡ c → values_where (if c then b else false) (p ∷ ps) ≡ elements_from 1 (pair_of p ∷ rest)
    by_first true t = by_last b (sym k) t (elements_from 1 (pair_of p ∷ rest)) refl
    by_first false t = ap (λ (c : Bool). if c then option_map (λ vs. value_of p ∷ vs) (elements_from 2 rest) else None) (sym t)
