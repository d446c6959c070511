-- What a binary search of members or keys in order finds.
use Rattle.std.proofs.Common.{◌≡◌, ◌⊎◌, inl, inr, ℕ, zero, suc, ◌<◌, ◌≤◌, ◌+◌, ltb, Bool, true, false, if◌then◌else◌, List, [], ◌∷◌, length, map, get_or, Some, None, Result, Ok, Err, is_ok, refl, ap, sym, ◌∙◌, subst, arith}
use Rattle.std.specs.Prelude.{option_map}
use Rattle.std.specs.declared.cmp.Ordering.{Ordering}
use Rattle.std.specs.declared.cmp.Ordering.TheVariants.{Less, Equal, Greater}
use Rattle.std.specs.Ordering.{is_eq, ordering_index, ordering_reverse}
use Rattle.std.specs.List.{AllByRecursion}
use Rattle.std.specs.List.Sorted.{IsStrictlySortedBy, IsNonDecreasingBy, IsPartitionPoint, IsSearchInRange, IsBinarySearchResult}
use Rattle.std.proofs.lemmas.Bool.Decides.{nat_tests}
use Rattle.std.proofs.lemmas.List.{get_or_default}
use Rattle.pgo_base.specs.declared.value.Value.{Value}
use Rattle.pgo_base.specs.Data.{Data, keys}
use Rattle.pgo_base.specs.Order.{data_cmp}
use Rattle.pgo_base.specs.Exact.{data_exact, data_itself}
use Rattle.pgo_base.specs.Total.{data_total}
use Rattle.pgo_base.specs.Sets.{IsSorted}
use Rattle.pgo_base.specs.View.{data_of, pair_of, key_of}
use Rattle.pgo_model.specs.Operators.{same_data, contains}
use Rattle.pgo_sets.specs.KeyPlace.{key_place}

abbrev Below : Data → List Data → Type 0
Below x ys = AllByRecursion (λ y. data_cmp x y ≡ Less) ys

-- the order of a greater value and k is no less
rises : (x y k : Data) → data_cmp x y ≡ Less → ordering_index (data_cmp x k) ≤ ordering_index (data_cmp y k)
rises x y k h = go (data_cmp x k) (data_cmp y k) refl refl
  where
    go : (o p : Ordering) → data_cmp x k ≡ o → data_cmp y k ≡ p → ordering_index o ≤ ordering_index p
    go Less Less e f = omega arith
    go Less Equal e f = omega arith
    go Less Greater e f = omega arith
    go Equal Less e f = absurd (let z : data_cmp x k ≡ Less = data_total.trans x y k h f in cc)
    go Equal Equal e f = omega arith
    go Equal Greater e f = omega arith
    go Greater Less e f = absurd (let z : data_cmp x k ≡ Less = data_total.trans x y k h f in cc)
    go Greater Equal e f = absurd (let z : data_cmp x k ≡ Less = ap (data_cmp x) (sym (data_exact y k f)) ∙ h in cc)
    go Greater Greater e f = omega arith

below_at : {A : Type 0} (f : A → Data) (x : Data) (ys : List A) (j : ℕ) (d : A) → Below x (map f ys) → j < length ys → data_cmp x (f (get_or ys j d)) ≡ Less
below_at f x [] j d b h = absurd (omega arith)
below_at f x (y ∷ ys) zero d b h = b.0
below_at f x (y ∷ ys) (suc j) d b h = below_at f x ys j d b.1 (omega arith)

-- along what is in order
pub non_decreasing : {A : Type 0} (f : A → Data) (k : Data) (xs : List A) → IsSorted (map f xs) → IsNonDecreasingBy (λ x. ordering_index (data_cmp (f x) k)) xs
unfolding IsStrictlySortedBy
non_decreasing f k [] s i j d p h = absurd (omega arith)
non_decreasing f k (x ∷ xs) s zero zero d p h = omega arith
non_decreasing f k (x ∷ xs) s zero (suc j) d p h = rises (f x) (f (get_or xs j d)) k (below_at f (f x) xs j d s.0 (omega arith))
non_decreasing f k (x ∷ xs) s (suc i) zero d p h = absurd (omega arith)
non_decreasing f k (x ∷ xs) s (suc i) (suc j) d p h = non_decreasing f k xs s.1 i j d (omega arith) (omega arith)

apart_from : (x k : Data) (o : Ordering) → data_cmp x k ≡ o → (o ≡ Less) ⊎ (o ≡ Greater) → same_data k x ≡ false
apart_from x k Less e h = ap is_eq (data_total.antisymm k x ∙ ap ordering_reverse e)
apart_from x k Equal e (inl h) = absurd (cc)
apart_from x k Equal e (inr h) = absurd (cc)
apart_from x k Greater e h = ap is_eq (data_total.antisymm k x ∙ ap ordering_reverse e)

same_at : (x k : Data) → data_cmp x k ≡ Equal → same_data k x ≡ true
same_at x k h = ap is_eq (ap (data_cmp k) (data_exact x k h) ∙ data_itself k)

-- each is apart from k
abbrev Apart : {A : Type 0} → (A → Data) → Data → List A → Type 0
Apart {A} f k xs = (j : ℕ) (d : A) → j < length xs → same_data k (f (get_or xs j d)) ≡ false

all_apart : {A : Type 0} (f : A → Data) (k : Data) (xs : List A) (i : ℕ) → IsPartitionPoint (λ x. data_cmp (f x) k ≡ Less) (λ x. data_cmp (f x) k ≡ Greater) xs i → Apart f k xs
all_apart f k xs i h j d below = go (ltb j i) refl
  where
    go : (b : Bool) → ltb j i ≡ b → same_data k (f (get_or xs j d)) ≡ false
    go true e = apart_from (f (get_or xs j d)) k _ refl (inl (h.0 j d (omega arith) (grind (arith, nat_tests))))
    go false e = apart_from (f (get_or xs j d)) k _ refl (inr (h.1 j d (grind (arith, nat_tests)) below))

contains_none : (k : Data) (xs : List Value) → Apart data_of k xs → contains k (map data_of xs) ≡ false
contains_none k [] h = refl
contains_none k (x ∷ xs) h = ap (λ b. if b then true else contains k (map data_of xs)) (h 0 x (omega arith)) ∙ contains_none k xs (λ j d b. h (suc j) d (omega arith))

contains_at : (k : Data) (xs : List Value) (i : ℕ) (d : Value) → i < length xs → data_cmp (data_of (get_or xs i d)) k ≡ Equal → contains k (map data_of xs) ≡ true
contains_at k [] i d b h = absurd (omega arith)
contains_at k (x ∷ xs) zero d b h = ap (λ b. if b then true else contains k (map data_of xs)) (same_at (data_of x) k h)
contains_at k (x ∷ xs) (suc i) d b h = go (same_data k (data_of x)) (contains_at k xs i d (omega arith) h)
  where
    go : (t : Bool) → contains k (map data_of xs) ≡ true → (if t then true else contains k (map data_of xs)) ≡ true
    go true e = refl
    go false e = e

-- a search for a member tells whether it is there
pub member_searched : (v : Value) (xs : List Value) (r : Result ℕ ℕ) → IsSearchInRange r (length xs) → IsSorted (map data_of xs) → IsBinarySearchResult (λ x. data_cmp (data_of x) (data_of v)) xs r → is_ok r ≡ contains (data_of v) (map data_of xs)
member_searched v xs (Ok i) b s h = sym (contains_at (data_of v) xs i v b (h v))
member_searched v xs (Err i) b s h = sym (contains_none (data_of v) xs (all_apart data_of (data_of v) xs i (h (non_decreasing data_of (data_of v) xs s))))

pub keys_map : (ps : List (Value × Value)) → keys (map pair_of ps) ≡ map key_of ps
keys_map [] = refl
keys_map (p ∷ ps) = ap (λ ks. key_of p ∷ ks) (keys_map ps)

place_none : (k : Data) (ps : List (Value × Value)) → Apart key_of k ps → key_place k (map pair_of ps) ≡ None
place_none k [] h = refl
place_none k (p ∷ ps) h = λ i. if h 0 p (omega arith) i then Some 0 else option_map suc (place_none k ps (λ j d b. h (suc j) d (omega arith)) i)

place_at : (k : Data) (ps : List (Value × Value)) (i : ℕ) (d : Value × Value) → IsSorted (map key_of ps) → i < length ps → data_cmp (key_of (get_or ps i d)) k ≡ Equal → key_place k (map pair_of ps) ≡ Some i
unfolding IsStrictlySortedBy
place_at k [] i d s b h = absurd (omega arith)
place_at k (p ∷ ps) zero d s b h = ap (λ b. if b then Some 0 else option_map suc (key_place k (map pair_of ps))) (same_at (key_of p) k h)
place_at k (p ∷ ps) (suc i) d s b h =
    let less : data_cmp (key_of p) k ≡ Less = ap (data_cmp (key_of p)) (sym (data_exact (key_of (get_or ps i d)) k h)) ∙ below_at key_of (key_of p) ps i d s.0 (omega arith) in
    λ j. if apart_from (key_of p) k Less less (inl refl) j then Some 0 else option_map suc (place_at k ps i d s.1 (omega arith) h j)

-- a search for a key finds its place
pub key_found : (k : Data) (ps : List (Value × Value)) (i : ℕ) (d : Value × Value) → IsSorted (keys (map pair_of ps)) → i < length ps → data_cmp (key_of (get_or ps i d)) k ≡ Equal → key_place k (map pair_of ps) ≡ Some i
key_found k ps i d s b h = place_at k ps i d (subst IsSorted (keys_map ps) s) b h

-- a search by halves: the keys before one place are below k, and those from another place on are above it
abbrev pub Between : Data → List (Value × Value) → ℕ → ℕ → Type 0
Between k ps low high =
    ((j : ℕ) (d : Value × Value) → j < length ps → j < low → data_cmp (key_of (get_or ps j d)) k ≡ Less)
    × ((j : ℕ) (d : Value × Value) → high ≤ j → j < length ps → data_cmp (key_of (get_or ps j d)) k ≡ Greater)

pub all_between : (k : Data) (ps : List (Value × Value)) (n : ℕ) → n ≡ length ps → Between k ps 0 n
all_between k ps n e = (λ j d b h. absurd (omega arith), λ j d h b. absurd (omega (arith, e)))

least : (o : Ordering) (m : ℕ) → ordering_index o ≤ m → m ≡ 0 → o ≡ Less
least Less m h e = refl
least Equal m h e = absurd (omega arith)
least Greater m h e = absurd (omega arith)

greatest : (o : Ordering) (m : ℕ) → m ≤ ordering_index o → m ≡ 2 → o ≡ Greater
greatest Less m h e = absurd (omega arith)
greatest Equal m h e = absurd (omega arith)
greatest Greater m h e = refl

-- the key in the middle is below k: so are those before it
pub upper_half : (k : Data) (ps : List (Value × Value)) (low middle high : ℕ) (p : Value × Value) → IsSorted (keys (map pair_of ps)) → middle < length ps → p ≡ get_or ps middle p → data_cmp (key_of p) k ≡ Less → Between k ps low high → Between k ps (middle + 1) high
upper_half k ps low middle high p s b e h g = (below, g.1)
  where
    below : (j : ℕ) (d : Value × Value) → j < length ps → j < middle + 1 → data_cmp (key_of (get_or ps j d)) k ≡ Less
    below j d i l =
        let rises = non_decreasing key_of k ps (subst IsSorted (keys_map ps) s) j middle p (omega (arith, l)) b in
        ap (λ (q : Value × Value). data_cmp (key_of q) k) (get_or_default ps j d p i)
        ∙ least (data_cmp (key_of (get_or ps j p)) k) _ rises (ap (λ (q : Value × Value). ordering_index (data_cmp (key_of q) k)) (sym e) ∙ ap ordering_index h)

-- the key in the middle is above k: so are those behind it
pub lower_half : (k : Data) (ps : List (Value × Value)) (low middle high : ℕ) (p : Value × Value) → IsSorted (keys (map pair_of ps)) → middle < length ps → p ≡ get_or ps middle p → data_cmp (key_of p) k ≡ Greater → Between k ps low high → Between k ps low middle
lower_half k ps low middle high p s b e h g = (g.0, above)
  where
    above : (j : ℕ) (d : Value × Value) → middle ≤ j → j < length ps → data_cmp (key_of (get_or ps j d)) k ≡ Greater
    above j d l i =
        let rises = non_decreasing key_of k ps (subst IsSorted (keys_map ps) s) middle j p l i in
        ap (λ (q : Value × Value). data_cmp (key_of q) k) (get_or_default ps j d p i)
        ∙ greatest (data_cmp (key_of (get_or ps j p)) k) _ rises (ap (λ (q : Value × Value). ordering_index (data_cmp (key_of q) k)) (sym e) ∙ ap ordering_index h)

-- where nothing is left, the key isn't there
pub nothing_between : (k : Data) (ps : List (Value × Value)) (low high : ℕ) → high ≤ low → Between k ps low high → key_place k (map pair_of ps) ≡ None
nothing_between k ps low high l g = place_none k ps apart
  where
    apart : Apart key_of k ps
    apart j d i = go (ltb j low) refl
      where
        go : (b : Bool) → ltb j low ≡ b → same_data k (key_of (get_or ps j d)) ≡ false
        go true e = apart_from (key_of (get_or ps j d)) k _ refl (inl (g.0 j d i (grind (arith, nat_tests))))
        go false e = apart_from (key_of (get_or ps j d)) k _ refl (inr (g.1 j d (let m : low ≤ j = grind (arith, nat_tests) in omega (arith, l, m)) i))
