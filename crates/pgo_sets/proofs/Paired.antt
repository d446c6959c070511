-- The choices of a product, of a set of functions and of a set of records.
use Rattle.std.proofs.Common.{◌≡◌, ℕ, zero, suc, ◌+◌, ◌<◌, ◌≤◌, Bool, true, false, ◌&&◌, pos, List, [], ◌∷◌, ◌++◌, length, map, get_or, Option, Some, None, option_map, refl, ap, sym, ◌∙◌, subst, arith}
use Rattle.std.proofs.Math.ListN.{get_or-map}
use Rattle.std.proofs.lemmas.List.{length-map, map_push}
use Rattle.std.specs.List.Sorted.{IsStrictlySortedBy}
use Rattle.std.proofs.lemmas.Option.{same_Some}
use Rattle.pgo_base.specs.declared.value.Value.{Value}
use Rattle.pgo_base.specs.Data.{Data, integer, set, items, members-items, keys}
use Rattle.pgo_base.specs.Sets.{IsSorted}
use Rattle.pgo_base.specs.View.{data_of, pair_of}
use Rattle.pgo_model.specs.Operators.{each, members_of, same_data, contains, sequence_at}
use Rattle.pgo_model.specs.FunctionSets.{Choices, choices_of, functions, product, function_choices, functions_over, graph_fits}
use Rattle.pgo_sets.specs.declared.choice.Choice.{Choice}
use Rattle.pgo_sets.specs.Choices.{choice_of, key_in, members_in}
use Rattle.pgo_sets.proofs.Each.{with_first, EachFrom, made_none, made_some, made_all}
use Rattle.pgo_sets.proofs.Numbered.{length_sequence}

-- a key with the members of the set at it
abbrev pub choice_pair : Data × Data → Option (Data × List Data)
choice_pair p = option_map (λ ms. (p.0, ms)) (members_of p.1)

pub map_map : {A B C : Type 0} (f : A → B) (g : B → C) (xs : List A) → map g (map f xs) ≡ map (λ x. g (f x)) xs
map_map f g [] = refl
map_map f g (x ∷ xs) = ap (λ ys. g (f x) ∷ ys) (map_map f g xs)

pair_at : (ps : List (Value × Value)) (i : ℕ) (p : Value × Value) → p ≡ get_or ps i p → pair_of p ≡ get_or (map pair_of ps) i (pair_of p)
pair_at ps i p e = ap pair_of e ∙ sym (get_or-map pair_of ps i p)

-- one field more is no set, or is one
pub record_none : (ps : List (Value × Value)) (done : Choices) (i : ℕ) (p : Value × Value) → EachFrom choice_pair (map pair_of ps) done i → i < length ps → p ≡ get_or ps i p → members_of (data_of p.1) ≡ None → choices_of (map pair_of ps) ≡ None
record_none ps done i p k h e n = made_none choice_pair (map pair_of ps) done i (pair_of p) k (omega (arith, length-map ps pair_of)) (pair_at ps i p e) (ap (option_map (λ ms. (data_of p.0, ms))) n)

pub record_some : (ps : List (Value × Value)) (done next : Choices) (i : ℕ) (p : Value × Value) (ms : List Data) → EachFrom choice_pair (map pair_of ps) done i → i < length ps → p ≡ get_or ps i p → members_of (data_of p.1) ≡ Some ms → next ≡ done ++ (data_of p.0, ms) ∷ [] → EachFrom choice_pair (map pair_of ps) next (i + 1)
record_some ps done next i p ms k h e s n = made_some choice_pair (map pair_of ps) done next i (pair_of p) (data_of p.0, ms) k (omega (arith, length-map ps pair_of)) (pair_at ps i p e) (ap (option_map (λ ms. (data_of p.0, ms))) s) n

pub record_all : (ps : List (Value × Value)) (done : Choices) (i : ℕ) → EachFrom choice_pair (map pair_of ps) done i → length ps ≤ i → choices_of (map pair_of ps) ≡ Some done
record_all ps done i k h = made_all choice_pair (map pair_of ps) done i k (omega (arith, length-map ps pair_of))

factor_at : (n : ℕ) (vs : List Value) (i k : ℕ) (v : Value) → k ≡ n + i → i < length vs → v ≡ get_or vs i v → (integer (pos k), data_of v) ≡ get_or (sequence_at n (map data_of vs)) i (integer (pos k), data_of v)
factor_at n [] i k v e h g = absurd (omega arith)
factor_at n (w ∷ vs) zero k v e h g = λ j. (integer (pos ((let z : k ≡ n = omega arith in z) j)), data_of (g j))
factor_at n (w ∷ vs) (suc i) k v e h g = factor_at (suc n) vs i k v (omega arith) (omega arith) g

factors : (vs : List Value) → length (sequence_at 1 (map data_of vs)) ≡ length vs
factors vs = length_sequence 1 (map data_of vs) ∙ length-map vs data_of

-- one factor more is no set, or is one
pub product_none : (vs : List Value) (done : Choices) (i : ℕ) (v : Value) → EachFrom choice_pair (sequence_at 1 (map data_of vs)) done i → i < length vs → v ≡ get_or vs i v → members_of (data_of v) ≡ None → choices_of (sequence_at 1 (map data_of vs)) ≡ None
product_none vs done i v k h e n = made_none choice_pair (sequence_at 1 (map data_of vs)) done i (integer (pos (suc i)), data_of v) k (omega (arith, factors vs)) (factor_at 1 vs i (suc i) v (omega arith) h e) (ap (option_map (λ ms. (integer (pos (suc i)), ms))) n)

pub product_some : (vs : List Value) (done next : Choices) (i : ℕ) (v : Value) (ms : List Data) → EachFrom choice_pair (sequence_at 1 (map data_of vs)) done i → i < length vs → v ≡ get_or vs i v → members_of (data_of v) ≡ Some ms → next ≡ done ++ (integer (pos (suc i)), ms) ∷ [] → EachFrom choice_pair (sequence_at 1 (map data_of vs)) next (i + 1)
product_some vs done next i v ms k h e s n = made_some choice_pair (sequence_at 1 (map data_of vs)) done next i (integer (pos (suc i)), data_of v) (integer (pos (suc i)), ms) k (omega (arith, factors vs)) (factor_at 1 vs i (suc i) v (omega arith) h e) (ap (option_map (λ ms. (integer (pos (suc i)), ms))) s) n

pub product_all : (vs : List Value) (done : Choices) (i : ℕ) → EachFrom choice_pair (sequence_at 1 (map data_of vs)) done i → length vs ≤ i → choices_of (sequence_at 1 (map data_of vs)) ≡ Some done
product_all vs done i k h = made_all choice_pair (sequence_at 1 (map data_of vs)) done i k (omega (arith, factors vs))

-- choices have the keys of the pairs that they come from
pub chosen_keys : (ps : List (Data × Data)) (cs : Choices) → choices_of ps ≡ Some cs → map (λ (c : Data × List Data). c.0) cs ≡ keys ps
chosen_keys [] cs e = ap (map (λ (c : Data × List Data). c.0)) (sym (same_Some [] cs e))
chosen_keys (p ∷ ps) cs e = go (members_of p.1) (each choice_pair ps) refl e (chosen_keys ps)
  where
    go : (o : Option (List Data)) (r : Option Choices) → each choice_pair ps ≡ r → with_first (option_map (λ ms. (p.0, ms)) o) r ≡ Some cs → ((ds : Choices) → choices_of ps ≡ Some ds → map (λ (c : Data × List Data). c.0) ds ≡ keys ps) → map (λ (c : Data × List Data). c.0) cs ≡ p.0 ∷ keys ps
    go None r g e ih = absurd (cc)
    go (Some ms) None g e ih = absurd (cc)
    go (Some ms) (Some ds) g e ih = ap (map (λ (c : Data × List Data). c.0)) (sym (same_Some ((p.0, ms) ∷ ds) cs e)) ∙ ap (λ ks. p.0 ∷ ks) (ih ds g)

pub sorted_choices : (ps : List (Data × Data)) (cs : List Choice) → IsSorted (keys ps) → choices_of ps ≡ Some (map choice_of cs) → IsSorted (map key_in cs)
sorted_choices ps cs s e = subst IsSorted (sym (chosen_keys ps (map choice_of cs) e) ∙ map_map choice_of (λ (c : Data × List Data). c.0) cs) s

pub functions_is : (xs ys : List Data) → functions (set (items xs)) (set (items ys)) ≡ functions_over (map (λ m. (m, ys)) xs)
functions_is xs ys = λ i. functions_over (map (λ m. (m, members-items ys i)) (members-items xs i))

pub function_choices_is : (xs ys : List Data) → function_choices (set (items xs)) (set (items ys)) ≡ Some (map (λ m. (m, ys)) xs)
function_choices_is xs ys = λ i. Some (map (λ m. (m, members-items ys i)) (members-items xs i))

same_all : (xs : List Data) (ys : List Data) → map (λ (c : Data × List Data). c.0) (map (λ m. (m, ys)) xs) ≡ xs
same_all [] ys = refl
same_all (x ∷ xs) ys = ap (λ zs. x ∷ zs) (same_all xs ys)

pub sorted_domain : (xs ys : List Data) (cs : List Choice) → IsSorted xs → map choice_of cs ≡ map (λ m. (m, ys)) xs → IsSorted (map key_in cs)
sorted_domain xs ys cs s e = subst IsSorted (sym (same_all xs ys) ∙ ap (map (λ (c : Data × List Data). c.0)) (sym e) ∙ map_map choice_of (λ (c : Data × List Data). c.0) cs) s

-- a function with another number of keys is none of them
pub unfit : (cs : Choices) (ps : List (Data × Data)) → (length cs ≡ length ps → ⊥) → graph_fits cs ps ≡ false
unfit [] [] h = absurd (h refl)
unfit [] (p ∷ ps) h = refl
unfit (c ∷ cs) [] h = refl
unfit (c ∷ cs) (p ∷ ps) h = ap (λ b. same_data p.0 c.0 && (contains p.1 c.1 && b)) (unfit cs ps (λ e. h (ap suc e))) ∙ go (same_data p.0 c.0) (contains p.1 c.1)
  where
    go : (s t : Bool) → (s && (t && false)) ≡ false
    go true true = refl
    go true false = refl
    go false t = refl

pub choices_push : (cs next : List Choice) (c : Choice) (k : Data) → next ≡ cs ++ c ∷ [] → key_in c ≡ k → map choice_of next ≡ map choice_of cs ++ (k, members_in c) ∷ []
choices_push cs next c k e f = ap (map choice_of) e ∙ map_push choice_of cs c ∙ ap (λ d. map choice_of cs ++ (d, members_in c) ∷ []) f

pub pairs_push : (ps next : List (Value × Value)) (p : Value × Value) (a b : Data) → next ≡ ps ++ p ∷ [] → data_of p.0 ≡ a → data_of p.1 ≡ b → map pair_of next ≡ map pair_of ps ++ (a, b) ∷ []
pairs_push ps next p a b e f g = ap (map pair_of) e ∙ map_push pair_of ps p ∙ (λ i. map pair_of ps ++ (f i, g i) ∷ [])

pub product_is : (xs ys : List Data) → product (set (items xs)) (set (items ys)) ≡ functions_over ((integer (pos 1), xs) ∷ (integer (pos 2), ys) ∷ [])
product_is xs ys = λ i. functions_over ((integer (pos 1), members-items xs i) ∷ (integer (pos 2), members-items ys i) ∷ [])

two : IsSorted (integer (pos 1) ∷ integer (pos 2) ∷ [])
unfolding IsStrictlySortedBy
two = ((refl, tt), (tt, tt))

pub sorted_two : (xs ys : List Data) (cs : List Choice) → map choice_of cs ≡ (integer (pos 1), xs) ∷ (integer (pos 2), ys) ∷ [] → IsSorted (map key_in cs)
sorted_two xs ys cs e = subst IsSorted (ap (map (λ (c : Data × List Data). c.0)) (sym e) ∙ map_map choice_of (λ (c : Data × List Data). c.0) cs) two
