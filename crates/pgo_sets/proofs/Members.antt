-- The operators on sets, by their members.
use Rattle.std.proofs.Common.{◌≡◌, ℕ, ◌≤◌, ◌+◌, ◌<◌, List, ◌++◌, length, map, get_or, drop, filter, Some, None, option_map, option_and_then, not, ap, sym, ◌∙◌}
use Rattle.std.proofs.lemmas.List.{append-nil}
use Rattle.pgo_base.specs.declared.value.Value.{Value}
use Rattle.pgo_base.specs.Data.{Data, set, items, members-items}
use Rattle.pgo_base.specs.View.{data_of}
use Rattle.pgo_model.specs.Operators.{set_from, contains, union, intersect, minus, flatten, each, members_of, joined}
use Rattle.pgo_sets.proofs.Each.{map_end, each_none, each_some, joined_more, then_map}

pub union_is : (xs ys : List Data) → union (set (items xs)) (set (items ys)) ≡ set_from (xs ++ ys)
union_is xs ys = λ i. set_from (members-items xs i ++ members-items ys i)

pub intersect_is : (xs ys : List Data) → intersect (set (items xs)) (set (items ys)) ≡ set_from (filter (λ m. contains m ys) xs)
intersect_is xs ys = λ i. set_from (filter (λ m. contains m (members-items ys i)) (members-items xs i))

pub minus_is : (xs ys : List Data) → minus (set (items xs)) (set (items ys)) ≡ set_from (filter (λ m. not (contains m ys)) xs)
minus_is xs ys = λ i. set_from (filter (λ m. not (contains m (members-items ys i))) (members-items xs i))

pub flatten_is : (xs : List Data) → flatten (set (items xs)) ≡ option_and_then set_from (option_map joined (each members_of xs))
flatten_is xs = ap (λ ms. option_and_then (λ mss. set_from (joined mss)) (each members_of ms)) (members-items xs) ∙ then_map joined set_from (each members_of xs)

-- what is joined, and what is left of it
abbrev pub JoinedFrom : List Value → List Data → ℕ → Type 0
JoinedFrom vs done i = option_map joined (each members_of (map data_of vs)) ≡ option_map (λ mss. done ++ joined mss) (each members_of (map data_of (drop i vs)))

pub joined_none : (vs : List Value) (done : List Data) (i : ℕ) (v : Value) → JoinedFrom vs done i → i < length vs → v ≡ get_or vs i v → members_of (data_of v) ≡ None → option_map joined (each members_of (map data_of vs)) ≡ None
joined_none vs done i v k h e n = k ∙ ap (option_map (λ mss. done ++ joined mss)) (each_none members_of data_of vs i v h e n)

pub joined_some : (vs : List Value) (done next ms : List Data) (i : ℕ) (v : Value) → JoinedFrom vs done i → i < length vs → v ≡ get_or vs i v → members_of (data_of v) ≡ Some ms → next ≡ done ++ ms → JoinedFrom vs next (i + 1)
joined_some vs done next ms i v k h e s n =
    k ∙ ap (option_map (λ mss. done ++ joined mss)) (each_some members_of data_of vs i v ms h e s)
    ∙ joined_more done ms (each members_of (map data_of (drop (i + 1) vs)))
    ∙ ap (λ d. option_map (λ mss. d ++ joined mss) (each members_of (map data_of (drop (i + 1) vs)))) (sym n)

pub joined_all : (vs : List Value) (done : List Data) (i : ℕ) → JoinedFrom vs done i → length vs ≤ i → option_map joined (each members_of (map data_of vs)) ≡ Some done
joined_all vs done i k h = k ∙ ap (λ xs. option_map (λ mss. done ++ joined mss) (each members_of xs)) (map_end data_of vs i h) ∙ ap Some (append-nil done)
