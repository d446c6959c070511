-- The sets of some members, each by its number.
use Rattle.std.proofs.Common.{◌≡◌, ℕ, zero, suc, ◌+◌, ◌-◌, ◌/◌, ◌^◌, ◌<◌, ◌≤◌, ltb, nat_lt, Bool, true, false, if◌then◌else◌, List, [], ◌∷◌, ◌++◌, length, map, get_or, drop, Some, None, option_and_then, refl, ap, sym, ◌∙◌, arith, append_assoc}
use Rattle.std.proofs.Math.Nat.{pow-suc}
use Rattle.std.proofs.lemmas.Nat.{pow_below}
use Rattle.std.proofs.lemmas.Bool.Decides.{nat_tests}
use Rattle.std.proofs.lemmas.List.{length-map, length-drop, length-append, get_or_append_left, get_or-map}
use Rattle.std.proofs.Math.Seq.{get_or-append_right}
use Rattle.pgo_base.specs.declared.value.Value.{Value}
use Rattle.pgo_base.specs.Data.{Data, set, items, members-items}
use Rattle.pgo_base.specs.View.{data_of}
use Rattle.pgo_model.specs.Operators.{each, set_from, power, sublists, most_members}
use Rattle.pgo_sets.specs.Chosen.{subset_at, powers}
use Rattle.pgo_sets.proofs.Each.{map_step, EachFrom, made_none, made_some, made_all}
use Rattle.pgo_sets.proofs.Upward.{many, few}

pub power_is : (ms : List Data) → power (set (items ms)) ≡ powers ms
power_is ms = ap powers (members-items ms)

double : (n : ℕ) → 2 ^ suc n ≡ 2 ^ n + 2 ^ n
double n = omega (arith, pow-suc 2 n)

pub length_sublists : (ms : List Data) → length (sublists ms) ≡ 2 ^ length ms
length_sublists [] = refl
length_sublists (m ∷ ms) =
    length-append (map (λ xs. m ∷ xs) (sublists ms)) (sublists ms)
    ∙ omega (arith, length-map (sublists ms) (λ xs. m ∷ xs), length_sublists ms, double (length ms))

-- the list with a number
pub sublist_at : (ms : List Data) (k : ℕ) (d : List Data) → k < 2 ^ length ms → get_or (sublists ms) k d ≡ subset_at k ms
sublist_at [] zero d h = refl
sublist_at [] (suc k) d h = absurd (omega arith)
sublist_at (m ∷ ms) k d h = go (nat_lt k (2 ^ length ms)) refl (sublist_at ms k) (sublist_at ms (k - 2 ^ length ms) d)
  where
    rest : List (List Data)
    rest = sublists ms

    go : (t : Bool) → nat_lt k (2 ^ length ms) ≡ t → ((e : List Data) → k < 2 ^ length ms → get_or rest k e ≡ subset_at k ms) → (k - 2 ^ length ms < 2 ^ length ms → get_or rest (k - 2 ^ length ms) d ≡ subset_at (k - 2 ^ length ms) ms) → get_or (map (λ xs. m ∷ xs) rest ++ rest) k d ≡ (if t then m ∷ subset_at k ms else subset_at (k - 2 ^ length ms) ms)
    go true e f g =
        let below : k < 2 ^ length ms = grind (arith, nat_tests) in
        let inside : k < length rest = omega (arith, length_sublists ms) in
        get_or_append_left (map (λ xs. m ∷ xs) rest) rest d k (omega (arith, length-map rest (λ xs. m ∷ xs)))
        ∙ get_or-map (λ xs. m ∷ xs) rest k [] d inside ∙ ap (λ xs. m ∷ xs) (f [] below)
    go false e f g =
        let above : 2 ^ length ms ≤ k = grind (arith, nat_tests) in
        let long : length (map (λ xs. m ∷ xs) rest) ≡ 2 ^ length ms = length-map rest (λ xs. m ∷ xs) ∙ length_sublists ms in
        get_or-append_right (map (λ xs. m ∷ xs) rest) rest k d (omega arith)
        ∙ ap (λ n. get_or rest (k - n) d) long ∙ g (omega (arith, double (length ms)))

-- what is chosen, and what is left to choose from
abbrev pub ChosenFrom : ℕ → List Value → List Data → ℕ → ℕ → ℕ → Type 0
ChosenFrom number vs some rest half i = (half ≡ 2 ^ length (drop i vs)) × (subset_at number (map data_of vs) ≡ some ++ subset_at rest (map data_of (drop i vs)))

halved : (vs : List Value) (i half : ℕ) (m : Value) → i < length vs → half ≡ 2 ^ length (drop i vs) → half / 2 ≡ 2 ^ length (drop (i + 1) vs)
halved vs i half m h e =
    let longer : length (drop i vs) ≡ suc (length (drop (i + 1) vs)) = omega (arith, length-drop i vs, length-drop (i + 1) vs) in
    let twice : half ≡ 2 ^ length (drop (i + 1) vs) + 2 ^ length (drop (i + 1) vs) = e ∙ ap (λ n. 2 ^ n) longer ∙ double (length (drop (i + 1) vs)) in
    omega arith

chosen_step : (vs : List Value) (i rest : ℕ) (m : Value) (t : Bool) → i < length vs → m ≡ get_or vs i m → nat_lt rest (2 ^ length (drop (i + 1) vs)) ≡ t → subset_at rest (map data_of (drop i vs)) ≡ (if t then data_of m ∷ subset_at rest (map data_of (drop (i + 1) vs)) else subset_at (rest - 2 ^ length (drop (i + 1) vs)) (map data_of (drop (i + 1) vs)))
chosen_step vs i rest m t h e l =
    let ms = map data_of (drop (i + 1) vs) in
    ap (subset_at rest) (map_step data_of vs i m h e)
    ∙ ap (λ n. if nat_lt rest (2 ^ n) then data_of m ∷ subset_at rest ms else subset_at (rest - 2 ^ n) ms) (length-map (drop (i + 1) vs) data_of)
    ∙ ap (λ b. if b then data_of m ∷ subset_at rest ms else subset_at (rest - 2 ^ length (drop (i + 1) vs)) ms) l

-- one member more is in it
pub chosen_in : (number : ℕ) (vs : List Value) (some next : List Data) (rest half i : ℕ) (m : Value) → ChosenFrom number vs some rest half i → i < length vs → m ≡ get_or vs i m → rest < half / 2 → next ≡ some ++ data_of m ∷ [] → ChosenFrom number vs next rest (half / 2) (i + 1)
chosen_in number vs some next rest half i m k h e l n =
    let less = halved vs i half m h k.0 in
    let inside : nat_lt rest (2 ^ length (drop (i + 1) vs)) ≡ true = grind (arith, nat_tests) in
    (less, k.1 ∙ ap (λ xs. some ++ xs) (chosen_step vs i rest m true h e inside) ∙ sym (append_assoc some (data_of m ∷ []) _) ∙ ap (λ xs. xs ++ subset_at rest (map data_of (drop (i + 1) vs))) (sym n))

-- one member more is not
pub chosen_out : (number : ℕ) (vs : List Value) (some : List Data) (rest next half i : ℕ) (m : Value) → ChosenFrom number vs some rest half i → i < length vs → m ≡ get_or vs i m → half / 2 ≤ rest → next ≡ rest - half / 2 → ChosenFrom number vs some next (half / 2) (i + 1)
chosen_out number vs some rest next half i m k h e l n =
    let less = halved vs i half m h k.0 in
    let outside : nat_lt rest (2 ^ length (drop (i + 1) vs)) ≡ false = grind (arith, nat_tests) in
    let same : rest - 2 ^ length (drop (i + 1) vs) ≡ next = omega arith in
    (less, k.1 ∙ ap (λ xs. some ++ xs) (chosen_step vs i rest m false h e outside ∙ ap (λ r. subset_at r (map data_of (drop (i + 1) vs))) same))

-- of more than 16 members there are too many sets
pub powers_many : (ms : List Data) → 16 < length ms → powers ms ≡ None
powers_many ms h =
    let more : nat_lt most_members (2 ^ length ms) ≡ true = (let l = pow_below 16 (length ms) h in grind (arith, nat_tests)) in
    many (2 ^ length ms) (λ _. option_and_then set_from (each set_from (sublists ms))) more

pub powers_few : (ms : List Data) → length ms ≤ 16 → powers ms ≡ option_and_then set_from (each set_from (sublists ms))
powers_few ms h =
    few (2 ^ length ms) (λ _. option_and_then set_from (each set_from (sublists ms))) (go (ltb (length ms) 16) refl)
  where
    go : (t : Bool) → ltb (length ms) 16 ≡ t → nat_lt most_members (2 ^ length ms) ≡ false
    go true e = let l = pow_below (length ms) 16 (grind (arith, nat_tests)) in grind (arith, nat_tests)
    go false e = let same : length ms ≡ 16 = grind (arith, nat_tests) in ap (λ n. nat_lt most_members (2 ^ n)) same

number_at : (vs : List Value) (k : ℕ) → k < 2 ^ length vs → subset_at k (map data_of vs) ≡ get_or (sublists (map data_of vs)) k (subset_at k (map data_of vs))
number_at vs k h = sym (sublist_at (map data_of vs) k (subset_at k (map data_of vs)) (omega (arith, ap (λ n. 2 ^ n) (length-map vs data_of))))

-- one set more is made, or is none
pub powers_none : (vs : List Value) (done : List Data) (k : ℕ) → length vs ≤ 16 → EachFrom set_from (sublists (map data_of vs)) done k → k < 2 ^ length vs → set_from (subset_at k (map data_of vs)) ≡ None → powers (map data_of vs) ≡ None
powers_none vs done k h e l n =
    let ms = map data_of vs in
    powers_few ms (omega (arith, length-map vs data_of))
    ∙ ap (option_and_then set_from) (made_none set_from (sublists ms) done k (subset_at k ms) e (omega (arith, length_sublists ms, ap (λ n. 2 ^ n) (length-map vs data_of))) (number_at vs k l) n)

pub powers_some : (vs : List Value) (done next : List Data) (k : ℕ) (b : Data) → EachFrom set_from (sublists (map data_of vs)) done k → k < 2 ^ length vs → set_from (subset_at k (map data_of vs)) ≡ Some b → next ≡ done ++ b ∷ [] → EachFrom set_from (sublists (map data_of vs)) next (k + 1)
powers_some vs done next k b e l s n =
    let ms = map data_of vs in
    made_some set_from (sublists ms) done next k (subset_at k ms) b e (omega (arith, length_sublists ms, ap (λ n. 2 ^ n) (length-map vs data_of))) (number_at vs k l) s n

pub powers_all : (vs : List Value) (done : List Data) (k : ℕ) → length vs ≤ 16 → EachFrom set_from (sublists (map data_of vs)) done k → 2 ^ length vs ≤ k → powers (map data_of vs) ≡ set_from done
powers_all vs done k h e l =
    let ms = map data_of vs in
    powers_few ms (omega (arith, length-map vs data_of))
    ∙ ap (option_and_then set_from) (made_all set_from (sublists ms) done k e (omega (arith, length_sublists ms, ap (λ n. 2 ^ n) (length-map vs data_of))))
