-- The lists of one member from each of several sets, each by its number, and the functions that they make.
use Rattle.std.proofs.Common.{◌≡◌, ℕ, zero, suc, ◌+◌, ◌-◌, ◌*◌, ◌/◌, ◌%◌, ◌^◌, ◌<◌, ◌≤◌, min, leb, nat_lt, Bool, true, false, List, [], ◌∷◌, ◌++◌, length, map, get_or, drop, Option, Some, None, option_and_then, refl, ap, sym, ◌∙◌, subst, arith, append_assoc}
use Rattle.std.proofs.Math.Nat.{suc-mul, mod-lt, div-lt_iff_lt-mul, mul-div_cancel, mul_comm, le-mul_of_pos_right}
use Rattle.std.proofs.lemmas.Nat.{div-add-mod'}
use Rattle.std.proofs.lemmas.Bool.Decides.{nat_tests}
use Rattle.std.proofs.lemmas.List.{length-map, length-append, get_or_append_left, get_or-append-add, get_or-map}
use Rattle.pgo_base.specs.declared.value.Value.{Value}
use Rattle.pgo_base.specs.Data.{Data, boolean, keys}
use Rattle.pgo_base.specs.Sets.{IsSorted}
use Rattle.pgo_base.specs.View.{data_of}
use Rattle.pgo_model.specs.Operators.{each, set_from, function_from, choices, put, spread, where_few, most_members}
use Rattle.pgo_model.specs.FunctionSets.{choice_count, paired, functions_over}
use Rattle.pgo_sets.specs.declared.choice.Choice.{Choice}
use Rattle.pgo_sets.specs.Choices.{choice_of, key_in, members_in, choice_at, pairs_at, function_at}
use Rattle.pgo_sets.proofs.Each.{map_step, EachFrom, made_none, made_some, made_all}
use Rattle.pgo_sets.proofs.Upward.{many, few}

-- a count that stops at a greatest number, times another
pub saturate : (x r m : ℕ) → min (min x m * r) m ≡ min (x * r) m
saturate x r m = go (leb x m) refl
  where
    over : (s : ℕ) → m ≤ x → min (m * s) m ≡ min (x * s) m
    over zero h = ap (λ n. min n m) (let e : m * 0 ≡ x * 0 = omega arith in e)
    over (suc s) h =
        let a : m ≤ m * suc s = le-mul_of_pos_right m (omega arith) in
        let b : x ≤ x * suc s = le-mul_of_pos_right x (omega arith) in
        omega arith

    go : (t : Bool) → leb x m ≡ t → min (min x m * r) m ≡ min (x * r) m
    go true e = ap (λ n. min (n * r) m) (let l : x ≤ m = grind (arith, nat_tests) in let k : min x m ≡ x = omega arith in k)
    go false e = ap (λ n. min (n * r) m) (let l : m ≤ x = grind (arith, nat_tests) in let k : min x m ≡ m = omega arith in k) ∙ over r (grind (arith, nat_tests))

pub count_step : (cs : List Choice) (i : ℕ) (c : Choice) → i < length cs → c ≡ get_or cs i c → choice_count (map members_in (drop i cs)) ≡ length (members_in c) * choice_count (map members_in (drop (i + 1) cs))
count_step cs i c h e = ap choice_count (map_step members_in cs i c h e)

put_is : (m : Data) (cs : List (List Data)) → put m cs ≡ map (λ c. m ∷ c) cs
put_is m [] = refl
put_is m (c ∷ cs) = ap (λ ds. (m ∷ c) ∷ ds) (put_is m cs)

length_put : (m : Data) (cs : List (List Data)) → length (put m cs) ≡ length cs
length_put m cs = ap length (put_is m cs) ∙ length-map cs (λ c. m ∷ c)

length_spread : (ms : List Data) (cs : List (List Data)) → length (spread ms cs) ≡ length ms * length cs
length_spread [] cs = let e : 0 ≡ 0 * length cs = omega arith in e
length_spread (m ∷ ms) cs =
    length-append (put m cs) (spread ms cs) ∙ omega (arith, length_put m cs, length_spread ms cs, suc-mul (length ms) (length cs))

pub length_choices : (mss : List (List Data)) → length (choices mss) ≡ choice_count mss
length_choices [] = refl
length_choices (ms ∷ rest) = length_spread ms (choices rest) ∙ ap (λ n. length ms * n) (length_choices rest)

-- the list with a number, by the number of its first member and the number of the rest
spread_at : (ms : List Data) (cs : List (List Data)) (q r : ℕ) (x : Data) (d : List Data) → q < length ms → r < length cs → get_or (spread ms cs) (q * length cs + r) d ≡ get_or ms q x ∷ get_or cs r d
spread_at [] cs q r x d h l = absurd (omega arith)
spread_at (m ∷ ms) cs zero r x d h l =
    ap (λ n. get_or (put m cs ++ spread ms cs) n d) (let e : 0 * length cs + r ≡ r = omega arith in e)
    ∙ get_or_append_left (put m cs) (spread ms cs) d r (omega (arith, length_put m cs))
    ∙ ap (λ ds. get_or ds r d) (put_is m cs) ∙ get_or-map (λ c. m ∷ c) cs r d d l
spread_at (m ∷ ms) cs (suc q) r x d h l =
    ap (λ n. get_or (put m cs ++ spread ms cs) n d) (let e : suc q * length cs + r ≡ length (put m cs) + (q * length cs + r) = omega (arith, length_put m cs, suc-mul q (length cs)) in e)
    ∙ get_or-append-add (put m cs) (spread ms cs) (q * length cs + r) d
    ∙ spread_at ms cs q r x d (omega arith) l

-- what follows for a number below a product
abbrev pub Parts : ℕ → ℕ → ℕ → ℕ → Type 0
Parts block rest n r = (0 < n) × (0 < r) × (block / n ≡ r) × (rest / r < n) × (rest % r < r)

pub parts : (block rest n r : ℕ) → block ≡ n * r → rest < block → Parts block rest n r
parts block rest zero r e l = absurd (let k : 0 * r ≡ 0 = omega arith in omega arith)
parts block rest (suc n) zero e l = absurd (let k : suc n * 0 ≡ 0 = omega arith in omega arith)
parts block rest (suc n) (suc r) e l = (
  omega arith,
  omega arith,
  ap (λ b. b / suc n) (e ∙ mul_comm (suc n) (suc r)) ∙ mul-div_cancel (suc r) {n = suc n} (omega arith),
  (div-lt_iff_lt-mul {k = suc r} {x = rest} {y = suc n} (omega arith)).1 (omega arith),
  mod-lt rest {m = suc r} (omega arith),
)

pub choices_at : (mss : List (List Data)) (k : ℕ) (d : List Data) → k < choice_count mss → get_or (choices mss) k d ≡ choice_at k mss
choices_at [] zero d h = refl
choices_at [] (suc k) d h = absurd (omega arith)
choices_at (ms ∷ rest) k d h =
    let r = choice_count rest in
    let p = parts (length ms * r) k (length ms) r refl h in
    let long : length (choices rest) ≡ r = length_choices rest in
    ap (λ n. get_or (spread ms (choices rest)) n d) (let e : k ≡ (k / r) * length (choices rest) + k % r = sym (div-add-mod' k r) ∙ ap (λ n. (k / r) * n + k % r) (sym long) in e)
    ∙ spread_at ms (choices rest) (k / r) (k % r) (boolean false) d p.3 (omega (arith, p.4))
    ∙ ap (λ vs. get_or ms (k / r) (boolean false) ∷ vs) (choices_at rest (k % r) d p.4)

-- the pairs that are made of a function, and those that are left to be made
abbrev pub PairsFrom : ℕ → List Choice → List (Data × Data) → ℕ → ℕ → ℕ → Type 0
PairsFrom number cs done block rest i =
    (block ≡ choice_count (map members_in (drop i cs))) × (rest < block) × (pairs_at number cs ≡ done ++ paired (map choice_of (drop i cs)) (choice_at rest (map members_in (drop i cs))))

-- at the next choice
pub parts_at : (number : ℕ) (cs : List Choice) (done : List (Data × Data)) (block rest i : ℕ) (c : Choice) (ws : List Value) → PairsFrom number cs done block rest i → i < length cs → c ≡ get_or cs i c → map data_of ws ≡ members_in c → Parts block rest (length ws) (choice_count (map members_in (drop (i + 1) cs)))
parts_at number cs done block rest i c ws k h e m =
    let n : length (members_in c) ≡ length ws = ap length (sym m) ∙ length-map ws data_of in
    parts block rest (length ws) _ (k.0 ∙ count_step cs i c h e ∙ ap (λ n. n * choice_count (map members_in (drop (i + 1) cs))) n) k.1

pub pairs_more : (number : ℕ) (cs : List Choice) (done next : List (Data × Data)) (block rest i : ℕ) (c : Choice) (ws : List Value) (w : Value) → PairsFrom number cs done block rest i → i < length cs → c ≡ get_or cs i c → map data_of ws ≡ members_in c → w ≡ get_or ws (rest / (block / length ws)) w → next ≡ done ++ (key_in c, data_of w) ∷ [] → PairsFrom number cs next (block / length ws) (rest % (block / length ws)) (i + 1)
pairs_more number cs done next block rest i c ws w k h e m g n =
    let p = parts_at number cs done block rest i c ws k h e m in
    let r = choice_count (map members_in (drop (i + 1) cs)) in
    let later = map choice_of (drop (i + 1) cs) in
    let sets = map members_in (drop (i + 1) cs) in
    let quotient : rest / (block / length ws) ≡ rest / r = ap (λ b. rest / b) p.2 in
    let remainder : rest % (block / length ws) ≡ rest % r = ap (λ b. rest % b) p.2 in
    let value : get_or (members_in c) (rest / r) (boolean false) ≡ data_of w =
    ap (λ xs. get_or xs (rest / r) (boolean false)) (sym m) ∙ get_or-map data_of ws (rest / r) w (boolean false) p.3 ∙ ap data_of (ap (λ n. get_or ws n w) (sym quotient) ∙ sym g) in (
      p.2,
      subst (λ b. rest % b < b) (sym p.2) p.4,
      k.2 ∙ (λ j. done ++ paired (map_step choice_of cs i c h e j) (choice_at rest (map_step members_in cs i c h e j)))
          ∙ ap (λ v. done ++ (key_in c, v) ∷ paired later (choice_at (rest % r) sets)) value
          ∙ sym (append_assoc done ((key_in c, data_of w) ∷ []) _)
          ∙ (λ j. sym n j ++ paired later (choice_at (sym remainder j) sets)),
    )

-- one function with a number
abbrev pub made : List Choice → List Data → Option Data
made cs vs = function_from (paired (map choice_of cs) vs)

abbrev pub lists : List Choice → List (List Data)
lists cs = choices (map members_in cs)

second_map : (cs : List Choice) → map (λ c. c.1) (map choice_of cs) ≡ map members_in cs
second_map [] = refl
second_map (c ∷ cs) = ap (λ ms. members_in c ∷ ms) (second_map cs)

over_is : (cs : List Choice) → functions_over (map choice_of cs) ≡ where_few (choice_count (map members_in cs)) (λ _. option_and_then set_from (each (made cs) (lists cs)))
over_is cs = ap (λ mss. where_few (choice_count mss) (λ _. option_and_then set_from (each (made cs) (choices mss)))) (second_map cs)

-- of too many lists there is no set
pub over_many : (cs : List Choice) (n : ℕ) → n ≡ min (choice_count (map members_in cs)) (2 ^ 64 - 1) → most_members < n → functions_over (map choice_of cs) ≡ None
over_many cs n e h =
    let more : nat_lt most_members (choice_count (map members_in cs)) ≡ true = (let k : most_members < choice_count (map members_in cs) = omega arith in grind (arith, nat_tests)) in
    over_is cs ∙ many (choice_count (map members_in cs)) (λ _. option_and_then set_from (each (made cs) (lists cs))) more

pub exact_count : (cs : List Choice) (n : ℕ) → n ≡ min (choice_count (map members_in cs)) (2 ^ 64 - 1) → n ≤ most_members → n ≡ choice_count (map members_in cs)
exact_count cs n e h = omega arith

over_few : (cs : List Choice) (n : ℕ) → n ≡ choice_count (map members_in cs) → n ≤ most_members → functions_over (map choice_of cs) ≡ option_and_then set_from (each (made cs) (lists cs))
over_few cs n e h =
    let less : nat_lt most_members (choice_count (map members_in cs)) ≡ false = (let k : choice_count (map members_in cs) ≤ most_members = omega arith in grind (arith, nat_tests)) in
    over_is cs ∙ few (choice_count (map members_in cs)) (λ _. option_and_then set_from (each (made cs) (lists cs))) less

number_at : (cs : List Choice) (k : ℕ) → k < choice_count (map members_in cs) → choice_at k (map members_in cs) ≡ get_or (lists cs) k (choice_at k (map members_in cs))
number_at cs k h = sym (choices_at (map members_in cs) k (choice_at k (map members_in cs)) h)

-- one function more is made, or is none
pub over_none : (cs : List Choice) (n : ℕ) (done : List Data) (k : ℕ) → n ≡ choice_count (map members_in cs) → n ≤ most_members → EachFrom (made cs) (lists cs) done k → k < n → function_at k cs ≡ None → functions_over (map choice_of cs) ≡ None
over_none cs n done k c h e l s =
    over_few cs n c h ∙ ap (option_and_then set_from) (made_none (made cs) (lists cs) done k (choice_at k (map members_in cs)) e (omega (arith, length_choices (map members_in cs))) (number_at cs k (omega arith)) s)

pub over_some : (cs : List Choice) (n : ℕ) (done next : List Data) (k : ℕ) (b : Data) → n ≡ choice_count (map members_in cs) → EachFrom (made cs) (lists cs) done k → k < n → function_at k cs ≡ Some b → next ≡ done ++ b ∷ [] → EachFrom (made cs) (lists cs) next (k + 1)
over_some cs n done next k b c e l s d =
    made_some (made cs) (lists cs) done next k (choice_at k (map members_in cs)) b e (omega (arith, length_choices (map members_in cs))) (number_at cs k (omega arith)) s d

pub over_all : (cs : List Choice) (n : ℕ) (done : List Data) (k : ℕ) → n ≡ choice_count (map members_in cs) → n ≤ most_members → EachFrom (made cs) (lists cs) done k → n ≤ k → functions_over (map choice_of cs) ≡ set_from done
over_all cs n done k c h e l =
    over_few cs n c h ∙ ap (option_and_then set_from) (made_all (made cs) (lists cs) done k e (omega (arith, length_choices (map members_in cs))))

-- the keys of a function with a number
pairs_keys : (cs : List Choice) (k : ℕ) → keys (pairs_at k cs) ≡ map key_in cs
pairs_keys [] k = refl
pairs_keys (c ∷ cs) k = ap (λ ks. key_in c ∷ ks) (pairs_keys cs (k % choice_count (map members_in cs)))

pub sorted_pairs_at : (cs : List Choice) (k : ℕ) → IsSorted (map key_in cs) → IsSorted (keys (pairs_at k cs))
sorted_pairs_at cs k s = subst IsSorted (sym (pairs_keys cs k)) s
