-- Pairs that are gone over by their places, and copied one behind the other.
use Rattle.std.proofs.Common.{◌≡◌, ℕ, zero, suc, ◌<◌, ◌≤◌, ◌+◌, ◌-◌, pos, List, [], ◌∷◌, ◌++◌, length, map, get_or, take, drop, Some, None, refl, ap, sym, ◌∙◌, arith, add-one, append_assoc}
use Rattle.std.proofs.Math.Seq.{take-suc}
use Rattle.std.proofs.lemmas.List.{length-map, length-drop, length-append, length-take-le, map_push, append-nil, drop_all, take_all}
use Rattle.std.proofs.Math.ListN.{get_or-map}
use Rattle.std.proofs.lemmas.Bool.Decides.{nat_tests}
use Rattle.pgo_base.specs.declared.value.Value.{Value}
use Rattle.pgo_base.specs.Data.{Data, integer}
use Rattle.pgo_base.specs.View.{data_of, pair_of, key_of, value_of}
use Rattle.pgo_model.specs.Operators.{sequence, sequence_at}
use Rattle.pgo_model.specs.Sequences.{first_element, later_elements}
use Rattle.pgo_sets.proofs.Each.{map_step}
use Rattle.pgo_sets.proofs.Numbered.{sequence_push, length_sequence, long_sequence}
use Rattle.pgo_sets.proofs.Paired.{pairs_push}

-- one more from the front
pub take_next : {A : Type 0} (xs : List A) (i : ℕ) (x : A) → i < length xs → x ≡ get_or xs i x → take (i + 1) xs ≡ take i xs ++ x ∷ []
take_next xs i x h e = ap (λ n. take n xs) (add-one i) ∙ take-suc xs i x h ∙ ap (λ y. take i xs ++ y ∷ []) (sym e)

-- copies of keys: one more
pub keys_copied : (ks next : List Value) (ps : List (Value × Value)) (i : ℕ) (p : Value × Value) (k : Value) → map data_of ks ≡ map key_of (take i ps) → i < length ps → p ≡ get_or ps i p → next ≡ ks ++ k ∷ [] → k ≡ p.0 → map data_of next ≡ map key_of (take (i + 1) ps)
keys_copied ks next ps i p k w h g e f =
    ap (map data_of) e ∙ map_push data_of ks k ∙ (λ j. w j ++ data_of (f j) ∷ [])
    ∙ sym (map_push key_of (take i ps) p) ∙ ap (map key_of) (sym (take_next ps i p h g))

-- copies of pairs behind others: one more
pub pairs_copied : (all next ps : List (Value × Value)) (w : List (Data × Data)) (i : ℕ) (p : Value × Value) (k v : Value) → map pair_of all ++ map pair_of (drop i ps) ≡ w → i < length ps → p ≡ get_or ps i p → next ≡ all ++ (k, v) ∷ [] → k ≡ p.0 → v ≡ p.1 → map pair_of next ++ map pair_of (drop (i + 1) ps) ≡ w
pairs_copied all next ps w i p k v a h g e f d =
    ap (λ xs. xs ++ map pair_of (drop (i + 1) ps)) (pairs_push all next (k, v) (data_of p.0) (data_of p.1) e (ap data_of f) (ap data_of d))
    ∙ append_assoc (map pair_of all) (pair_of p ∷ []) (map pair_of (drop (i + 1) ps))
    ∙ ap (λ xs. map pair_of all ++ xs) (sym (map_step pair_of ps i p h g))
    ∙ a

pub pairs_all_copied : (all ps : List (Value × Value)) (w : List (Data × Data)) (i : ℕ) → map pair_of all ++ map pair_of (drop i ps) ≡ w → length ps ≤ i → map pair_of all ≡ w
pairs_all_copied all ps w i a h = sym (append-nil (map pair_of all)) ∙ ap (λ xs. map pair_of all ++ map pair_of xs) (sym (drop_all i ps h)) ∙ a

-- so many elements from a place on, and one more
part_at : (ps : List (Value × Value)) (from i n : ℕ) (p : Value × Value) → n ≡ from + i → n < length ps → p ≡ get_or ps n p → take (suc i) (drop from (map value_of ps)) ≡ take i (drop from (map value_of ps)) ++ value_of p ∷ []
part_at [] from i n p z h e = absurd (omega arith)
part_at (q ∷ ps) zero i n p z h e =
    let same : n ≡ i = omega arith in
    take-suc (map value_of (q ∷ ps)) i (value_of p) (let l : i < length (q ∷ ps) = omega arith in omega (arith, l, length-map (q ∷ ps) value_of))
    ∙ ap (λ x. take i (map value_of (q ∷ ps)) ++ x ∷ []) (get_or-map value_of (q ∷ ps) i p ∙ ap (λ m. value_of (get_or (q ∷ ps) m p)) (sym same) ∙ ap value_of (sym e))
part_at (q ∷ ps) (suc from) i zero p z h e = absurd (omega arith)
part_at (q ∷ ps) (suc from) i (suc n) p z h e = part_at ps from i n p (omega arith) (omega arith) e

part_more : (ps : List (Value × Value)) (from i : ℕ) (p : Value × Value) → from + i < length ps → p ≡ get_or ps (from + i) p → take (i + 1) (drop from (map value_of ps)) ≡ take i (drop from (map value_of ps)) ++ value_of p ∷ []
part_more ps from i p h e = ap (λ n. take n (drop from (map value_of ps))) (add-one i) ∙ part_at ps from i (from + i) p refl h e

-- an element more has its number
pub next_numbered : (all next ps : List (Value × Value)) (vs : List Data) (from i : ℕ) (p : Value × Value) (k v : Value) (n : ℕ) → map pair_of all ≡ sequence_at 1 (vs ++ take i (drop from (map value_of ps))) → from + i < length ps → p ≡ get_or ps (from + i) p → next ≡ all ++ (k, v) ∷ [] → data_of k ≡ integer (pos (suc n)) → n ≡ length all → v ≡ p.1 → map pair_of next ≡ sequence_at 1 (vs ++ take (i + 1) (drop from (map value_of ps)))
next_numbered all next ps vs from i p k v n w h g e d l f =
    let xs = vs ++ take i (drop from (map value_of ps)) in
    let count : n ≡ length xs = l ∙ sym (length-map all pair_of) ∙ ap length w ∙ length_sequence 1 xs in
    pairs_push all next (k, v) (integer (pos (suc n))) (value_of p) e d (ap data_of f)
    ∙ ap (λ qs. qs ++ (integer (pos (suc n)), value_of p) ∷ []) w
    ∙ sym (sequence_push 1 xs (value_of p) (suc n) (omega (arith, count)))
    ∙ ap (sequence_at 1) (append_assoc vs (take i (drop from (map value_of ps))) (value_of p ∷ []) ∙ ap (λ ys. vs ++ ys) (sym (part_more ps from i p h g)))

-- of too many elements no sequence is made
pub long_part : (xs : List Data) (from count : ℕ) → from + count ≤ length xs → 65536 < count → sequence (take count (drop from xs)) ≡ None
long_part xs from count h l =
    let few : count ≤ length (drop from xs) = omega (arith, length-drop from xs, h) in
    long_sequence (take count (drop from xs)) count (sym (length-take-le count (drop from xs) few)) (grind (arith, nat_tests))

pub long_both : (ls rs : List (Value × Value)) → 65536 < length ls + length rs → sequence (map value_of ls ++ map value_of rs) ≡ None
long_both ls rs h =
    let count : length ls + length rs ≡ length (map value_of ls ++ map value_of rs) = omega (arith, length-append (map value_of ls) (map value_of rs), length-map ls value_of, length-map rs value_of) in
    long_sequence (map value_of ls ++ map value_of rs) (length ls + length rs) count (grind (arith, nat_tests))

-- the first of the elements, and those behind it
pub no_first : (ps : List (Value × Value)) → length ps ≡ 0 → first_element (map value_of ps) ≡ None
no_first [] h = refl
no_first (p ∷ ps) h = absurd (omega arith)

pub first_is : (ps : List (Value × Value)) (p : Value × Value) → 0 < length ps → p ≡ get_or ps 0 p → first_element (map value_of ps) ≡ Some (value_of p)
first_is [] p h e = absurd (omega arith)
first_is (q ∷ ps) p h e = ap (λ (r : Value × Value). Some (value_of r)) (sym e)

pub no_later : (ps : List (Value × Value)) → length ps ≡ 0 → later_elements (map value_of ps) ≡ None
no_later [] h = refl
no_later (p ∷ ps) h = absurd (omega arith)

pub later_is : (ps : List (Value × Value)) (n : ℕ) → n ≡ length ps → 0 < n → later_elements (map value_of ps) ≡ sequence (take (n - 1) (drop 1 (map value_of ps)))
later_is [] n e h = absurd (omega arith)
later_is (p ∷ ps) n e h = ap sequence (sym (take_all (n - 1) (map value_of ps) (omega (arith, length-map ps value_of))))

-- all of them
pub whole : (ps : List (Value × Value)) (n : ℕ) → n ≡ length ps → take n (drop 0 (map value_of ps)) ≡ map value_of ps
whole ps n e = take_all n (map value_of ps) (omega (arith, length-map ps value_of))
