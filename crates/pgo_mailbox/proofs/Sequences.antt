-- Sequences of messages.
use Rattle.std.proofs.Common.{◌≡◌, ◌<◌, ◌≤◌, ℕ, suc, Bool, true, false, List, [], ◌∷◌, length, map, Option, Some, None, option_map, refl, sym, ap, ◌∙◌, subst, arith}
use Rattle.std.specs.Prelude.{if◌then◌else◌, nat_lt, max, not, pos}
use Rattle.std.proofs.lemmas.Bool.Decides.{nat_tests}
use Rattle.std.proofs.lemmas.Option.{same_Some}
use Rattle.pgo_base.specs.Data.{Data, boolean, integer, string, model, set, function, Pairs, no_pairs, pair, pairs, graph, graph-pairs}
use Rattle.pgo_base.specs.Size.{depth, pairs_depth, members_size}
use Rattle.pgo_base.specs.View.{pair_of, value_of}
use Rattle.pgo_base.specs.declared.value.Value.{Value}
use Rattle.pgo_bound.specs.Lookups.{same_of, same_itself}
use Rattle.pgo_model.specs.Log.{differs}
use Rattle.pgo_model.specs.Operators.{same_data, sequence, sequence_at, built, if_few}
use Rattle.pgo_model.specs.Sequences.{elements, elements_from}
use Rattle.pgo_sets.proofs.Numbered.{sorted_sequence, length_sequence}
use Rattle.pgo_sets.proofs.Ordered.{pairs_stay}
use Rattle.pgo_mailbox.specs.Holdable.{Holdable, IsShort, pairs_in}
use Rattle.pgo_mailbox.specs.Queues.{sequence_data, Fits}

-- ---- elements
elements_at : (n : ℕ) (xs : List Data) → elements_from n (sequence_at n xs) ≡ Some xs
elements_at n [] = refl
elements_at n (x ∷ xs) =
    ap (λ b. if b then option_map (λ vs. x ∷ vs) (elements_from (suc n) (sequence_at (suc n) xs)) else None) (same_itself (integer (pos n)))
    ∙ ap (λ o. option_map (λ vs. x ∷ vs) o) (elements_at (suc n) xs)

pub elements_of : (xs : List Data) → elements (sequence_data xs) ≡ Some xs
elements_of xs = ap (elements_from 1) (graph-pairs (sequence_at 1 xs)) ∙ elements_at 1 xs

-- a graph with numbers as its keys is that of a sequence
graph_is : (n : ℕ) (ps : Pairs) (xs : List Data) → elements_from n (graph ps) ≡ Some xs → ps ≡ pairs (sequence_at n xs)
graph_is n no_pairs xs h = ap (λ ys. pairs (sequence_at n ys)) (same_Some [] xs h)
graph_is n (pair k v ps) xs h = go (same_data k (integer (pos n))) refl h (λ ys e. graph_is (suc n) ps ys e)
  where
    more : (o : Option (List Data)) → elements_from (suc n) (graph ps) ≡ o → option_map (λ vs. v ∷ vs) o ≡ Some xs → k ≡ integer (pos n)
        → ((ys : List Data) → elements_from (suc n) (graph ps) ≡ Some ys → ps ≡ pairs (sequence_at (suc n) ys)) → pair k v ps ≡ pairs (sequence_at n xs)
    more None e g s r = absurd (cc)
    more (Some ys) e g s r = (λ i. pair (s i) v (r ys e i)) ∙ ap (λ zs. pairs (sequence_at n zs)) (same_Some (v ∷ ys) xs g)

    go : (b : Bool) → same_data k (integer (pos n)) ≡ b → (if b then option_map (λ vs. v ∷ vs) (elements_from (suc n) (graph ps)) else None) ≡ Some xs
        → ((ys : List Data) → elements_from (suc n) (graph ps) ≡ Some ys → ps ≡ pairs (sequence_at (suc n) ys)) → pair k v ps ≡ pairs (sequence_at n xs)
    go true e g r = more (elements_from (suc n) (graph ps)) refl g (same_of k (integer (pos n)) e) r
    go false e g r = absurd (cc)

pub data_is : (v : Data) (xs : List Data) → elements v ≡ Some xs → v ≡ sequence_data xs
data_is (boolean b) xs h = absurd (cc)
data_is (integer z) xs h = absurd (cc)
data_is (string s) xs h = absurd (cc)
data_is (model s) xs h = absurd (cc)
data_is (set s) xs h = absurd (cc)
data_is (function ps) xs h = ap function (graph_is 1 ps xs h)

pub same_sequence : (xs ys : List Data) → sequence_data xs ≡ sequence_data ys → xs ≡ ys
same_sequence xs ys h = same_Some xs ys (sym (elements_of xs) ∙ ap elements h ∙ elements_of ys)

-- ---- depth
pub deep_one : (d : Data) → 0 < depth d
deep_one (boolean b) = omega arith
deep_one (integer z) = omega arith
deep_one (string s) = omega arith
deep_one (model s) = omega arith
deep_one (set s) = omega arith
deep_one (function s) = omega arith

largest : (a b c : ℕ) → 0 < a → b ≡ c → max (max 1 a) b ≡ max a c
largest a b c h e = omega (arith, h, e)

pairs_deep : (n : ℕ) (xs : List Data) → pairs_depth (pairs (sequence_at n xs)) ≡ members_size xs
pairs_deep n [] = refl
pairs_deep n (x ∷ xs) = largest (depth x) _ _ (deep_one x) (pairs_deep (suc n) xs)

pub deep_sequence : (xs : List Data) → depth (sequence_data xs) ≡ suc (members_size xs)
deep_sequence xs = ap suc (pairs_deep 1 xs)

within : (n : ℕ) (v : Data) → n ≤ 65536 → depth v ≤ 255 → built n v ≡ Some v
within n v h d =
    let deep : nat_lt 2048 (depth v) ≡ false = grind (arith, nat_tests) in
    let few : nat_lt 65536 n ≡ false = grind (arith, nat_tests) in
    ap (λ b. if b then None else if_few n v) deep ∙ ap (λ b. if b then None else Some v) few

-- ---- what fits
module _ (xs : List Data) (f : Fits xs) where
  pub shallow : depth (sequence_data xs) ≤ 255
  shallow = omega (arith, deep_sequence xs, f.deep)

  pub sequence_is : sequence xs ≡ Some (sequence_data xs)
  sequence_is =
      ap (λ ps. built (length ps) (function (pairs ps))) (pairs_stay (sequence_at 1 xs) (sorted_sequence 1 xs))
      ∙ within (length (sequence_at 1 xs)) (sequence_data xs) (omega (arith, length_sequence 1 xs, f.count)) shallow

pub rest_fits : (x : Data) (xs : List Data) → Fits (x ∷ xs) → Fits xs
rest_fits x xs f = record { count = omega (arith, f.count); deep = omega (arith, f.deep) }

pub holdable : (v : Data) → IsShort v → (255 < depth v → ⊥) → Holdable v
holdable v s d =
    let e : depth v ≡ suc (members_size s.0) = ap depth (data_is v s.0 s.1) ∙ deep_sequence s.0 in
    (s.0, s.1, record { count = s.2; deep = omega (arith, d, e) })

-- ---- whether two sequences differ
same_differs : (v : Data) → false ≡ differs (Some v) (Some v)
same_differs v = sym (ap not (same_itself v))

other_differs : (v w : Data) → (v ≡ w → ⊥) → (b : Bool) → same_data v w ≡ b → true ≡ not b
other_differs v w h false e = refl
other_differs v w h true e = absurd (h (same_of v w e))

pub not_changed : (xs ys : List Data) → xs ≡ ys → false ≡ differs (Some (sequence_data xs)) (Some (sequence_data ys))
not_changed xs ys e = subst (λ zs. false ≡ differs (Some (sequence_data xs)) (Some (sequence_data zs))) e (same_differs (sequence_data xs))

pub changed : (xs ys : List Data) → (xs ≡ ys → ⊥) → true ≡ differs (Some (sequence_data xs)) (Some (sequence_data ys))
changed xs ys h = other_differs (sequence_data xs) (sequence_data ys) (λ e. h (same_sequence xs ys e)) (same_data (sequence_data xs) (sequence_data ys)) refl

-- ---- the messages of a sequence in memory
values_at : (n : ℕ) (xs : List Data) → map (λ (p : Data × Data). p.1) (sequence_at n xs) ≡ xs
values_at n [] = refl
values_at n (x ∷ xs) = ap (λ ys. x ∷ ys) (values_at (suc n) xs)

values_seen : (ps : List (Value × Value)) → map value_of ps ≡ map (λ (p : Data × Data). p.1) (map pair_of ps)
values_seen [] = refl
values_seen (p ∷ ps) = ap (λ ys. value_of p ∷ ys) (values_seen ps)

pub held : (v : Data) (h : Holdable v) (ps : List (Value × Value)) → map pair_of ps ≡ pairs_in v → map value_of ps ≡ h.0
held v h ps e =
    values_seen ps ∙ ap (map (λ (p : Data × Data). p.1)) (e ∙ ap pairs_in (data_is v h.0 h.1) ∙ graph-pairs (sequence_at 1 h.0))
    ∙ values_at 1 h.0
