-- What an expression holds at the right of `\in` is what its set has, where sets are in order.
use Rattle.std.proofs.Common.{◌≡◌, List, [], ◌∷◌, map, Option, Some, None, refl, sym, ap, ◌∙◌, subst, option_and_then}
use Rattle.std.proofs.lemmas.Option.{same_Some}
use Rattle.pgo_base.specs.declared.expr.Prefix.{Prefix}
use Rattle.pgo_base.specs.declared.expr.Infix.{Infix}
use Rattle.pgo_base.specs.declared.expr.Word.{Word}
use Rattle.pgo_base.specs.declared.expr.Prefix.TheVariants as prefixs
use Rattle.pgo_base.specs.declared.expr.Infix.TheVariants as infixs
use Rattle.pgo_base.specs.declared.expr.Word.TheVariants as words
use Rattle.pgo_base.specs.Data.{Data, set, Items, members, keys}
use Rattle.pgo_base.specs.Pairs.{pairs_in_order}
use Rattle.pgo_base.specs.Sets.{IsSorted, sorted-in_order}
use Rattle.pgo_base.specs.Tree.{Tree, word, unary, binary, product, fun_set, record_set}
use Rattle.pgo_model.specs.FunctionSets.{Choices, product_choices, function_choices, record_choices}
use Rattle.pgo_model.specs.Operators.{both, contains, is_member, members_of, range, on_integers, sequence_at}
use Rattle.pgo_model.specs.Value.{IsValue}
use Rattle.pgo_model.specs.Val.{Scope, Sem, sem, val, values_of, fields, functions_sem, power_sem, range_sem, range_holds, word_sem, unary_sem, binary_sem}
use Rattle.pgo_bound.specs.Keyed.{keys_ordered}
use Rattle.pgo_values.proofs.Lists.{key_of, choices_keys, sequence_sorted, both_parts, is_set, two_integers}
use Rattle.pgo_translate.proofs.SetLaws.{fits_contains, range_contains, subset_contains}

-- a set that an expression has is in order
abbrev pub SetsOrdered : Scope → Type 0
SetsOrdered s = (e : Tree) (xs : Items) → val e s ≡ Some (set xs) → IsSorted (members xs)

-- what is to be shown of what an expression is
abbrev pub HoldsAs : Sem → Type 0
HoldsAs m = (xs : Items) (v : Data) → m.value ≡ Some (set xs) → IsValue v → m.holds v ≡ Some (contains v (members xs))

function_keys : (ms ns : List Data) → map key_of (map (λ m. (m, ns)) ms) ≡ ms
function_keys [] ns = refl
function_keys (m ∷ ms) ns = ap (λ ks. m ∷ ks) (function_keys ms ns)

-- sets of functions
functions_hold : (o : Option Choices) → ((cs : Choices) → o ≡ Some cs → IsSorted (map key_of cs)) → HoldsAs (functions_sem o)
functions_hold None s xs v h k = absurd (cc)
functions_hold (Some cs) s xs v h k = ap Some (fits_contains cs xs v (s cs refl) h)

product_sorted : (o : Option (List Data)) (cs : Choices) → option_and_then product_choices o ≡ Some cs → IsSorted (map key_of cs)
product_sorted None cs h = absurd (cc)
product_sorted (Some vs) cs h = subst IsSorted (sym (choices_keys (sequence_at 1 vs) cs h)) (sequence_sorted 1 vs)

record_sorted : (o : Option (List (Data × Data))) (cs : Choices) → option_and_then record_choices o ≡ Some cs → IsSorted (map key_of cs)
record_sorted None cs h = absurd (cc)
record_sorted (Some ps) cs h = subst IsSorted (sym (choices_keys (pairs_in_order ps) cs h ∙ keys_ordered ps)) (sorted-in_order (keys ps))

sets_sorted : (a b : Option Data) → ((xs : Items) → a ≡ Some (set xs) → IsSorted (members xs)) → (cs : Choices) → both function_choices a b ≡ Some cs → IsSorted (map key_of cs)
sets_sorted a b s cs h =
    let p = both_parts function_choices a b cs h in
    let q = both_parts (λ ms ns. Some (map (λ m. (m, ns)) ms)) (members_of p.0) (members_of p.1.0) cs p.1.3 in
    let r = is_set p.0 q.0 q.1.1 in
    let e : map key_of cs ≡ q.0 = ap (map key_of) (sym (same_Some (map (λ m. (m, q.1.0)) q.0) cs q.1.3)) ∙ function_keys q.0 q.1.0 in
    subst IsSorted (r.2 ∙ sym e) (s r.0 (p.1.1 ∙ ap Some r.1))

power_hold : (o : Option Data) → ((xs : Items) → o ≡ Some (set xs) → IsSorted (members xs)) → HoldsAs (power_sem o)
power_hold (Some (set ys)) s xs v h k = ap Some (subset_contains (members ys) xs v (s ys refl) (λ zs e. (subst IsValue e k).1) h)
power_hold _ s xs v h k = absurd (cc)

range_hold : (a b : Option Data) → HoldsAs (range_sem a b)
range_hold a b xs v h k =
    let p = both_parts (on_integers range) a b (set xs) h in
    let q = two_integers range p.0 p.1.0 (set xs) p.1.3 in
    (λ i. both (range_holds v) (p.1.1 i) (p.1.2 i)) ∙ (λ i. range_holds v (q.2 i) (q.3 i))
    ∙ ap Some (range_contains q.0 q.1 xs v ((λ i. on_integers range (sym q.2 i) (sym q.3 i)) ∙ p.1.3))

word_hold : (w : Word) → HoldsAs (word_sem w)
word_hold words.BooleanSet xs v h k = ap (is_member v) h
word_hold _ xs v h k = absurd (cc)

unary_hold : (o : Prefix) (a : Sem) → ((xs : Items) → a.value ≡ Some (set xs) → IsSorted (members xs)) → HoldsAs (unary_sem o a)
unary_hold prefixs.Powerset a s xs v h k = power_hold a.value s xs v h k
unary_hold _ a s xs v h k = ap (is_member v) h

binary_hold : (o : Infix) (a b : Sem) → HoldsAs (binary_sem o a b)
binary_hold infixs.Range a b xs v h k = range_hold a.value b.value xs v h k
binary_hold _ a b xs v h k = ap (is_member v) h

pub holds_member : (e : Tree) (s : Scope) → SetsOrdered s → HoldsAs (sem e s)
holds_member (word w) s o xs v h k = word_hold w xs v h k
holds_member (unary p a) s o xs v h k = unary_hold p (sem a s) (o a) xs v h k
holds_member (binary p a b) s o xs v h k = binary_hold p (sem a s) (sem b s) xs v h k
holds_member (product ts) s o xs v h k = functions_hold (option_and_then product_choices (values_of ts s)) (product_sorted (values_of ts s)) xs v h k
holds_member (fun_set a b) s o xs v h k = functions_hold (both function_choices (sem a s).value (sem b s).value) (sets_sorted (sem a s).value (sem b s).value (o a)) xs v h k
holds_member (record_set ds) s o xs v h k = functions_hold (option_and_then record_choices (fields ds s)) (record_sorted (fields ds s)) xs v h k
holds_member _ s o xs v h k = ap (is_member v) h
