-- Members, keys and what stands at them, one after another.
use Rattle.std.proofs.Common.{◌≡◌, ℕ, zero, suc, ◌+◌, ◌<◌, ◌≤◌, List, [], ◌∷◌, length, map, get_or, drop, sym, subst, arith}
use Rattle.std.specs.List.Sorted.{IsStrictlySortedBy}
use Rattle.pgo_base.specs.Data.{Data, items, pairs, keys, members-items, graph-pairs}
use Rattle.pgo_base.specs.Order.{data_cmp}
use Rattle.pgo_base.specs.Sets.{IsSorted}
use Rattle.pgo_base.specs.Size.{depth, members_size, graph_size}
use Rattle.pgo_base.specs.View.{data_of, pair_of, named_data}
use Rattle.pgo_base.specs.declared.value.Value.{Value}
use Rattle.pgo_base.specs.declared.value.Value.TheVariants as values
use Rattle.pgo_model.specs.State.{AllValues}
use Rattle.pgo_model.specs.Value.{IsValue, AreValues, ArePairs}
use Rattle.pgo_heads.proofs.Numbered.{drop_step}

pub member_low : (xs : List Value) (i : ℕ) (x : Value) → i < length xs → x ≡ get_or xs i x → depth (data_of x) ≤ members_size (map data_of xs)
member_low [] i x h e = absurd (omega arith)
member_low (y ∷ ys) zero x h e = rw e (omega arith)
member_low (y ∷ ys) (suc i) x h e = omega (arith, member_low ys i x (omega arith) e)

pub pair_low : (ps : List (Value × Value)) (i : ℕ) (p : Value × Value) → i < length ps → p ≡ get_or ps i p → (depth (data_of p.0) ≤ graph_size (map pair_of ps)) × (depth (data_of p.1) ≤ graph_size (map pair_of ps))
pair_low [] i p h e = absurd (omega arith)
pair_low (q ∷ qs) zero p h e = rw e (omega arith, omega arith)
pair_low (q ∷ qs) (suc i) p h e = let r = pair_low qs i p (omega arith) e in (omega (arith, r.0), omega (arith, r.1))

pub members_step : (xs : List Value) (i : ℕ) (x : Value) → i < length xs → x ≡ get_or xs i x → IsValue (data_of x) → AreValues (items (map data_of (drop (i + 1) xs))) → AreValues (items (map data_of (drop i xs)))
members_step xs i x h e v r = subst (λ ys. AreValues (items (map data_of ys))) (sym (drop_step xs i x h e)) (v, r)

pub pairs_step : (ps : List (Value × Value)) (i : ℕ) (p : Value × Value) → i < length ps → p ≡ get_or ps i p → IsValue (data_of p.0) → IsValue (data_of p.1) → ArePairs (pairs (map pair_of (drop (i + 1) ps))) → ArePairs (pairs (map pair_of (drop i ps)))
pairs_step ps i p h e k v r = subst (λ qs. ArePairs (pairs (map pair_of qs))) (sym (drop_step ps i p h e)) (k, v, r)

pub vars_step : (s : List (List ℕ × Value)) (i : ℕ) (p : List ℕ × Value) → i < length s → p ≡ get_or s i p → IsValue (data_of p.1) → AllValues (map named_data (drop (i + 1) s)) → AllValues (map named_data (drop i s))
vars_step s i p h e v r = subst (λ q. AllValues (map named_data q)) (sym (drop_step s i p h e)) (v, r)

pub set_well_formed : (v : Value) (s : List Data) (xs : List Value) → v ≡ values.Set s → map data_of xs ≡ s → IsStrictlySortedBy data_cmp s → AreValues (items (map data_of xs)) → IsValue (data_of v)
set_well_formed v s xs e m o a = subst (λ w. IsValue (data_of w)) (sym e) (subst (λ ds. AreValues (items ds)) m a, subst IsSorted (sym (members-items s)) o)

pub function_well_formed : (v : Value) (f : List (Data × Data)) (ps : List (Value × Value)) → v ≡ values.Fun f → map pair_of ps ≡ f → IsStrictlySortedBy data_cmp (keys f) → ArePairs (pairs (map pair_of ps)) → IsValue (data_of v)
function_well_formed v f ps e m o a = subst (λ w. IsValue (data_of w)) (sym e) (subst (λ qs. ArePairs (pairs qs)) m a, subst (λ qs. IsSorted (keys qs)) (sym (graph-pairs f)) o)
