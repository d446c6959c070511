-- A part is less deep than what it is a part of.
use Rattle.std.proofs.Common.{◌≡◌, ℕ, zero, suc, ◌<◌, ◌≤◌, max, List, [], ◌∷◌, length, map, get_or, ap, arith}
use Rattle.pgo_base.specs.declared.value.Value.{Value}
use Rattle.pgo_base.specs.declared.value.Value.TheVariants.{Set, Fun}
use Rattle.pgo_base.specs.Data.{Data}
use Rattle.pgo_base.specs.Size.{depth, members_size, graph_size}
use Rattle.pgo_base.specs.View.{data_of, pair_of}
use Rattle.pgo_base.specs.Falls.{items_depth-items, pairs_depth-pairs}

pub at_size : (xs : List Value) (i : ℕ) (x : Value) → i < length xs → x ≡ get_or xs i x → depth (data_of x) ≤ members_size (map data_of xs)
at_size [] i x h e = absurd (omega arith)
at_size (y ∷ ys) zero x h e = rw e (omega arith)
at_size (y ∷ ys) (suc i) x h e = omega (arith, at_size ys i x (omega arith) e)

pub at_graph : (ps : List (Value × Value)) (i : ℕ) (p : Value × Value) → i < length ps → p ≡ get_or ps i p → max (depth (data_of p.0)) (depth (data_of p.1)) ≤ graph_size (map pair_of ps)
at_graph [] i p h e = absurd (omega arith)
at_graph (q ∷ qs) zero p h e = rw e (omega arith)
at_graph (q ∷ qs) (suc i) p h e = omega (arith, at_graph qs i p (omega arith) e)

pub set_size : (v : Value) (s : List Data) (xs : List Value) → v ≡ Set s → map data_of xs ≡ s → depth (data_of v) ≡ suc (members_size (map data_of xs))
set_size v s xs e h = rw (e, ← h) (ap suc (items_depth-items (map data_of xs)))

pub function_size : (v : Value) (f : List (Data × Data)) (ps : List (Value × Value)) → v ≡ Fun f → map pair_of ps ≡ f → depth (data_of v) ≡ suc (graph_size (map pair_of ps))
function_size v f ps e h = rw (e, ← h) (ap suc (pairs_depth-pairs (map pair_of ps)))
