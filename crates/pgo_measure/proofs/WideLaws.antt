-- Expansions that have more nodes than are left.
use Rattle.std.proofs.Common.{◌≡◌, ◌<◌, ◌≤◌, ℕ, ◌+◌, max, List, [], ◌∷◌, ◌++◌, None, drop, length, ap, sym, ◌∙◌, arith}
use Rattle.std.specs.Prelude.{option_map, reverse}
use Rattle.std.proofs.lemmas.List.{drop_all, reverse-append}
use Rattle.pgo_base.specs.Lookup.{Name}
use Rattle.pgo_effects.specs.Pieces.{code_with}
use Rattle.pgo_effects.specs.declared.piece.Effect.{Effect}
use Rattle.pgo_put_sizes.specs.Least.{least}
use Rattle.pgo_put_sizes.proofs.LeastLaws.{least_law}
use Rattle.pgo_sections.specs.Code.{Place, Code}
use Rattle.pgo_sections.specs.Expand.{Current, Renames}
use Rattle.pgo_sections.specs.Expansion.{Expansion}
use Rattle.pgo_sections.specs.Nodes.{nodes}
use Rattle.pgo_sizes.specs.Left.{left_after}
use Rattle.pgo_walk.specs.Frames as spec
use Rattle.pgo_measure.specs.Measured.{Part, measured, nodes_in, highest}
use Rattle.pgo_measure.specs.Heights.{capped}
use Rattle.pgo_measure.specs.Pendings.{part}
use Rattle.pgo_measure.specs.declared.spot.Spot.{Spot}

-- all effects are done
pub none_left : (es : List Effect) (i : ℕ) (c : Code) → length es ≤ i → code_with (drop i es) c ≡ c
none_left es i c h = ap (λ xs. code_with xs c) (drop_all i es h)

-- where code comes first, its expansion has at least the nodes of what comes first in it
pub run_law : (left : ℕ) (vs : List Name) (ps : List (Name × Place)) (c : Code) (ren : Renames) (fs : List spec.Frame) (cur : Current) (n : ℕ)
    → left < least c → left < nodes (spec.goes vs (spec.Run ps c ren ∷ fs) cur n)
run_law left vs ps c ren fs cur n h =
    omega (arith, h, least_law c ps ren cur n (spec.goes vs fs) (spec.jumps vs fs) (spec.yields vs fs))

-- the newest of a list whose items stand the oldest first in xs
pub newest : {A : Type 0} (xs rest fs : List A) (x : A) → reverse xs ≡ fs → xs ≡ rest ++ x ∷ [] → fs ≡ x ∷ reverse rest
newest xs rest fs x e q = sym e ∙ ap reverse q ∙ reverse-append rest (x ∷ [])

too_few : (l n m : ℕ) → l < n → left_after l (n + m) ≡ None
too_few l n m h = grind (arith, h)

-- where an expansion has more nodes than are left, nothing is left
pub too_many : (vs gs : List Name) (l h : ℕ) (s : Spot) (x : Expansion) (ps : List Part) → l < nodes x → measured vs gs l h (part s x ∷ ps) ≡ None
too_many vs gs l h s x ps lt = ap (option_map (λ m. (m, capped (max h (highest vs gs (part s x ∷ ps)))))) (too_few l (nodes x) (nodes_in ps) lt)
