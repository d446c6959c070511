-- Effects one behind the other.
use Rattle.std.proofs.Common.{◌≡◌, ℕ, List, [], ◌∷◌, ◌++◌, Option, Some, option_map, refl, ap, sym, ◌∙◌}
use Rattle.pgo_base.specs.ExprView.{tree, named_tree}
use Rattle.pgo_base.specs.Lookup.{Name}
use Rattle.pgo_base.specs.Tree.{Tree}
use Rattle.pgo_base.specs.declared.expr.Expr.{Expr}
use Rattle.pgo_sections.specs.Access.{MappedNames, Hoisted, hoisted, after, evaluated, read_first}
use Rattle.pgo_sections.specs.Code.{Code, Codes, more_codes, at_base}
use Rattle.pgo_sections.specs.Code as codes
use Rattle.pgo_effects.specs.declared.piece.Effect.{Effect}
use Rattle.pgo_effects.specs.declared.piece.Effect.TheVariants.{Let}
use Rattle.pgo_effects.specs.Pieces.{effect_code, code_with, arms_then}

pub code_with-append : (es fs : List Effect) (c : Code) → code_with (es ++ fs) c ≡ code_with es (code_with fs c)
code_with-append [] fs c = refl
code_with-append (e ∷ es) fs c = ap (effect_code e) (code_with-append es fs c)

pub arms_then-append : (cs : List Code) (c : Code) (ds : Codes) → arms_then (cs ++ c ∷ []) ds ≡ arms_then cs (more_codes c ds)
arms_then-append [] c ds = refl
arms_then-append (b ∷ cs) c ds = ap (more_codes b) (arms_then-append cs c ds)

-- where no effect stands yet
pub from_none : (es : List Effect) → es ≡ [] → (c : Code) → code_with es c ≡ c
from_none es e c = ap (λ l. code_with l c) e

pub pushed : (es new : List Effect) (x : Effect) → new ≡ es ++ x ∷ [] → (c : Code) → code_with new c ≡ code_with es (effect_code x c)
pushed es new x e c = ap (λ l. code_with l c) e ∙ code_with-append es (x ∷ []) c

-- an index that comes before a read
pub index_first : (es new : List Effect) (index : Option (Name × Expr)) (b n i : Name) (v : Expr) → index ≡ Some (n, v) → b ≡ at_base → i ≡ n → new ≡ es ++ Let b n v ∷ [] → (f : Option Name → Code) → code_with new (f (Some i)) ≡ code_with es (read_first (option_map named_tree index) f)
index_first es new index b n i v is eb ei e f =
    pushed es new (Let b n v) e (f (Some i))
    ∙ (λ k. code_with es (codes.Let (eb k) n (tree v) (f (Some (ei k)))))
    ∙ ap (λ o. code_with es (read_first (option_map named_tree o) f)) (sym is)

-- the reads that come before an expression
pub evaluated_by : (es new : List Effect) (m : MappedNames) (e : Tree) (k : ℕ) (h : Hoisted Tree) → h ≡ hoisted m [] e k → ((c : Code) → code_with new c ≡ code_with es (after h.reads c)) → (f : Tree → ℕ → Code) → code_with new (f h.rest h.used) ≡ code_with es (evaluated m e k f)
evaluated_by es new m e k h eh step f = step (f h.rest h.used) ∙ ap (λ p. code_with es (after p.reads (f p.rest p.used))) eh
