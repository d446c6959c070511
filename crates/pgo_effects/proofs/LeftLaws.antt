-- The one expression of a list.
use Rattle.std.proofs.Common.{◌≡◌, List, [], ◌∷◌, map, length, Option, Some, None, refl, ap, sym, ◌∙◌, arith}
use Rattle.pgo_base.specs.ExprView.{tree}
use Rattle.pgo_base.specs.Tree.{Tree, trees}
use Rattle.pgo_base.specs.declared.expr.Expr.{Expr}
use Rattle.pgo_meaning.specs.MacrosPlaced.{only}

pub one_alone : (e : Tree) (rest : List Expr) → length rest ≡ 0 → Some e ≡ only (trees (e ∷ map tree rest))
one_alone e [] h = refl
one_alone e (f ∷ rest) h = absurd (omega arith)

pub not_alone : (e : Tree) (rest : List Expr) (f : Expr) (more : List Expr) → rest ≡ f ∷ more → None ≡ only (trees (e ∷ map tree rest))
not_alone e rest f more h = sym (ap (λ (l : List Expr). only (trees (e ∷ map tree l))) h)

pub none_at_all : (es : List Expr) (ts : List Tree) → length es ≡ 0 → map tree es ≡ ts → None ≡ only (trees ts)
none_at_all [] ts h e = ap (λ l. only (trees l)) e
none_at_all (f ∷ es) ts h e = absurd (omega arith)

pub first_alone : (o : Option Tree) (es : List Expr) (ts : List Tree) (f : Expr) (rest : List Expr) → es ≡ f ∷ rest → map tree es ≡ ts → o ≡ only (trees (tree f ∷ map tree rest)) → o ≡ only (trees ts)
first_alone o es ts f rest h e eo = eo ∙ sym (ap (λ (l : List Expr). only (trees (map tree l))) h) ∙ ap (λ l. only (trees l)) e
