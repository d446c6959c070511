-- What is read of a label is spelled so.
use Rattle.std.proofs.Common.{◌≡◌, Bool, true, false, ◌&&◌, ◌||◌, List, [], ◌∷◌, ◌++◌, Option, Some, None, refl, ap, sym, ◌∙◌, subst, cond}
use Rattle.pgo_lexer.specs.declared.token.Lexeme.{Lexeme}
use Rattle.pgo_expr_read.specs.Kinds.{Name}
use Rattle.pgo_syntax.specs.declared.name.PlacedName.{PlacedName}
use Rattle.pgo_syntax.specs.Statement.{Statement}
use Rattle.pgo_base.specs.declared.expr.Infix.TheVariants as operator
use Rattle.pgo_lexer.specs.declared.symbol.Symbol.TheVariants as symbol
use Rattle.pgo_mpcal_read.specs.Signs.{sees}
use Rattle.pgo_mpcal_read.specs.Elements.{Spot, at, word, placed}
use Rattle.pgo_mpcal_read.specs.Statements.{Spelled, IsLabeled, IsFairness}
use Rattle.pgo_mpcal_read.specs.Statements as s
use Rattle.pgo_expr_read.specs.Steps.{skip}
use Rattle.pgo_mpcal_read.specs.Reading.{sees_name, sees_second}
use Rattle.pgo_mpcal_read.specs.ReadingStatements.{fairness, label, optional_label}
use Rattle.pgo_expr_read.proofs.Steps.{some_pair}
use Rattle.pgo_mpcal_read.proofs.Parts.{Front, expect_then, name_then, seen}

-- ---- labels

record GoodFairness (i : List Lexeme) : Type 0 where
  front : List Lexeme
  split : i ≡ front ++ fairness i
  holds : IsFairness front

fairness_by : (a b : Bool) (i : List Lexeme) → sees (symbol.Infix operator.Add) i ≡ a → sees (symbol.Infix operator.Subtract) i ≡ b → fairness i ≡ cond a (skip i) (cond b (skip i) i) → GoodFairness i
fairness_by true b i p m e = let g = seen (symbol.Infix operator.Add) i p in record { front = at g.0 (symbol.Infix operator.Add) ∷ []; split = g.1 ∙ ap (λ z. at g.0 (symbol.Infix operator.Add) ∷ z) (sym e); holds = s.plus }
fairness_by false true i p m e = let g = seen (symbol.Infix operator.Subtract) i m in record { front = at g.0 (symbol.Infix operator.Subtract) ∷ []; split = g.1 ∙ ap (λ z. at g.0 (symbol.Infix operator.Subtract) ∷ z) (sym e); holds = s.minus }
fairness_by false false i p m e = record { front = []; split = sym e; holds = s.unmarked }

either_of : (a b : Bool) (x y : List Lexeme) → cond (a || b) x y ≡ cond a x (cond b x y)
either_of true b x y = refl
either_of false b x y = refl

sound_fairness : (i : List Lexeme) → GoodFairness i
unfolding fairness
sound_fairness i = fairness_by (sees (symbol.Infix operator.Add) i) (sees (symbol.Infix operator.Subtract) i) i refl refl (either_of (sees (symbol.Infix operator.Add) i) (sees (symbol.Infix operator.Subtract) i) (skip i) i)

-- the tokens of a label, if it stands there
pub data IsLabel : List Lexeme → Option PlacedName → Type 0 where
  bare : IsLabel [] None
  labels : {n c : Spot} {x : Name} {xs : List Lexeme} → IsFairness xs → IsLabel (word n x ∷ (at c symbol.Colon ∷ xs)) (Some (placed n x))

pub with_label : {u v : Bool} {xs ys : List Lexeme} {l : Option PlacedName} {a : Statement} → IsLabel xs l → Spelled u v ys a → IsLabeled u v (xs ++ ys) (l, a)
with_label bare d = s.bare d
with_label (labels f) d = s.label f d

label_by : (b : Bool) (i : List Lexeme) (l : Option PlacedName) (rest : List Lexeme) → cond b (label i) (Some (None, i)) ≡ Some (l, rest) → Front IsLabel i l rest
unfolding label
label_by true i l rest got =
    name_then i _ _ _ got (λ n x i1 e1 got.
    expect_then symbol.Colon i1 _ _ _ got (λ c i2 e2 got.
    let q = some_pair _ _ _ _ got in
    let f = sound_fairness i2 in
    let P : Option PlacedName → Type 0 = λ z. Front IsLabel i z rest in
    subst P q.0 (record { front = word n x ∷ (at c symbol.Colon ∷ f.front); split = e1 ∙ ap (λ z. word n x ∷ z) (e2 ∙ ap (λ z. at c symbol.Colon ∷ z) (f.split ∙ ap (λ z. f.front ++ z) q.1)); holds = labels f.holds })))
label_by false i l rest got =
    let q = some_pair _ _ _ _ got in
    let P : Option PlacedName → Type 0 = λ z. Front IsLabel i z rest in
    subst P q.0 (record { front = []; split = q.1; holds = bare })

pub sound_label : (i : List Lexeme) (l : Option PlacedName) (rest : List Lexeme) → optional_label i ≡ Some (l, rest) → Front IsLabel i l rest
unfolding optional_label
sound_label i l rest got = label_by (sees_name i && sees_second symbol.Colon i) i l rest got
