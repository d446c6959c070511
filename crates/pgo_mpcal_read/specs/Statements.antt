-- Which lists of tokens spell a statement: one rule for each form of the grammar.
use Rattle.std.specs.Prelude.{◌≡◌, ℕ, Bool, true, false, List, [], ◌∷◌, ◌++◌, Option, Some, None, codes}
use Rattle.pgo_base.specs.Tree.{Tree}
use Rattle.pgo_lexer.specs.declared.token.Lexeme.{Lexeme}
use Rattle.pgo_expr_read.specs.Kinds.{Name}
use Rattle.pgo_syntax.specs.declared.name.PlacedName.{PlacedName}
use Rattle.pgo_syntax.specs.declared.assignment.Step.{Step}
use Rattle.pgo_syntax.specs.declared.assignment.Step.TheVariants as step
use Rattle.pgo_syntax.specs.declared.assignment.Left.{Left}
use Rattle.pgo_syntax.specs.declared.assignment.Assignment.{Assignment}
use Rattle.pgo_syntax.specs.declared.binding.Origin.{Origin}
use Rattle.pgo_syntax.specs.declared.binding.Origin.TheVariants as origin
use Rattle.pgo_syntax.specs.declared.binding.WithName.{WithName}
use Rattle.pgo_syntax.specs.Statement.{Statement, statements, labeled, guarded}
use Rattle.pgo_syntax.specs.Statement as st
use Rattle.pgo_lexer.specs.declared.symbol.Symbol.{Symbol}
use Rattle.pgo_base.specs.declared.expr.Infix.TheVariants as operator
use Rattle.pgo_lexer.specs.declared.symbol.Bracket.TheVariants as bracket
use Rattle.pgo_lexer.specs.declared.symbol.Keyword.TheVariants as keyword
use Rattle.pgo_lexer.specs.declared.symbol.Symbol.TheVariants as symbol
use Rattle.pgo_mpcal_read.specs.Signs.{sees}
use Rattle.pgo_mpcal_read.specs.Elements.{Spot, at, word, placed, Ended, IsExpression, IsRange, Items, InBrackets, Row}

-- ---- assignments

-- `[i]` and `.f`
pub data IsStep : List Lexeme → Step → Type 0 where
  index : {o : Spot} (c : Spot) {xs : List Lexeme} {e : Tree} → IsExpression xs e → IsStep (at o (symbol.Open bracket.Square) ∷ (xs ++ (at c (symbol.Close bracket.Square) ∷ []))) (step.Index e)
  field : {d n : Spot} {x : Name} → IsStep (at d symbol.Dot ∷ (word n x ∷ [])) (step.Field x)

-- a variable, or `$variable`, with a path
pub data IsLeft : List Lexeme → Left → Type 0 where
  named : {n : Spot} {x : Name} {xs : List Lexeme} {path : List Step} → Row IsStep xs path → IsLeft (word n x ∷ xs) (record { name = placed n x; path = path })
  variable : {n : Spot} {xs : List Lexeme} {path : List Step} → Row IsStep xs path → IsLeft (at n symbol.Variable ∷ xs) (record { name = placed n (codes "$variable"); path = path })

-- `left := e`
pub data IsAssignment : List Lexeme → Assignment → Type 0 where
  assignment : (p : Spot) {xs ys : List Lexeme} {l : Left} {e : Tree} → IsLeft xs l → IsExpression ys e
      → IsAssignment (xs ++ (at p symbol.Assign ∷ ys)) (record { left = l; right = e })

-- ---- where a name's value comes from

-- `= e` and `\in e`
pub data IsOrigin : List Lexeme → Origin → Type 0 where
  equals : {p : Spot} {xs : List Lexeme} {e : Tree} → IsExpression xs e → IsOrigin (at p (symbol.Infix operator.Equal) ∷ xs) (origin.Equals e)
  member : {p : Spot} {xs : List Lexeme} {e : Tree} → IsRange xs e → IsOrigin (at p (symbol.Infix operator.In) ∷ xs) (origin.In e)

pub data IsWithName : List Lexeme → WithName → Type 0 where
  with_name : {n : Spot} {x : Name} {xs : List Lexeme} {o : Origin} → IsOrigin xs o → IsWithName (word n x ∷ xs) (record { name = placed n x; origin = o })

-- ---- statements

-- the `+` or `-` of a label, which is dropped
pub data IsFairness : List Lexeme → Type 0 where
  unmarked : IsFairness []
  plus : {p : Spot} → IsFairness (at p (symbol.Infix operator.Add) ∷ [])
  minus : {p : Spot} → IsFairness (at p (symbol.Infix operator.Subtract) ∷ [])

-- `await` or `when`
pub data IsAwait : Symbol → Type 0 where
  await : IsAwait (symbol.Keyword keyword.Await)
  when : IsAwait (symbol.Keyword keyword.When)

-- Spelled u v ts s: the tokens spell the statement. u says whether it ends in an `if` without `else`, and v whether it
-- ends in an `either`; a block ends in its `}` and in no statement.
-- IsBranch: `if (e) s`. ElseIfs u v w z ts bs: further branches, each behind an `else`; u and v say how the statement
-- before them ends, w and z how the last one ends.
-- Ors: the same of further statements of an `either`, each behind an `or`.
-- IsLabeled: a statement with its label, if it has one. Rows: the statements of a block.
mutual
  pub data Spelled : Bool → Bool → List Lexeme → Statement → Type 0 where
    skip : {p : Spot} → Spelled false false (at p (symbol.Keyword keyword.Skip) ∷ []) (st.skip p.start)
    assign : {xs : List Lexeme} {a : Assignment} {as' : List Assignment} → Items IsAssignment symbol.Bars xs (a ∷ as')
        → Spelled false false xs (st.assign a.left.name.place (a ∷ as'))
    if_then : {u v w z : Bool} {xs ys : List Lexeme} {b : ℕ × (Tree × Statement)} {bs : List (ℕ × (Tree × Statement))} → IsBranch u v xs b → ElseIfs u v w z ys bs
        → Spelled true z (xs ++ ys) (st.if_then b.0 (guarded (b ∷ bs)))
    if_else : {u v w' z z' : Bool} (p : Spot) {xs ys zs : List Lexeme} {b : ℕ × (Tree × Statement)} {bs : List (ℕ × (Tree × Statement))} {s : Statement}
        → IsBranch u v xs b → ElseIfs u v false z ys bs → sees (symbol.Keyword keyword.If) zs ≡ false → Spelled w' z' zs s
        → Spelled w' z' (xs ++ (ys ++ (at p (symbol.Keyword keyword.Else) ∷ zs))) (st.if_else b.0 (guarded (b ∷ bs)) s)
    while_do : {u v : Bool} {p o : Spot} (c : Spot) {xs ys : List Lexeme} {e : Tree} {s : Statement} → IsExpression xs e → Spelled u v ys s
        → Spelled u v (at p (symbol.Keyword keyword.While) ∷ (at o (symbol.Open bracket.Round) ∷ (xs ++ (at c (symbol.Close bracket.Round) ∷ ys)))) (st.while_do p.start e s)
    either_of : {u u' v' w z : Bool} {p : Spot} (q : Spot) {xs ys zs : List Lexeme} {s s' : Statement} {ss : List Statement}
        → Spelled u false xs s → Spelled u' v' ys s' → Ors u' v' w z zs ss
        → Spelled w true (at p (symbol.Keyword keyword.Either) ∷ (xs ++ (at q (symbol.Keyword keyword.Or) ∷ (ys ++ zs)))) (st.either_of p.start (statements (s ∷ (s' ∷ ss))))
    await_that : {k : Symbol} {p : Spot} {xs : List Lexeme} {e : Tree} → IsAwait k → IsExpression xs e → Spelled false false (at p k ∷ xs) (st.await_that p.start e)
    with_in : {u v : Bool} {p o : Spot} (c : Spot) {xs ys : List Lexeme} {ns : List WithName} {s : Statement} → Items IsWithName symbol.Comma xs ns → Spelled u v ys s
        → Spelled u v (at p (symbol.Keyword keyword.With) ∷ (at o (symbol.Open bracket.Round) ∷ (xs ++ (at c (symbol.Close bracket.Round) ∷ ys)))) (st.with_in p.start ns s)
    print_out : {p : Spot} {xs : List Lexeme} {e : Tree} → IsExpression xs e → Spelled false false (at p (symbol.Keyword keyword.Print) ∷ xs) (st.print_out p.start e)
    assert_that : {p : Spot} {xs : List Lexeme} {e : Tree} → IsExpression xs e → Spelled false false (at p (symbol.Keyword keyword.Assert) ∷ xs) (st.assert_that p.start e)
    go_to : {p n : Spot} {x : Name} → Spelled false false (at p (symbol.Keyword keyword.Goto) ∷ (word n x ∷ [])) (st.go_to p.start (placed n x))
    call_macro : {n : Spot} {x : Name} {xs : List Lexeme} {es : List Tree} → InBrackets IsExpression xs es
        → Spelled false false (word n x ∷ xs) (st.call_macro n.start (placed n x) es)
    yield_as : {p : Spot} {xs : List Lexeme} {e : Tree} → IsExpression xs e → Spelled false false (at p (symbol.Keyword keyword.Yield) ∷ xs) (st.yield_as p.start e)
    block : {o : Spot} (c : Spot) {xs : List Lexeme} {rs : List (Option PlacedName × Statement)} → Rows xs rs
        → Spelled false false (at o (symbol.Open bracket.Curly) ∷ (xs ++ (at c (symbol.Close bracket.Curly) ∷ []))) (st.block o.start (labeled rs))

  pub data IsBranch : Bool → Bool → List Lexeme → ℕ × (Tree × Statement) → Type 0 where
    branch : {u v : Bool} {p o : Spot} (c : Spot) {xs ys : List Lexeme} {e : Tree} {s : Statement} → IsExpression xs e → Spelled u v ys s
        → IsBranch u v (at p (symbol.Keyword keyword.If) ∷ (at o (symbol.Open bracket.Round) ∷ (xs ++ (at c (symbol.Close bracket.Round) ∷ ys)))) (p.start, (e, s))

  pub data ElseIfs : Bool → Bool → Bool → Bool → List Lexeme → List (ℕ × (Tree × Statement)) → Type 0 where
    no_else_if : {u v : Bool} → ElseIfs u v u v [] []
    else_if : {u v w z v' : Bool} {p : Spot} {xs ys : List Lexeme} {b : ℕ × (Tree × Statement)} {bs : List (ℕ × (Tree × Statement))}
        → IsBranch u v xs b → ElseIfs u v w z ys bs → ElseIfs false v' w z (at p (symbol.Keyword keyword.Else) ∷ (xs ++ ys)) (b ∷ bs)

  pub data Ors : Bool → Bool → Bool → Bool → List Lexeme → List Statement → Type 0 where
    no_or : {u v : Bool} → Ors u v u v [] []
    or_this : {u v w z u' : Bool} {p : Spot} {xs ys : List Lexeme} {s : Statement} {ss : List Statement}
        → Spelled u v xs s → Ors u v w z ys ss → Ors u' false w z (at p (symbol.Keyword keyword.Or) ∷ (xs ++ ys)) (s ∷ ss)

  pub data IsLabeled : Bool → Bool → List Lexeme → Option PlacedName × Statement → Type 0 where
    bare : {u v : Bool} {xs : List Lexeme} {s : Statement} → Spelled u v xs s → IsLabeled u v xs (None, s)
    label : {u v : Bool} {n c : Spot} {x : Name} {xs ys : List Lexeme} {s : Statement} → IsFairness xs → Spelled u v ys s
        → IsLabeled u v (word n x ∷ (at c symbol.Colon ∷ (xs ++ ys))) (Some (placed n x), s)

  pub data Rows : List Lexeme → List (Option PlacedName × Statement) → Type 0 where
    no_row : Rows [] []
    last_row : {u v : Bool} {xs : List Lexeme} {r : Option PlacedName × Statement} → IsLabeled u v xs r → Rows xs (r ∷ [])
    row : {u v : Bool} {xs ys zs : List Lexeme} {r : Option PlacedName × Statement} {rs : List (Option PlacedName × Statement)}
        → IsLabeled u v xs r → Ended xs zs → Rows ys rs → Rows (xs ++ (zs ++ ys)) (r ∷ rs)

-- the block of a unit
pub data IsBody : List Lexeme → List (Option PlacedName × Statement) → Type 0 where
  body : {o : Spot} (c : Spot) {xs : List Lexeme} {rs : List (Option PlacedName × Statement)} → Rows xs rs
      → IsBody (at o (symbol.Open bracket.Curly) ∷ (xs ++ (at c (symbol.Close bracket.Curly) ∷ []))) rs
