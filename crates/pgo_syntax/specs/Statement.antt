-- What a statement is, without any trace of how it lies in memory. Each has its place, the offset of its first byte in
-- the text.
use Rattle.std.specs.Prelude.{ℕ, List, [], ◌∷◌, Option}
use Rattle.pgo_base.specs.Tree.{Tree}
use Rattle.pgo_syntax.specs.declared.name.PlacedName.{PlacedName}
use Rattle.pgo_syntax.specs.declared.assignment.Assignment.{Assignment}
use Rattle.pgo_syntax.specs.declared.binding.WithName.{WithName}

mutual
  pub data Statement : Type 0 where
    -- `skip`
    skip : (place : ℕ) → Statement
    -- `left := e || left := e`
    assign : (place : ℕ) → (assignments : List Assignment) → Statement
    -- `if (e) s`, and `if (e) s else if (f) t ..`
    if_then : (place : ℕ) → (branches : GuardedStatements) → Statement
    -- the same with a last `else s`
    if_else : (place : ℕ) → (branches : GuardedStatements) → (otherwise : Statement) → Statement
    -- `while (e) s`
    while_do : (place : ℕ) → (condition : Tree) → (body : Statement) → Statement
    -- `either s or s ..`
    either_of : (place : ℕ) → (alternatives : Statements) → Statement
    -- `await e`, `when e`
    await_that : (place : ℕ) → (condition : Tree) → Statement
    -- `with (v = e, w \in S) s`
    with_in : (place : ℕ) → (names : List WithName) → (body : Statement) → Statement
    -- `print e`
    print_out : (place : ℕ) → (e : Tree) → Statement
    -- `assert e`
    assert_that : (place : ℕ) → (condition : Tree) → Statement
    -- `goto l`
    go_to : (place : ℕ) → (label : PlacedName) → Statement
    -- `m(e, f)`
    call_macro : (place : ℕ) → (called : PlacedName) → (arguments : List Tree) → Statement
    -- `yield e`
    yield_as : (place : ℕ) → (e : Tree) → Statement
    -- `{ .. }`
    block : (place : ℕ) → (body : LabeledStatements) → Statement

  pub data Statements : Type 0 where
    no_statements : Statements
    more_statements : Statement → Statements → Statements

  -- the statements of a block, each with its label if it has one
  pub data LabeledStatements : Type 0 where
    no_labeled : LabeledStatements
    more_labeled : Option PlacedName → Statement → LabeledStatements → LabeledStatements

  -- the branches of an `if` and of each `if` that is its `else`: the place of that `if`, its condition, and what it does
  pub data GuardedStatements : Type 0 where
    no_guarded : GuardedStatements
    more_guarded : ℕ → Tree → Statement → GuardedStatements → GuardedStatements

abbrev pub statements : List Statement → Statements
statements [] = no_statements
statements (s ∷ ss) = more_statements s (statements ss)

abbrev pub labeled : List (Option PlacedName × Statement) → LabeledStatements
labeled [] = no_labeled
labeled (p ∷ ps) = more_labeled p.0 p.1 (labeled ps)

abbrev pub guarded : List (ℕ × (Tree × Statement)) → GuardedStatements
guarded [] = no_guarded
guarded (p ∷ ps) = more_guarded p.0 p.1.0 p.1.1 (guarded ps)

abbrev pub place_of : Statement → ℕ
place_of (skip p) = p
place_of (assign p x) = p
place_of (if_then p x) = p
place_of (if_else p x y) = p
place_of (while_do p x y) = p
place_of (either_of p x) = p
place_of (await_that p x) = p
place_of (with_in p x y) = p
place_of (print_out p x) = p
place_of (assert_that p x) = p
place_of (go_to p x) = p
place_of (call_macro p x y) = p
place_of (yield_as p x) = p
place_of (block p x) = p
