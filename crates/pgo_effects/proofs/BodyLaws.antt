-- The bodies of macros: of the last one, and where there is none.
use Rattle.std.proofs.Common.{◌≡◌, List, [], ◌∷◌, ◌++◌, refl, ap}
use Rattle.pgo_syntax.specs.Statement.{Statement, skip, assign, if_then, if_else, while_do, either_of, await_that, with_in, print_out, assert_that, go_to, call_macro, yield_as, block, Statements, no_statements, more_statements, LabeledStatements, no_labeled, more_labeled, GuardedStatements, no_guarded, more_guarded}
use Rattle.pgo_syntax.specs.declared.macros.Macro.{Macro}
use Rattle.pgo_meaning.specs.MacrosPlaced.{Bodies, placed, placed_each, placed_among, placed_guarded, bodies_with, bodies}
use Rattle.pgo_effects.specs.Bodies.{body_after}

bodies_behind : (ms : List Macro) (done' : Bodies) (m : Macro) → bodies_with done' (ms ++ m ∷ []) ≡ (m.name.name, body_after (bodies_with done' ms) m) ∷ bodies_with done' ms
bodies_behind [] done' m = refl
bodies_behind (n ∷ ms) done' m = bodies_behind ms ((n.name.name, body_after done' n) ∷ done') m

-- the last macro comes first, with those before it in place
pub bodies_last : (ms : List Macro) (m : Macro) → bodies (ms ++ m ∷ []) ≡ (m.name.name, body_after (bodies ms) m) ∷ bodies ms
bodies_last ms m = bodies_behind ms [] m

mutual
  placed_none : (t : Statement) → placed [] t ≡ t
  placed_none (skip p) = refl
  placed_none (assign p as') = refl
  placed_none (if_then p bs) = ap (if_then p) (guarded_alone bs)
  placed_none (if_else p bs t) = λ i. if_else p (guarded_alone bs i) (placed_none t i)
  placed_none (while_do p e t) = ap (while_do p e) (placed_none t)
  placed_none (either_of p ts) = ap (either_of p) (each_alone ts)
  placed_none (await_that p e) = refl
  placed_none (with_in p ws t) = ap (with_in p ws) (placed_none t)
  placed_none (print_out p e) = refl
  placed_none (assert_that p e) = refl
  placed_none (go_to p l) = refl
  placed_none (call_macro p m ts) = refl
  placed_none (yield_as p e) = refl
  placed_none (block p ls) = ap (block p) (among_alone ls)

  each_alone : (ts : Statements) → placed_each [] ts ≡ ts
  each_alone no_statements = refl
  each_alone (more_statements t ts) = λ i. more_statements (placed_none t i) (each_alone ts i)

  -- where there is no macro, statements stay as they are
  pub among_alone : (ls : LabeledStatements) → placed_among [] ls ≡ ls
  among_alone no_labeled = refl
  among_alone (more_labeled x t ls) = λ i. more_labeled x (placed_none t i) (among_alone ls i)

  guarded_alone : (bs : GuardedStatements) → placed_guarded [] bs ≡ bs
  guarded_alone no_guarded = refl
  guarded_alone (more_guarded p e t bs) = λ i. more_guarded p e (placed_none t i) (guarded_alone bs i)
