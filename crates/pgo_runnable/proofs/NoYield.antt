-- Where no `yield` may stand in statements, none stands there.
use Rattle.std.proofs.Common.{Bool, false, List}
use Rattle.pgo_base.specs.Lookup.{Name}
use Rattle.pgo_base.specs.Tree.{Tree}
use Rattle.pgo_syntax.specs.Statement.{Statement, skip, assign, if_then, if_else, while_do, either_of, await_that, with_in, print_out, assert_that, go_to, call_macro, yield_as, block, Statements, no_statements, more_statements, LabeledStatements, no_labeled, more_labeled, GuardedStatements, no_guarded, more_guarded}
use Rattle.pgo_syntax.specs.declared.name.PlacedName.{PlacedName}
use Rattle.pgo_uses.specs.declared.uses.Shape.{Shape}
use Rattle.pgo_accesses.specs.WithoutYield.{WithoutYield, EachWithout, LabeledWithout, GuardedWithout}
use Rattle.pgo_agrees.proofs.Fine.{in_with, Fine, EachFine, LabeledFine, GuardedFine}

module _ (N : List Name → Bool → Bool → Name → Type 0) (C B W : Name → Type 0) (A : List Name → Shape → Name → Type 0) (M : List Name → PlacedName → List Tree → Type 0) where
  mutual
    pub without : (s : Statement) (l : Bool) (ns : List Name) → Fine N C B W A M ⊥ l ns s → WithoutYield s
    without (skip p) l ns h = tt
    without (assign p as') l ns h = tt
    without (if_then p bs) l ns h = guarded_without bs l ns h
    without (if_else p bs s) l ns h = (guarded_without bs l ns h.0, without s l ns h.1)
    without (while_do p e s) l ns h = without s l ns h.1
    without (either_of p ss) l ns h = each_without ss l ns h
    without (await_that p e) l ns h = tt
    without (with_in p ws s) l ns h = without s false (in_with ns ws) h.1
    without (print_out p e) l ns h = tt
    without (assert_that p e) l ns h = tt
    without (go_to p x) l ns h = tt
    without (call_macro p m ts) l ns h = tt
    without (yield_as p e) l ns h = absurd h.0
    without (block p ls) l ns h = labeled_without ls l ns h

    pub each_without : (ss : Statements) (l : Bool) (ns : List Name) → EachFine N C B W A M ⊥ l ns ss → EachWithout ss
    each_without no_statements l ns h = tt
    each_without (more_statements s ss) l ns h = (without s l ns h.0, each_without ss l ns h.1)

    pub labeled_without : (ls : LabeledStatements) (l : Bool) (ns : List Name) → LabeledFine N C B W A M ⊥ l ns ls → LabeledWithout ls
    labeled_without no_labeled l ns h = tt
    labeled_without (more_labeled x s ls) l ns h = (without s l ns h.1, labeled_without ls l ns h.2)

    pub guarded_without : (bs : GuardedStatements) (l : Bool) (ns : List Name) → GuardedFine N C B W A M ⊥ l ns bs → GuardedWithout bs
    guarded_without no_guarded l ns h = tt
    guarded_without (more_guarded p e s bs) l ns h = (without s l ns h.1, guarded_without bs l ns h.2)
