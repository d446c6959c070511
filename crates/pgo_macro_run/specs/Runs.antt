-- What the statements of a macro's block do.
use Rattle.std.specs.Prelude.{ℕ, zero, suc}
use Rattle.pgo_base.specs.Lookup.{Names}
use Rattle.pgo_model.specs.Operators.{truth_of}
use Rattle.pgo_model.specs.Options.{on}
use Rattle.pgo_model.specs.Outcome.{Blocked, NoValue, AssertFails}
use Rattle.pgo_syntax.specs.Statement.{Statement, skip, assign, if_then, if_else, while_do, either_of, await_that, with_in, print_out, assert_that, go_to, call_macro, yield_as, block, Statements, no_statements, more_statements, LabeledStatements, no_labeled, more_labeled, GuardedStatements, no_guarded, more_guarded}
use Rattle.pgo_sections.specs.BoundValues.{bindable}
use Rattle.pgo_macro_run.specs.Given.{Given, Now, Answer, Goes, Yields, Fails, needs, decide, then_do, next_pick, drawn, setting, then_in, value_of, bind_all}
use Rattle.pgo_macro_run.specs.Assigned.{assigned}

abbrev pub count : Statements → ℕ
count no_statements = 0
count (more_statements s ss) = suc (count ss)

-- behind a jump there is nothing
abbrev pub jumps : Answer → Answer
jumps a = then_do a (λ n. Fails NoValue n.choices)

module _ (g : Given) where
  abbrev mutual
    pub run : Statement → Names → Now → Answer
    run (skip p) env n = Goes n
    run (assign p as') env n = setting (assigned (value_of g) as' env n.content) n
    run (if_then p bs) env n = branches bs (Goes n) env n
    run (if_else p bs t) env n = branches bs (run t env n) env n
    run (while_do p e t) env n = decide (truth_of (value_of g e env n.content)) n.choices (jumps (run t env n)) (Goes n)
    run (either_of p ts) env n = let many = count ts in let i = next_pick g.words n many in arm ts i env (drawn many i n)
    run (await_that p e) env n = decide (truth_of (value_of g e env n.content)) n.choices (Goes n) (Fails Blocked n.choices)
    run (with_in p ws t) env n = then_in (bind_all g ws env n) (λ env' m. run t env' m)
    run (print_out p e) env n = needs (value_of g e env n.content) n.choices (λ v. Goes n)
    run (assert_that p e) env n = decide (truth_of (value_of g e env n.content)) n.choices (Goes n) (Fails AssertFails n.choices)
    run (go_to p x) env n = Fails NoValue n.choices
    run (call_macro p m es) env n = Goes n
    run (yield_as p e) env n = needs (bindable (value_of g e env n.content)) n.choices (λ v. Yields v n)
    run (block p ls) env n = rows ls env n

    -- the first branch whose condition holds, or else `other`
    pub branches : GuardedStatements → Answer → Names → Now → Answer
    branches no_guarded other env n = other
    branches (more_guarded p e t bs) other env n = decide (truth_of (value_of g e env n.content)) n.choices (run t env n) (branches bs other env n)

    pub arm : Statements → ℕ → Names → Now → Answer
    arm no_statements i env n = Fails NoValue n.choices
    arm (more_statements t ts) zero env n = run t env n
    arm (more_statements t ts) (suc i) env n = arm ts i env n

    -- a label ends the block
    pub rows : LabeledStatements → Names → Now → Answer
    rows no_labeled env n = Goes n
    rows (more_labeled x t ls) env n = on (then_do (run t env n) (λ m. rows ls env m)) x (λ y. Fails NoValue n.choices)
