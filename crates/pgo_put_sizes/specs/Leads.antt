-- Where the paths through a statement of a mapping macro lead.
use Rattle.std.specs.Prelude.{Bool, true, false, ◌||◌, ◌&&◌, [], ◌∷◌, Some, None}
use Rattle.pgo_put_sizes.specs.Least.{yields}
use Rattle.pgo_put_sizes.specs.declared.blocks.Paths.{Paths}
use Rattle.pgo_sections.specs.Access.{MappedNames}
use Rattle.pgo_syntax.specs.Statement.{Statement, skip, assign, if_then, if_else, while_do, either_of, await_that, with_in, print_out, assert_that, go_to, call_macro, yield_as, block, Statements, no_statements, more_statements, LabeledStatements, no_labeled, more_labeled, GuardedStatements, no_guarded, more_guarded}

-- it only goes on; it never does either
abbrev pub goes_on : Paths
goes_on = record { passes = true; yields = false }

abbrev pub nowhere : Paths
nowhere = record { passes = false; yields = false }

-- the one or the other, and one behind the other
abbrev pub either_way : Paths → Paths → Paths
either_way a b = record { passes = a.passes || b.passes; yields = a.yields || b.yields }

abbrev pub then_way : Paths → Paths → Paths
then_way a b = record { passes = a.passes && b.passes; yields = a.yields || (a.passes && b.yields) }

abbrev mutual
  pub leads : Statement → Paths
  leads (skip p) = goes_on
  leads (assign p x) = goes_on
  leads (if_then p bs) = branches_lead goes_on bs
  leads (if_else p bs t) = branches_lead (leads t) bs
  leads (while_do p e t) = record { passes = true; yields = (leads t).yields }
  leads (either_of p ts) = any_lead nowhere ts
  leads (await_that p e) = goes_on
  leads (with_in p ws t) = leads t
  leads (print_out p e) = goes_on
  leads (assert_that p e) = goes_on
  leads (go_to p x) = nowhere
  leads (call_macro p m es) = goes_on
  leads (yield_as p e) = record { passes = false; yields = true }
  leads (block p ls) = row_leads goes_on ls

  -- those, or one of these
  pub any_lead : Paths → Statements → Paths
  any_lead a no_statements = a
  any_lead a (more_statements t ts) = any_lead (either_way a (leads t)) ts

  pub branches_lead : Paths → GuardedStatements → Paths
  branches_lead a no_guarded = a
  branches_lead a (more_guarded p e t bs) = branches_lead (either_way a (leads t)) bs

  -- those, and then these up to the first label
  pub row_leads : Paths → LabeledStatements → Paths
  row_leads a no_labeled = a
  row_leads a (more_labeled None t ls) = row_leads (then_way a (leads t)) ls
  row_leads a (more_labeled (Some x) t ls) = then_way a nowhere

-- whether each mapped parameter's read has a path to a `yield`
abbrev pub all_yield : MappedNames → Bool
all_yield [] = true
all_yield (m ∷ ms) = yields m.1.reads && all_yield ms

-- whether each mapped parameter's blocks have such a path
abbrev pub all_pass : MappedNames → Bool
all_pass [] = true
all_pass (m ∷ ms) = yields m.1.reads && yields m.1.writes && all_pass ms
