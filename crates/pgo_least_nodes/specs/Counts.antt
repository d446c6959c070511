-- Nodes that each expansion of some statements has, whatever follows them.
--
-- Of each statement one node is counted, and one of its expression or three where that is an operation on two others, once for each
-- path that leads to it. What stands in the place
-- of a macro's call is counted once for the macro.
use Rattle.std.specs.Prelude.{ℕ, suc, ◌+◌, ◌*◌, ◌^◌, ◌-◌, min, Bool, true, false, List, [], ◌∷◌, map, Option, Some, None}
use Rattle.pgo_base.specs.Lookup.{Name, find}
use Rattle.pgo_base.specs.Tree.{Tree, binary}
use Rattle.pgo_syntax.specs.Origins.{origin_tree}
use Rattle.pgo_syntax.specs.Statement.{Statement, skip, assign, if_then, if_else, while_do, either_of as either, await_that, with_in, print_out, assert_that, go_to, call_macro, yield_as, block, Statements, no_statements, more_statements, LabeledStatements, no_labeled, more_labeled, GuardedStatements, no_guarded, more_guarded, labeled}
use Rattle.pgo_syntax.specs.declared.archetype.Archetype.{Archetype}
use Rattle.pgo_syntax.specs.declared.macros.Macro.{Macro}
use Rattle.pgo_least_nodes.specs.declared.count.Count.{Count}
use Rattle.pgo_least_nodes.specs.declared.count.Counts.{Counts}

abbrev pub sum : ℕ → ℕ → ℕ
sum a b = min (a + b) (2 ^ 64 - 1)

abbrev pub times : ℕ → ℕ → ℕ
times a b = min (a * b) (2 ^ 64 - 1)

-- nothing, and nothing of what follows
abbrev pub none : Count
none = record { nodes = 0; paths = 0 }

-- n nodes, and then what follows
abbrev pub step : ℕ → Count
step n = record { nodes = n; paths = 1 }

-- a jump, whatever follows
abbrev pub jump : Count
jump = record { nodes = 1; paths = 0 }

-- the one and the other, and one behind the other
abbrev pub both : Count → Count → Count
both a b = record { nodes = sum a.nodes b.nodes; paths = sum a.paths b.paths }

abbrev pub then' : Count → Count → Count
then' a b = record { nodes = sum a.nodes (times a.paths b.nodes); paths = times a.paths b.paths }

-- nodes that an expression has at least
abbrev pub some_of : Tree → ℕ
some_of (binary o a b) = 3
some_of _ = 1

-- of a statement with an expression
abbrev pub said : Tree → Count
said e = step (suc (some_of e))

-- of the first of several
abbrev pub said_first : List Tree → Count
said_first [] = step 0
said_first (e ∷ es) = said e

-- a macro's call is a node itself; of one that isn't declared nothing is done
abbrev pub called : Option Count → Count
called None = step 0
called (Some w) = then' (step 1) w

-- a statement with no label in it
abbrev pub plain : Count → Counts
plain w = record { own = w; labels = none }

abbrev pub behind : Count → Counts → Counts
behind w a = record { own = then' w a.own; labels = a.labels }

abbrev pub ended : Counts → Counts
ended a = record { own = then' a.own jump; labels = then' a.labels jump }

abbrev pub either_of : Counts → Counts → Counts
either_of a b = record { own = both a.own b.own; labels = both a.labels b.labels }

-- a test between the one and the other
abbrev pub branch : Tree → Counts → Counts → Counts
branch e a b = behind (said e) (either_of a b)

-- a statement, and then those behind it
abbrev pub in_row : Counts → Counts → Counts
in_row a rest = record { own = then' a.own rest.own; labels = both (then' a.labels rest.own) rest.labels }

-- what comes before a label ends there
abbrev pub labelled : Counts → Counts → Counts
labelled a rest = record { own = jump; labels = both (in_row a rest).own (in_row a rest).labels }

abbrev pub with_rest : Bool → Counts → Counts → Counts
with_rest true a rest = labelled a rest
with_rest false a rest = in_row a rest

-- the counts of macros by their names, the newest first
abbrev pub Table : Type 0
Table = List (Name × Count)

abbrev mutual
  -- of a statement, and of the sections of the labels in it
  pub counts : Table → Statement → Counts
  counts ms (skip p) = plain (step 1)
  counts ms (assign p as') = plain (said_first (map (λ a. a.right) as'))
  counts ms (if_then p bs) = branches_counts ms (plain (step 0)) bs
  counts ms (if_else p bs t) = branches_counts ms (counts ms t) bs
  counts ms (while_do p e t) = branch e (ended (counts ms t)) (plain (step 0))
  counts ms (either p ts) = behind (step 1) (arms_counts ms ts)
  counts ms (await_that p e) = plain (said e)
  counts ms (with_in p ws t) = behind (said_first (map (λ w. origin_tree w.origin) ws)) (counts ms t)
  counts ms (print_out p e) = plain (said e)
  counts ms (assert_that p e) = plain (said e)
  counts ms (go_to p x) = plain jump
  counts ms (call_macro p m es) = plain (called (find m.name ms))
  counts ms (yield_as p e) = plain jump
  counts ms (block p ls) = row_counts ms ls

  pub arms_counts : Table → Statements → Counts
  arms_counts ms no_statements = plain none
  arms_counts ms (more_statements t ts) = either_of (counts ms t) (arms_counts ms ts)

  -- and what is done where no branch is taken
  pub branches_counts : Table → Counts → GuardedStatements → Counts
  branches_counts ms other no_guarded = other
  branches_counts ms other (more_guarded p e t bs) = branch e (counts ms t) (branches_counts ms other bs)

  pub row_counts : Table → LabeledStatements → Counts
  row_counts ms no_labeled = plain (step 0)
  row_counts ms (more_labeled None t ls) = in_row (counts ms t) (row_counts ms ls)
  row_counts ms (more_labeled (Some x) t ls) = labelled (counts ms t) (row_counts ms ls)

-- each macro with those before it
abbrev pub counts_with : Table → List Macro → Table
counts_with ms [] = ms
counts_with ms (m ∷ rest) = counts_with ((m.name.name, (row_counts ms (labeled m.body)).own) ∷ ms) rest

abbrev pub macro_counts : List Macro → Table
macro_counts ms = counts_with [] ms

-- of all sections of an archetype's labels
abbrev pub least_nodes : Table → Archetype → ℕ
least_nodes ms a = (then' (row_counts ms (labeled a.body)).labels jump).nodes
