-- Rule 6: in a block of a mapping macro some path doesn't end in its one `yield`, or there stands in it what may not.
use Rattle.std.specs.Prelude.{Bool, true, false, ◌||◌, ◌&&◌, not, codes, if◌then◌else◌, List, [], ◌∷◌, ◌++◌, map, flat_map}
use Rattle.std.specs.List.{list_any}
use Rattle.pgo_base.specs.Tree.{Tree}
use Rattle.pgo_base.specs.Lookup.{Name}
use Rattle.pgo_operands.specs.Mentions.{mentions}
use Rattle.pgo_syntax.specs.declared.assignment.Step.{Step}
use Rattle.pgo_syntax.specs.declared.assignment.Step.TheVariants.{Index, Field}
use Rattle.pgo_syntax.specs.declared.macros.MappingMacro.{MappingMacro}
use Rattle.pgo_syntax.specs.Origins.{origin_tree}
use Rattle.pgo_syntax.specs.Statement.{Statement, skip, assign, if_then, if_else, while_do, either_of, await_that, with_in, print_out, assert_that, go_to, call_macro, yield_as, block, Statements, no_statements, more_statements, LabeledStatements, no_labeled, more_labeled, GuardedStatements, no_guarded, more_guarded, labeled}
use Rattle.pgo_labels.specs.declared.errors.LabelError.TheVariants.{YieldRule}
use Rattle.pgo_labels.specs.declared.finding.Finding.{Finding}
use Rattle.pgo_labels.specs.Inside.{Item, inside, with_inside}
use Rattle.pgo_labels.specs.Findings.{found_at}

abbrev pub is_yield : Statement → Bool
is_yield (yield_as p e) = true
is_yield _ = false

-- whether a `yield` stands in it, or is it
abbrev pub has_yield : Statement → Bool
has_yield s = is_yield s || list_any (λ i. is_yield i.1) (inside s)

-- whether each path of a statement ends in its one `yield`
abbrev mutual
  pub ends_in_yield : Statement → Bool
  ends_in_yield (skip p) = false
  ends_in_yield (assign p x) = false
  ends_in_yield (if_then p bs) = false
  ends_in_yield (if_else p bs s) = branches_end bs && ends_in_yield s
  ends_in_yield (while_do p e s) = false
  ends_in_yield (either_of p ss) = all_end ss
  ends_in_yield (await_that p e) = false
  ends_in_yield (with_in p ns s) = ends_in_yield s
  ends_in_yield (print_out p e) = false
  ends_in_yield (assert_that p e) = false
  ends_in_yield (go_to p l) = false
  ends_in_yield (call_macro p m es) = false
  ends_in_yield (yield_as p e) = true
  ends_in_yield (block p ls) = row_ends ls

  -- statements one behind the other
  pub row_ends : LabeledStatements → Bool
  row_ends no_labeled = false
  row_ends (more_labeled l s no_labeled) = ends_in_yield s
  row_ends (more_labeled l s (more_labeled k t ss)) = not (has_yield s) && row_ends (more_labeled k t ss)

  pub all_end : Statements → Bool
  all_end no_statements = true
  all_end (more_statements s ss) = ends_in_yield s && all_end ss

  pub branches_end : GuardedStatements → Bool
  branches_end no_guarded = true
  branches_end (more_guarded p e s ss) = ends_in_yield s && branches_end ss

-- `while`, `print`, `goto` and the call of a macro have no place in a mapping macro
abbrev pub is_forbidden : Statement → Bool
is_forbidden (while_do p e s) = true
is_forbidden (print_out p e) = true
is_forbidden (go_to p l) = true
is_forbidden (call_macro p m es) = true
is_forbidden _ = false

abbrev pub indices : List Step → List Tree
indices [] = []
indices (Index e ∷ steps) = e ∷ indices steps
indices (Field f ∷ steps) = indices steps

abbrev pub conditions : GuardedStatements → List Tree
conditions no_guarded = []
conditions (more_guarded p e s ss) = e ∷ conditions ss

-- the expressions of a statement, without those of the statements within it
abbrev pub expressions : Statement → List Tree
expressions (skip p) = []
expressions (assign p x) = flat_map (λ a. indices a.left.path ++ a.right ∷ []) x
expressions (if_then p bs) = conditions bs
expressions (if_else p bs s) = conditions bs
expressions (while_do p e s) = e ∷ []
expressions (either_of p ss) = []
expressions (await_that p e) = e ∷ []
expressions (with_in p ns s) = map (λ w. origin_tree w.origin) ns
expressions (print_out p e) = e ∷ []
expressions (assert_that p e) = e ∷ []
expressions (go_to p l) = []
expressions (call_macro p m es) = es
expressions (yield_as p e) = e ∷ []
expressions (block p ls) = []

-- whether the name stands in an expression of these statements
abbrev pub statements_mention : Name → List Item → Bool
statements_mention n is = list_any (mentions n) (flat_map (λ i. expressions i.1) is)

abbrev pub is_well_formed : List Item → Bool
is_well_formed b = row_ends (labeled b) && not (list_any (λ i. is_forbidden i.1) (with_inside b))

-- whether a mapping macro's blocks are as they must be; `$value` is what is written, so there is none in a read
abbrev pub keeps_yield_rule : MappingMacro → Bool
keeps_yield_rule m = is_well_formed m.read && is_well_formed m.write && not (statements_mention (codes "$value") (with_inside m.read))

-- a mapping macro isn't as it must be
abbrev pub yield_rule : MappingMacro → List Finding
yield_rule m = if keeps_yield_rule m then [] else found_at m.name.place (YieldRule m.name.name) ∷ []
