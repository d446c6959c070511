-- Which statements have well-formed expressions, and short identifiers as their names.
use Rattle.std.specs.Prelude.{◌≡◌, ◌⊎◌, Bool, true, false, List, [], ◌∷◌, Option, Some, None}
use Rattle.pgo_base.specs.Lookup.{Name}
use Rattle.pgo_base.specs.Tree.{Tree}
use Rattle.pgo_expr_write.specs.WellFormed.{IsName}
use Rattle.pgo_model.specs.Names.{is_among}
use Rattle.pgo_syntax.specs.Statement.{Statement, skip, assign, if_then, if_else, while_do, either_of, await_that, with_in, print_out, assert_that, go_to, call_macro, yield_as, block, Statements, no_statements, more_statements, LabeledStatements, no_labeled, more_labeled, GuardedStatements, no_guarded, more_guarded}
use Rattle.pgo_syntax.specs.declared.assignment.Assignment.{Assignment}
use Rattle.pgo_syntax.specs.declared.assignment.Step.{Step}
use Rattle.pgo_syntax.specs.declared.assignment.Step.TheVariants as step
use Rattle.pgo_syntax.specs.declared.binding.Origin.{Origin}
use Rattle.pgo_syntax.specs.declared.binding.Origin.TheVariants as origins
use Rattle.pgo_syntax.specs.declared.binding.WithName.{WithName}
use Rattle.pgo_syntax.specs.declared.name.PlacedName.{PlacedName}
use Rattle.pgo_meaning.specs.MacrosPlaced.{unmarked}
use Rattle.pgo_written.specs.Formed.{Formed, RangeFormed}
use Rattle.pgo_written.specs.FormedCode.{IsShort, IsText}

-- an identifier, or one of these names
abbrev pub Known : List Name → Name → Type 0
Known ns x = IsName x ⊎ (is_among x ns ≡ true)

abbrev pub OriginFormed : List Name → Origin → Type 0
OriginFormed ns (origins.Equals e) = Formed (Known ns) e
OriginFormed ns (origins.In e) = RangeFormed (Known ns) e

abbrev pub PathFormed : List Name → List Step → Type 0
PathFormed ns [] = Unit {0}
PathFormed ns (step.Index e ∷ ss) = Formed (Known ns) e × PathFormed ns ss
PathFormed ns (step.Field x ∷ ss) = IsText x × PathFormed ns ss

abbrev pub AssignmentsFormed : List Name → List Assignment → Type 0
AssignmentsFormed ns [] = Unit {0}
AssignmentsFormed ns (a ∷ as') = PathFormed ns a.left.path × Formed (Known ns) a.right × AssignmentsFormed ns as'

-- each name of a `with` sees those before it
abbrev pub WithsFormed : List Name → List WithName → Type 0
WithsFormed ns [] = Unit {0}
WithsFormed ns (w ∷ ws) = IsShort (unmarked w.name.name) × OriginFormed ns w.origin × WithsFormed (w.name.name ∷ ns) ws

-- the names in a `with`
abbrev pub in_with : List Name → List WithName → List Name
in_with ns [] = ns
in_with ns (w ∷ ws) = in_with (w.name.name ∷ ns) ws

abbrev pub EachTree : List Name → List Tree → Type 0
EachTree ns [] = Unit {0}
EachTree ns (t ∷ ts) = Formed (Known ns) t × EachTree ns ts

-- the arguments of a call, where calls count
abbrev pub CallFormed : Bool → List Name → List Tree → Type 0
CallFormed true ns ts = EachTree ns ts
CallFormed false ns ts = Unit {0}

-- a label that stands in them is a short identifier
abbrev pub LabelFormed : Bool → Option PlacedName → Type 0
LabelFormed l None = Unit {0}
LabelFormed l (Some x) = (l ≡ true) × IsShort x.name

abbrev pub AreIdentifiers : List WithName → Type 0
AreIdentifiers [] = Unit {0}
AreIdentifiers (w ∷ ws) = IsName w.name.name × AreIdentifiers ws

-- c: whether calls count; l: whether labels may stand in them. They may stand in a `with` only where its names are identifiers
abbrev mutual
  pub StatementFormed : Bool → Bool → List Name → Statement → Type 0
  StatementFormed c l ns (skip p) = Unit {0}
  StatementFormed c l ns (assign p as') = AssignmentsFormed ns as'
  StatementFormed c l ns (if_then p bs) = GuardedFormed c l ns bs
  StatementFormed c l ns (if_else p bs s) = GuardedFormed c l ns bs × StatementFormed c l ns s
  StatementFormed c l ns (while_do p e s) = Formed (Known ns) e × StatementFormed c l ns s
  StatementFormed c l ns (either_of p ss) = EachFormed c l ns ss
  StatementFormed c l ns (await_that p e) = Formed (Known ns) e
  StatementFormed c l ns (with_in p ws s) =
      WithsFormed ns ws × ((AreIdentifiers ws × StatementFormed c l (in_with ns ws) s) ⊎ StatementFormed c false (in_with ns ws) s)
  StatementFormed c l ns (print_out p e) = Formed (Known ns) e
  StatementFormed c l ns (assert_that p e) = Formed (Known ns) e
  StatementFormed c l ns (go_to p x) = IsShort x.name
  StatementFormed c l ns (call_macro p m ts) = CallFormed c ns ts
  StatementFormed c l ns (yield_as p e) = Formed (Known ns) e
  StatementFormed c l ns (block p ls) = LabeledFormed c l ns ls

  pub EachFormed : Bool → Bool → List Name → Statements → Type 0
  EachFormed c l ns no_statements = Unit {0}
  EachFormed c l ns (more_statements s ss) = StatementFormed c l ns s × EachFormed c l ns ss

  pub LabeledFormed : Bool → Bool → List Name → LabeledStatements → Type 0
  LabeledFormed c l ns no_labeled = Unit {0}
  LabeledFormed c l ns (more_labeled x s ls) = LabelFormed l x × StatementFormed c l ns s × LabeledFormed c l ns ls

  pub GuardedFormed : Bool → Bool → List Name → GuardedStatements → Type 0
  GuardedFormed c l ns no_guarded = Unit {0}
  GuardedFormed c l ns (more_guarded p e s bs) = Formed (Known ns) e × StatementFormed c l ns s × GuardedFormed c l ns bs
