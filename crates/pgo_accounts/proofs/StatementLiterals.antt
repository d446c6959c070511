-- The literals of statements that tokens spell are within limits where the tokens' numbers, strings and names are.
use Rattle.std.proofs.Common.{ℕ, Bool, List, ◌∷◌, Option}
use Rattle.std.specs.List.{AllByRecursion}
use Rattle.pgo_base.specs.Tree.{Tree}
use Rattle.pgo_lexer.specs.declared.symbol.Symbol.TheVariants as symbol
use Rattle.pgo_lexer.specs.declared.token.Lexeme.{Lexeme}
use Rattle.pgo_mpcal_read.specs.Elements.{IsExpression, IsRange}
use Rattle.pgo_mpcal_read.specs.Statements.{IsStep, IsLeft, IsAssignment, IsOrigin, IsWithName, Spelled, IsBranch, ElseIfs, Ors, IsLabeled, Rows, IsBody}
use Rattle.pgo_mpcal_read.specs.Statements as m
use Rattle.pgo_syntax.specs.Statement.{Statement, statements, labeled, guarded}
use Rattle.pgo_syntax.specs.declared.assignment.Assignment.{Assignment}
use Rattle.pgo_syntax.specs.declared.assignment.Left.{Left}
use Rattle.pgo_syntax.specs.declared.assignment.Step.{Step}
use Rattle.pgo_syntax.specs.declared.binding.Origin.{Origin}
use Rattle.pgo_syntax.specs.declared.binding.WithName.{WithName}
use Rattle.pgo_syntax.specs.declared.name.PlacedName.{PlacedName}
use Rattle.pgo_agrees.proofs.EachToken.{cut, tokens_each, all_items, all_in_brackets, all_in_row}
use Rattle.pgo_values.specs.Literals.{LiteralsWithin}
use Rattle.pgo_systems.specs.Literals.{OriginWithin}
use Rattle.pgo_systems.specs.StatementLiterals.{StepWithin, AssignmentWithin, StatementWithin, StatementsWithin, LabeledWithin, GuardedWithin}
use Rattle.pgo_accounts.proofs.Tokens.{IsPlain}
use Rattle.pgo_accounts.proofs.ExpressionLiterals.{fits, fits_range}
use Rattle.pgo_values.specs.Limits.{Limits}

module _ (limits : Limits) where
  -- the numbers, strings and names among these tokens are within the limits
  abbrev pub ArePlain : List Lexeme → Type 0
  ArePlain = AllByRecursion (λ (l : Lexeme). IsPlain limits l.token)

  pub expression : {xs : List Lexeme} {e : Tree} → IsExpression xs e → ArePlain xs → LiteralsWithin limits e
  expression {xs} {e} d h = fits limits d.spells.2 (tokens_each (IsPlain limits) xs h)

  range : {xs : List Lexeme} {e : Tree} → IsRange xs e → ArePlain xs → LiteralsWithin limits e
  range {xs} {e} d h = fits_range limits d.range (tokens_each (IsPlain limits) xs h)

  -- ---- assignments and names of a `with`

  step_fits : (xs : List Lexeme) (s : Step) → IsStep xs s → ArePlain xs → StepWithin limits s
  step_fits xs s (m.index c {xs = ys} d) h = expression d (cut _ ys _ h.1).0
  step_fits xs s m.field h = h.1.0

  left_fits : (xs : List Lexeme) (l : Left) → IsLeft xs l → ArePlain xs → AllByRecursion (StepWithin limits) l.path
  left_fits xs l (m.named {xs = ys} {path = p} r) h = all_in_row _ IsStep (StepWithin limits) step_fits ys p r h.1
  left_fits xs l (m.variable {xs = ys} {path = p} r) h = all_in_row _ IsStep (StepWithin limits) step_fits ys p r h.1

  assignment_fits : (xs : List Lexeme) (a : Assignment) → IsAssignment xs a → ArePlain xs → AssignmentWithin limits a
  assignment_fits xs a (m.assignment p {xs = ys} {ys = zs} {l = l} {e = e} i d) h =
      let q = cut _ ys _ h in (left_fits ys l i q.0, expression d q.1.1)

  pub origin_fits : (xs : List Lexeme) (o : Origin) → IsOrigin xs o → ArePlain xs → OriginWithin limits o
  origin_fits xs o (m.equals d) h = expression d h.1
  origin_fits xs o (m.member d) h = range d h.1

  abbrev OneWith : WithName → Type 0
  OneWith w = OriginWithin limits w.origin

  with_fits : (xs : List Lexeme) (w : WithName) → IsWithName xs w → ArePlain xs → OneWith w
  with_fits xs w (m.with_name {xs = ys} {o = o} d) h = origin_fits ys o d h.1

  -- ---- statements
  mutual
    pub statement_fits : {u v : Bool} {xs : List Lexeme} {s : Statement} → Spelled u v xs s → ArePlain xs → StatementWithin limits s
    statement_fits m.skip h = tt
    statement_fits (m.assign {xs = xs} {a = a} {as' = as'} i) h =
        all_items _ IsAssignment (AssignmentWithin limits) assignment_fits symbol.Bars xs (a ∷ as') i h
    statement_fits (m.if_then {xs = xs} d e) h = let q = cut _ xs _ h in let r = branch_fits d q.0 in (r.0, r.1, else_ifs_fits e q.1)
    statement_fits (m.if_else p {xs = xs} {ys = ys} d e g f) h =
        let q = cut _ xs _ h in let w = cut _ ys _ q.1 in let r = branch_fits d q.0 in ((r.0, r.1, else_ifs_fits e w.0), statement_fits f w.1.1)
    statement_fits (m.while_do c {xs = xs} d f) h = let q = cut _ xs _ h.1.1 in (expression d q.0, statement_fits f q.1.1)
    statement_fits (m.either_of q {xs = xs} {ys = ys} d e o) h =
        let r = cut _ xs _ h.1 in let w = cut _ ys _ r.1.1 in (statement_fits d r.0, (statement_fits e w.0, ors_fits o w.1))
    statement_fits (m.await_that a d) h = expression d h.1
    statement_fits (m.with_in c {xs = xs} {ns = ns} i f) h =
        let q = cut _ xs _ h.1.1 in (all_items _ IsWithName OneWith with_fits symbol.Comma xs ns i q.0, statement_fits f q.1.1)
    statement_fits (m.print_out d) h = expression d h.1
    statement_fits (m.assert_that d) h = expression d h.1
    statement_fits m.go_to h = tt
    statement_fits (m.call_macro {xs = xs} {es = es} i) h =
        all_in_brackets _ IsExpression (LiteralsWithin limits) (λ ys e d g. expression d g) xs es i h.1
    statement_fits (m.yield_as d) h = expression d h.1
    statement_fits (m.block c {xs = xs} r) h = rows_fits r (cut _ xs _ h.1).0

    branch_fits : {u v : Bool} {xs : List Lexeme} {r : ℕ × (Tree × Statement)} → IsBranch u v xs r → ArePlain xs → LiteralsWithin limits r.1.0 × StatementWithin limits r.1.1
    branch_fits (m.branch c {xs = xs} d f) h = let q = cut _ xs _ h.1.1 in (expression d q.0, statement_fits f q.1.1)

    else_ifs_fits : {u v w z : Bool} {xs : List Lexeme} {bs : List (ℕ × (Tree × Statement))} → ElseIfs u v w z xs bs → ArePlain xs → GuardedWithin limits (guarded bs)
    else_ifs_fits m.no_else_if h = tt
    else_ifs_fits (m.else_if {xs = xs} d e) h = let q = cut _ xs _ h.1 in let r = branch_fits d q.0 in (r.0, r.1, else_ifs_fits e q.1)

    ors_fits : {u v w z : Bool} {xs : List Lexeme} {ss : List Statement} → Ors u v w z xs ss → ArePlain xs → StatementsWithin limits (statements ss)
    ors_fits m.no_or h = tt
    ors_fits (m.or_this {xs = xs} d o) h = let q = cut _ xs _ h.1 in (statement_fits d q.0, ors_fits o q.1)

    labeled_fits : {u v : Bool} {xs : List Lexeme} {r : Option PlacedName × Statement} → IsLabeled u v xs r → ArePlain xs → StatementWithin limits r.1
    labeled_fits (m.bare d) h = statement_fits d h
    labeled_fits (m.label {xs = xs} f d) h = statement_fits d (cut _ xs _ h.1.1).1

    pub rows_fits : {xs : List Lexeme} {rs : List (Option PlacedName × Statement)} → Rows xs rs → ArePlain xs → LabeledWithin limits (labeled rs)
    rows_fits m.no_row h = tt
    rows_fits (m.last_row d) h = (labeled_fits d h, tt)
    rows_fits (m.row {xs = xs} {zs = zs} d e r) h = let q = cut _ xs _ h in (labeled_fits d q.0, rows_fits r (cut _ zs _ q.1).1)

  pub body_fits : {xs : List Lexeme} {rs : List (Option PlacedName × Statement)} → IsBody xs rs → ArePlain xs → LabeledWithin limits (labeled rs)
  body_fits (m.body c {xs = xs} r) h = rows_fits r (cut _ xs _ h.1).0
