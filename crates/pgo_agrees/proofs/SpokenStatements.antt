-- Statements that tokens of a specification spell are formed as the laws ask.
use Rattle.std.proofs.Common.{◌≡◌, ℕ, Bool, true, false, List, [], ◌∷◌, Option}
use Rattle.std.specs.List.{AllByRecursion}
use Rattle.pgo_base.specs.Tree.{Tree}
use Rattle.pgo_lexer.specs.declared.symbol.Keyword.TheVariants as keyword
use Rattle.pgo_lexer.specs.declared.symbol.Symbol.{Symbol}
use Rattle.pgo_lexer.specs.declared.symbol.Symbol.TheVariants as symbol
use Rattle.pgo_lexer.specs.declared.token.Lexeme.{Lexeme}
use Rattle.pgo_lexer.specs.declared.token.Token.{Token}
use Rattle.pgo_lexer.specs.declared.token.Token.TheVariants as token
use Rattle.pgo_expr_read.specs.Lookahead.{tokens_of}
use Rattle.pgo_mpcal_read.specs.Elements.{IsExpression, IsRange}
use Rattle.pgo_mpcal_read.specs.Statements.{IsStep, IsLeft, IsAssignment, IsOrigin, IsWithName, Spelled, IsBranch, ElseIfs, Ors, IsLabeled, Rows, IsBody}
use Rattle.pgo_mpcal_read.specs.Statements as m
use Rattle.pgo_mpcal_read.specs.Units.{is_plain}
use Rattle.pgo_syntax.specs.Statement.{Statement, statements, labeled, guarded}
use Rattle.pgo_syntax.specs.declared.assignment.Assignment.{Assignment}
use Rattle.pgo_syntax.specs.declared.assignment.Left.{Left}
use Rattle.pgo_syntax.specs.declared.assignment.Step.{Step}
use Rattle.pgo_syntax.specs.declared.binding.Origin.{Origin}
use Rattle.pgo_syntax.specs.declared.binding.WithName.{WithName}
use Rattle.pgo_syntax.specs.declared.name.PlacedName.{PlacedName}
use Rattle.pgo_uses.specs.StatementUses.{origin_tree}
use Rattle.pgo_agrees.specs.Spoken.{Spoken, StepSpoken, PathSpoken, AssignmentsSpoken, WithsSpoken, ArgumentsSpoken, StatementSpoken, EachSpoken, LabeledSpoken, GuardedSpoken}
use Rattle.pgo_agrees.specs.TextTokens.{Allowed, AllAllowed}
use Rattle.pgo_agrees.proofs.SpokenExpressions.{formed, formed_range}
use Rattle.pgo_agrees.proofs.EachToken.{cut, all_items, all_in_brackets, all_in_row}

-- whether a `yield` may stand there
abbrev pub Yes : Bool → Type 0
Yes true = Unit {0}
Yes false = ⊥

abbrev pub Quiet : Bool → Token → Type 0
Quiet true k = Unit {0}
Quiet false k = is_plain k ≡ true

-- allowed tokens, without `yield` where it may not stand
abbrev pub AllOk : Bool → List Lexeme → Type 0
AllOk b = AllByRecursion (λ (l : Lexeme). Allowed l.token × Quiet b l.token)

pub allowed_of : (b : Bool) (ls : List Lexeme) → AllOk b ls → AllAllowed (tokens_of ls)
allowed_of b [] h = tt
allowed_of b (l ∷ ls) h = (h.0.0, allowed_of b ls h.1)

pub expression : (b : Bool) {xs : List Lexeme} {e : Tree} → IsExpression xs e → AllOk b xs → Spoken e
expression b {xs} {e} d h = formed d.spells.2 (allowed_of b xs h)

pub range : (b : Bool) {xs : List Lexeme} {e : Tree} → IsRange xs e → AllOk b xs → Spoken e
range b {xs} {e} d h = formed_range d.range (allowed_of b xs h)

-- ---- assignments and names of a `with`

step_spoken : (b : Bool) (xs : List Lexeme) (s : Step) → IsStep xs s → AllOk b xs → StepSpoken s
step_spoken b xs s (m.index c {xs = ys} d) h = expression b d (cut _ ys _ h.1).0
step_spoken b xs s m.field h = tt

path_of : (ss : List Step) → AllByRecursion StepSpoken ss → PathSpoken ss
path_of [] h = tt
path_of (s ∷ ss) h = (h.0, path_of ss h.1)

left_spoken : (b : Bool) (xs : List Lexeme) (l : Left) → IsLeft xs l → AllOk b xs → PathSpoken l.path
left_spoken b xs l (m.named {xs = ys} {path = p} r) h = path_of p (all_in_row _ IsStep StepSpoken (step_spoken b) ys p r h.1)
left_spoken b xs l (m.variable {xs = ys} {path = p} r) h = path_of p (all_in_row _ IsStep StepSpoken (step_spoken b) ys p r h.1)

abbrev OneAssigned : Assignment → Type 0
OneAssigned a = PathSpoken a.left.path × Spoken a.right

assignment_spoken : (b : Bool) (xs : List Lexeme) (a : Assignment) → IsAssignment xs a → AllOk b xs → OneAssigned a
assignment_spoken b xs a (m.assignment p {xs = ys} {ys = zs} {l = l} {e = e} i d) h =
    let q = cut _ ys _ h in (left_spoken b ys l i q.0, expression b d q.1.1)

assignments_of : (as' : List Assignment) → AllByRecursion OneAssigned as' → AssignmentsSpoken as'
assignments_of [] h = tt
assignments_of (a ∷ as') h = (h.0.0, h.0.1, assignments_of as' h.1)

pub origin_spoken : (b : Bool) (xs : List Lexeme) (o : Origin) → IsOrigin xs o → AllOk b xs → Spoken (origin_tree o)
origin_spoken b xs o (m.equals d) h = expression b d h.1
origin_spoken b xs o (m.member d) h = range b d h.1

abbrev OneWith : WithName → Type 0
OneWith w = Spoken (origin_tree w.origin)

with_spoken : (b : Bool) (xs : List Lexeme) (w : WithName) → IsWithName xs w → AllOk b xs → OneWith w
with_spoken b xs w (m.with_name {xs = ys} {o = o} d) h = origin_spoken b ys o d h.1

withs_of : (ws : List WithName) → AllByRecursion OneWith ws → WithsSpoken ws
withs_of [] h = tt
withs_of (w ∷ ws) h = (h.0, withs_of ws h.1)

arguments_of : (ts : List Tree) → AllByRecursion Spoken ts → ArgumentsSpoken ts
arguments_of [] h = tt
arguments_of (t ∷ ts) h = (h.0, arguments_of ts h.1)

may_yield : (b : Bool) → Quiet b (token.Symbol (symbol.Keyword keyword.Yield)) → Yes b
may_yield true h = tt
may_yield false h = cc

-- ---- statements
mutual
  pub spoken : {u v : Bool} {xs : List Lexeme} {s : Statement} → Spelled u v xs s → (b : Bool) → AllOk b xs → StatementSpoken (Yes b) s
  spoken m.skip b h = tt
  spoken (m.assign {xs = xs} {a = a} {as' = as'} i) b h =
      assignments_of (a ∷ as') (all_items _ IsAssignment OneAssigned (assignment_spoken b) symbol.Bars xs (a ∷ as') i h)
  spoken (m.if_then {xs = xs} d e) b h = let q = cut _ xs _ h in let r = branch_spoken d b q.0 in (r.0, r.1, else_ifs_spoken e b q.1)
  spoken (m.if_else p {xs = xs} {ys = ys} d e g f) b h =
      let q = cut _ xs _ h in let w = cut _ ys _ q.1 in let r = branch_spoken d b q.0 in ((r.0, r.1, else_ifs_spoken e b w.0), spoken f b w.1.1)
  spoken (m.while_do c {xs = xs} d f) b h = let q = cut _ xs _ h.1.1 in (expression b d q.0, spoken f b q.1.1)
  spoken (m.either_of q {xs = xs} {ys = ys} d e o) b h =
      let r = cut _ xs _ h.1 in let w = cut _ ys _ r.1.1 in (spoken d b r.0, (spoken e b w.0, ors_spoken o b w.1))
  spoken (m.await_that a d) b h = expression b d h.1
  spoken (m.with_in c {xs = xs} {ns = ns} i f) b h =
      let q = cut _ xs _ h.1.1 in (withs_of ns (all_items _ IsWithName OneWith (with_spoken b) symbol.Comma xs ns i q.0), spoken f b q.1.1)
  spoken (m.print_out d) b h = expression b d h.1
  spoken (m.assert_that d) b h = expression b d h.1
  spoken m.go_to b h = tt
  spoken (m.call_macro {xs = xs} {es = es} i) b h =
      arguments_of es (all_in_brackets _ IsExpression Spoken (λ ys e d g. expression b d g) xs es i h.1)
  spoken (m.yield_as d) b h = (may_yield b h.0.1, expression b d h.1)
  spoken (m.block c {xs = xs} r) b h = rows_spoken r b (cut _ xs _ h.1).0

  branch_spoken : {u v : Bool} {xs : List Lexeme} {r : ℕ × (Tree × Statement)} → IsBranch u v xs r → (b : Bool) → AllOk b xs → Spoken r.1.0 × StatementSpoken (Yes b) r.1.1
  branch_spoken (m.branch c {xs = xs} d f) b h = let q = cut _ xs _ h.1.1 in (expression b d q.0, spoken f b q.1.1)

  else_ifs_spoken : {u v w z : Bool} {xs : List Lexeme} {bs : List (ℕ × (Tree × Statement))} → ElseIfs u v w z xs bs → (b : Bool) → AllOk b xs → GuardedSpoken (Yes b) (guarded bs)
  else_ifs_spoken m.no_else_if b h = tt
  else_ifs_spoken (m.else_if {xs = xs} d e) b h = let q = cut _ xs _ h.1 in let r = branch_spoken d b q.0 in (r.0, r.1, else_ifs_spoken e b q.1)

  ors_spoken : {u v w z : Bool} {xs : List Lexeme} {ss : List Statement} → Ors u v w z xs ss → (b : Bool) → AllOk b xs → EachSpoken (Yes b) (statements ss)
  ors_spoken m.no_or b h = tt
  ors_spoken (m.or_this {xs = xs} d o) b h = let q = cut _ xs _ h.1 in (spoken d b q.0, ors_spoken o b q.1)

  labeled_spoken : {u v : Bool} {xs : List Lexeme} {r : Option PlacedName × Statement} → IsLabeled u v xs r → (b : Bool) → AllOk b xs → StatementSpoken (Yes b) r.1
  labeled_spoken (m.bare d) b h = spoken d b h
  labeled_spoken (m.label {xs = xs} f d) b h = spoken d b (cut _ xs _ h.1.1).1

  pub rows_spoken : {xs : List Lexeme} {rs : List (Option PlacedName × Statement)} → Rows xs rs → (b : Bool) → AllOk b xs → LabeledSpoken (Yes b) (labeled rs)
  rows_spoken m.no_row b h = tt
  rows_spoken (m.last_row d) b h = (labeled_spoken d b h, tt)
  rows_spoken (m.row {xs = xs} {zs = zs} d e r) b h = let q = cut _ xs _ h in (labeled_spoken d b q.0, rows_spoken r b (cut _ zs _ q.1).1)

pub body_spoken : {xs : List Lexeme} {rs : List (Option PlacedName × Statement)} → IsBody xs rs → (b : Bool) → AllOk b xs → LabeledSpoken (Yes b) (labeled rs)
body_spoken (m.body c {xs = xs} r) b h = rows_spoken r b (cut _ xs _ h.1).0
