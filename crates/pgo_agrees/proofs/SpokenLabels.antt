-- The labels in statements that tokens of a specification spell are identifiers.
use Rattle.std.specs.Prelude.{ℕ, Bool, List, [], ◌∷◌, ◌++◌, Option}
use Rattle.std.specs.List.{AllByRecursion}
use Rattle.pgo_base.specs.Lookup.{Name}
use Rattle.pgo_base.specs.Tree.{Tree}
use Rattle.pgo_lexer.specs.declared.token.Lexeme.{Lexeme}
use Rattle.pgo_mpcal_read.specs.Statements.{Spelled, IsBranch, ElseIfs, Ors, IsLabeled, Rows, IsBody}
use Rattle.pgo_mpcal_read.specs.Statements as m
use Rattle.pgo_model.specs.Options.{on}
use Rattle.pgo_syntax.specs.Statement.{Statement, statements, labeled, guarded}
use Rattle.pgo_syntax.specs.declared.name.PlacedName.{PlacedName}
use Rattle.pgo_bound.specs.Sound.{labels_in, labels_each, labels_among, labels_guarded}
use Rattle.pgo_agrees.specs.Accepted.{LabelOfText}
use Rattle.pgo_agrees.proofs.SpokenStatements.{AllOk}
use Rattle.pgo_agrees.proofs.EachToken.{cut, all_joined}

abbrev AllLabels : List Name → Type 0
AllLabels ns = AllByRecursion LabelOfText ns

-- a statement with its label, if it has one
abbrev row_labels : Option PlacedName × Statement → List Name
row_labels r = on [] r.0 (λ x. x.name ∷ []) ++ labels_in r.1

mutual
  statement_labels : {u v : Bool} {xs : List Lexeme} {s : Statement} → Spelled u v xs s → (b : Bool) → AllOk b xs → AllLabels (labels_in s)
  statement_labels m.skip b h = tt
  statement_labels (m.assign i) b h = tt
  statement_labels (m.if_then {xs = xs} {b = r} {bs = bs} d e) b h =
      let q = cut _ xs _ h in all_joined LabelOfText (labels_in r.1.1) (labels_guarded (guarded bs)) (branch_labels d b q.0) (else_if_labels e b q.1)
  statement_labels (m.if_else p {xs = xs} {ys = ys} {b = r} {bs = bs} {s = s} d e g f) b h =
      let q = cut _ xs _ h in
      let w = cut _ ys _ q.1 in
      all_joined LabelOfText (labels_in r.1.1 ++ labels_guarded (guarded bs)) (labels_in s) (all_joined LabelOfText (labels_in r.1.1) (labels_guarded (guarded bs)) (branch_labels d b q.0) (else_if_labels e b w.0)) (statement_labels f b w.1.1)
  statement_labels (m.while_do c {xs = xs} d f) b h = statement_labels f b (cut _ xs _ h.1.1).1.1
  statement_labels (m.either_of q {xs = xs} {ys = ys} {s = s} {s' = t} {ss = ss} d e o) b h =
      let r = cut _ xs _ h.1 in
      let w = cut _ ys _ r.1.1 in
      all_joined LabelOfText (labels_in s) (labels_in t ++ labels_each (statements ss)) (statement_labels d b r.0) (all_joined LabelOfText (labels_in t) (labels_each (statements ss)) (statement_labels e b w.0) (or_labels o b w.1))
  statement_labels (m.await_that a d) b h = tt
  statement_labels (m.with_in c {xs = xs} i f) b h = statement_labels f b (cut _ xs _ h.1.1).1.1
  statement_labels (m.print_out d) b h = tt
  statement_labels (m.assert_that d) b h = tt
  statement_labels m.go_to b h = tt
  statement_labels (m.call_macro i) b h = tt
  statement_labels (m.yield_as d) b h = tt
  statement_labels (m.block c {xs = xs} r) b h = rows_labels r b (cut _ xs _ h.1).0

  branch_labels : {u v : Bool} {xs : List Lexeme} {r : ℕ × (Tree × Statement)} → IsBranch u v xs r → (b : Bool) → AllOk b xs → AllLabels (labels_in r.1.1)
  branch_labels (m.branch c {xs = xs} d f) b h = statement_labels f b (cut _ xs _ h.1.1).1.1

  else_if_labels : {u v w z : Bool} {xs : List Lexeme} {bs : List (ℕ × (Tree × Statement))} → ElseIfs u v w z xs bs → (b : Bool) → AllOk b xs → AllLabels (labels_guarded (guarded bs))
  else_if_labels m.no_else_if b h = tt
  else_if_labels (m.else_if {xs = xs} {b = r} {bs = bs} d e) b h =
      let q = cut _ xs _ h.1 in all_joined LabelOfText (labels_in r.1.1) (labels_guarded (guarded bs)) (branch_labels d b q.0) (else_if_labels e b q.1)

  or_labels : {u v w z : Bool} {xs : List Lexeme} {ss : List Statement} → Ors u v w z xs ss → (b : Bool) → AllOk b xs → AllLabels (labels_each (statements ss))
  or_labels m.no_or b h = tt
  or_labels (m.or_this {xs = xs} {s = s} {ss = ss} d o) b h =
      let q = cut _ xs _ h.1 in all_joined LabelOfText (labels_in s) (labels_each (statements ss)) (statement_labels d b q.0) (or_labels o b q.1)

  labeled_labels : {u v : Bool} {xs : List Lexeme} {r : Option PlacedName × Statement} → IsLabeled u v xs r → (b : Bool) → AllOk b xs → AllLabels (row_labels r)
  labeled_labels (m.bare d) b h = statement_labels d b h
  labeled_labels (m.label {xs = xs} f d) b h = (h.0.0, statement_labels d b (cut _ xs _ h.1.1).1)

  rows_labels : {xs : List Lexeme} {rs : List (Option PlacedName × Statement)} → Rows xs rs → (b : Bool) → AllOk b xs → AllLabels (labels_among (labeled rs))
  rows_labels m.no_row b h = tt
  rows_labels (m.last_row {r = r} d) b h = all_joined LabelOfText (row_labels r) [] (labeled_labels d b h) tt
  rows_labels (m.row {xs = xs} {zs = zs} {r = r} {rs = rs} d e g) b h =
      let q = cut _ xs _ h in all_joined LabelOfText (row_labels r) (labels_among (labeled rs)) (labeled_labels d b q.0) (rows_labels g b (cut _ zs _ q.1).1)

pub body_labels : {xs : List Lexeme} {rs : List (Option PlacedName × Statement)} → IsBody xs rs → (b : Bool) → AllOk b xs → AllLabels (labels_among (labeled rs))
body_labels (m.body c {xs = xs} r) b h = rows_labels r b (cut _ xs _ h.1).0
