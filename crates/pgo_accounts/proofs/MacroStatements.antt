-- No `goto` and no `while` stands in the statements of a macro.
use Rattle.std.proofs.Common.{◌≡◌, ℕ, Bool, true, false, List, [], ◌∷◌, ◌++◌, Option, None, Some, refl}
use Rattle.std.specs.List.{AllByRecursion}
use Rattle.pgo_base.specs.Tree.{Tree}
use Rattle.pgo_lexer.specs.declared.token.Lexeme.{Lexeme}
use Rattle.pgo_mpcal_read.specs.Statements.{Spelled, IsBranch, ElseIfs, Ors, IsLabeled, Rows, IsBody}
use Rattle.pgo_mpcal_read.specs.Statements as m
use Rattle.pgo_mpcal_read.specs.Units.{may_stand_in_macro, all_are}
use Rattle.pgo_syntax.specs.Statement.{Statement, LabeledStatements, no_labeled, more_labeled, statements, labeled, guarded}
use Rattle.pgo_syntax.specs.declared.name.PlacedName.{PlacedName}
use Rattle.pgo_systems.specs.Gotos.{gotos_in, gotos_each, gotos_among, gotos_guarded, NoBareWhile, NoneEach, NoneAmong, NoneGuarded}
use Rattle.pgo_agrees.proofs.Names.{and_left, and_right}
use Rattle.pgo_agrees.proofs.EachToken.{cut}

-- each of these tokens may stand in a macro
abbrev pub AllMay : List Lexeme → Type 0
AllMay = AllByRecursion (λ (l : Lexeme). may_stand_in_macro l.token ≡ true)

pub all_may : (ls : List Lexeme) → all_are may_stand_in_macro ls ≡ true → AllMay ls
all_may [] h = tt
all_may (l ∷ ls) h =
    (and_left (may_stand_in_macro l.token) (all_are may_stand_in_macro ls) h, all_may ls (and_right (may_stand_in_macro l.token) (all_are may_stand_in_macro ls) h))

never : false ≡ true → ⊥
never h = cc

row_quiet : (l : Option PlacedName) (s : Statement) (ls : LabeledStatements) → NoBareWhile s → NoneAmong ls → NoneAmong (more_labeled l s ls)
row_quiet None s ls h g = (h, g)
row_quiet (Some y) s ls h g = g

abbrev Quiet : Statement → Type 0
Quiet s = (gotos_in s ≡ []) × NoBareWhile s

mutual
  quiet : {u v : Bool} {xs : List Lexeme} {s : Statement} → Spelled u v xs s → AllMay xs → Quiet s
  quiet m.skip h = (refl, tt)
  quiet (m.assign i) h = (refl, tt)
  quiet (m.if_then {xs = xs} d e) h =
      let q = cut _ xs _ h in
      let r = quiet_branch d q.0 in
      let s = quiet_else_ifs e q.1 in
      ((λ i. r.0 i ++ s.0 i), (r.1, s.1))
  quiet (m.if_else p {xs = xs} {ys = ys} d e g f) h =
      let q = cut _ xs _ h in
      let w = cut _ ys _ q.1 in
      let r = quiet_branch d q.0 in
      let s = quiet_else_ifs e w.0 in
      let t = quiet f w.1.1 in
      ((λ i. (r.0 i ++ s.0 i) ++ t.0 i), ((r.1, s.1), t.1))
  quiet (m.while_do c d f) h = absurd (never h.0)
  quiet (m.either_of q {xs = xs} {ys = ys} d e o) h =
      let r = cut _ xs _ h.1 in
      let w = cut _ ys _ r.1.1 in
      let s = quiet d r.0 in
      let t = quiet e w.0 in
      let v = quiet_ors o w.1 in
      ((λ i. s.0 i ++ (t.0 i ++ v.0 i)), (s.1, (t.1, v.1)))
  quiet (m.await_that a d) h = (refl, tt)
  quiet (m.with_in c {xs = xs} i f) h = quiet f (cut _ xs _ h.1.1).1.1
  quiet (m.print_out d) h = (refl, tt)
  quiet (m.assert_that d) h = (refl, tt)
  quiet m.go_to h = absurd (never h.0)
  quiet (m.call_macro i) h = (refl, tt)
  quiet (m.yield_as d) h = (refl, tt)
  quiet (m.block c {xs = xs} r) h = quiet_rows r (cut _ xs _ h.1).0

  quiet_branch : {u v : Bool} {xs : List Lexeme} {r : ℕ × (Tree × Statement)} → IsBranch u v xs r → AllMay xs → Quiet r.1.1
  quiet_branch (m.branch c {xs = xs} d f) h = quiet f (cut _ xs _ h.1.1).1.1

  quiet_else_ifs : {u v w z : Bool} {xs : List Lexeme} {bs : List (ℕ × (Tree × Statement))} → ElseIfs u v w z xs bs → AllMay xs → (gotos_guarded (guarded bs) ≡ []) × NoneGuarded (guarded bs)
  quiet_else_ifs m.no_else_if h = (refl, tt)
  quiet_else_ifs (m.else_if {xs = xs} d e) h =
      let q = cut _ xs _ h.1 in
      let r = quiet_branch d q.0 in
      let s = quiet_else_ifs e q.1 in
      ((λ i. r.0 i ++ s.0 i), (r.1, s.1))

  quiet_ors : {u v w z : Bool} {xs : List Lexeme} {ss : List Statement} → Ors u v w z xs ss → AllMay xs → (gotos_each (statements ss) ≡ []) × NoneEach (statements ss)
  quiet_ors m.no_or h = (refl, tt)
  quiet_ors (m.or_this {xs = xs} d o) h =
      let q = cut _ xs _ h.1 in
      let r = quiet d q.0 in
      let s = quiet_ors o q.1 in
      ((λ i. r.0 i ++ s.0 i), (r.1, s.1))

  quiet_labeled : {u v : Bool} {xs : List Lexeme} {r : Option PlacedName × Statement} → IsLabeled u v xs r → AllMay xs → Quiet r.1
  quiet_labeled (m.bare d) h = quiet d h
  quiet_labeled (m.label {xs = xs} f d) h = quiet d (cut _ xs _ h.1.1).1

  quiet_rows : {xs : List Lexeme} {rs : List (Option PlacedName × Statement)} → Rows xs rs → AllMay xs → (gotos_among (labeled rs) ≡ []) × NoneAmong (labeled rs)
  quiet_rows m.no_row h = (refl, tt)
  quiet_rows (m.last_row {r = r} d) h = let q = quiet_labeled d h in ((λ i. q.0 i ++ []), row_quiet r.0 r.1 no_labeled q.1 tt)
  quiet_rows (m.row {xs = xs} {zs = zs} {r = r} {rs = rs} d e g) h =
      let q = cut _ xs _ h in
      let s = quiet_labeled d q.0 in
      let t = quiet_rows g (cut _ zs _ q.1).1 in
      ((λ i. s.0 i ++ t.0 i), row_quiet r.0 r.1 (labeled rs) s.1 t.1)

pub body_quiet : {xs : List Lexeme} {rs : List (Option PlacedName × Statement)} → IsBody xs rs → AllMay xs → (gotos_among (labeled rs) ≡ []) × NoneAmong (labeled rs)
body_quiet (m.body c {xs = xs} r) h = quiet_rows r (cut _ xs _ h.1).0
