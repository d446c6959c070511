-- Statements that tokens of a specification spell are well formed.
use Rattle.std.proofs.Common.{◌≡◌, ℕ, Bool, true, false, inl, inr, if◌then◌else◌, nat_eq, List, [], ◌∷◌, Option, refl, ap, sym, ◌∙◌, subst, arith}
use Rattle.std.specs.List.{AllByRecursion}
use Rattle.std.proofs.lemmas.Bool.{and_parts}
use Rattle.pgo_base.specs.Lookup.{Name, same_name}
use Rattle.pgo_base.specs.Tree.{Tree}
use Rattle.pgo_lexer.specs.declared.symbol.Symbol.{Symbol}
use Rattle.pgo_lexer.specs.declared.symbol.Symbol.TheVariants as symbol
use Rattle.pgo_lexer.specs.declared.token.Lexeme.{Lexeme}
use Rattle.pgo_lexer.specs.declared.token.Token.{Token}
use Rattle.pgo_lexer.specs.declared.token.Token.TheVariants as token
use Rattle.pgo_model.specs.ValueText.{is_word_byte, all_word_bytes}
use Rattle.pgo_expr_read.specs.Lookahead.{tokens_of}
use Rattle.pgo_mpcal_read.specs.Elements.{IsExpression, IsRange}
use Rattle.pgo_mpcal_read.specs.Statements.{IsStep, IsLeft, IsAssignment, IsOrigin, IsWithName, Spelled, IsBranch, ElseIfs, Ors, IsLabeled, Rows, IsBody}
use Rattle.pgo_mpcal_read.specs.Statements as m
use Rattle.pgo_expr_write.specs.WellFormed.{IsName}
use Rattle.pgo_expr_write.proofs.Formed.{Told}
use Rattle.pgo_model.specs.Names.{is_among}
use Rattle.pgo_sections.specs.Code.{content_name, value_name}
use Rattle.pgo_syntax.specs.Statement.{Statement, statements, labeled, guarded}
use Rattle.pgo_syntax.specs.declared.assignment.Assignment.{Assignment}
use Rattle.pgo_syntax.specs.declared.assignment.Left.{Left}
use Rattle.pgo_syntax.specs.declared.assignment.Step.{Step}
use Rattle.pgo_syntax.specs.declared.assignment.Step.TheVariants as step
use Rattle.pgo_syntax.specs.declared.binding.Origin.{Origin}
use Rattle.pgo_syntax.specs.declared.binding.WithName.{WithName}
use Rattle.pgo_syntax.specs.declared.name.PlacedName.{PlacedName}
use Rattle.pgo_meaning.specs.MacrosPlaced.{unmarked}
use Rattle.pgo_agrees.proofs.SpokenStatements.{Quiet}
use Rattle.pgo_agrees.proofs.Stands.{or_second}
use Rattle.pgo_agrees.proofs.EachToken.{cut, all_items, all_in_brackets, all_in_row}
use Rattle.pgo_written.specs.Formed.{Formed, RangeFormed}
use Rattle.pgo_written.specs.FormedCode.{IsShort}
use Rattle.pgo_written.specs.FormedStatements.{Known, OriginFormed, PathFormed, AssignmentsFormed, WithsFormed, in_with, EachTree, AreIdentifiers, StatementFormed, EachFormed, LabeledFormed, GuardedFormed}
use Rattle.pgo_written.proofs.FormedText.{AllTold, formed, formed_range}
use Rattle.pgo_written.proofs.WrittenNames.{identifier_parts, short_name, name_text}

-- ---- tokens

-- names of a specification's text
abbrev pub Short : Token → Type 0
Short (token.Name x) = IsShort x
Short _ = Unit {0}

-- as they stand in a text; b: whether `yield`, `$variable` and `$value` may stand there
abbrev pub AllOk : Bool → List Lexeme → Type 0
AllOk b = AllByRecursion (λ (l : Lexeme). Short l.token × Told l.token × Quiet b l.token)

told_of : (b : Bool) (ls : List Lexeme) → AllOk b ls → AllTold b (tokens_of ls)
told_of b [] h = tt
told_of b (l ∷ ls) h = (h.0.1, h.0.2, told_of b ls h.1)

-- where they may stand, these names hold `$variable` and `$value`
abbrev pub Base : Bool → List Name → Type 0
Base true ns = (is_among content_name ns ≡ true) × (is_among value_name ns ≡ true)
Base false ns = Unit {0}

base_more : (b : Bool) (x : Name) (ns : List Name) → Base b ns → Base b (x ∷ ns)
base_more true x ns h = (or_second (same_name content_name x) (is_among content_name ns) h.0, or_second (same_name value_name x) (is_among value_name ns) h.1)
base_more false x ns h = tt

variable_known : (b : Bool) (ns : List Name) → Base b ns → Quiet b (token.Symbol symbol.Variable) → Known ns content_name
variable_known true ns h q = inr h.0
variable_known false ns h q = absurd (cc)

value_known : (b : Bool) (ns : List Name) → Base b ns → Quiet b (token.Symbol symbol.Value) → Known ns value_name
value_known true ns h q = inr h.1
value_known false ns h q = absurd (cc)

expression : (b : Bool) (ns : List Name) → Base b ns → {xs : List Lexeme} {e : Tree} → IsExpression xs e → AllOk b xs → Formed (Known ns) e
expression b ns a {xs} {e} d h = formed (Known ns) b (λ x n. inl n) (variable_known b ns a) (value_known b ns a) d.spells.2 (told_of b xs h)

-- an expression without them
pub plain_expression : {xs : List Lexeme} {e : Tree} → IsExpression xs e → AllOk false xs → Formed IsName e
plain_expression {xs} {e} d h = formed IsName false (λ x n. n) (λ q. absurd (cc)) (λ q. absurd (cc)) d.spells.2 (told_of false xs h)

range : (b : Bool) (ns : List Name) → Base b ns → {xs : List Lexeme} {e : Tree} → IsRange xs e → AllOk b xs → RangeFormed (Known ns) e
range b ns a {xs} {e} d h = formed_range (Known ns) b (λ x n. inl n) (variable_known b ns a) (value_known b ns a) d.range (told_of b xs h)

pub plain_range : {xs : List Lexeme} {e : Tree} → IsRange xs e → AllOk false xs → RangeFormed IsName e
plain_range {xs} {e} d h = formed_range IsName false (λ x n. n) (λ q. absurd (cc)) (λ q. absurd (cc)) d.range (told_of false xs h)

-- ---- assignments

module _ (b : Bool) (ns : List Name) (a : Base b ns) where
  abbrev StepFormed : Step → Type 0
  StepFormed s = PathFormed ns (s ∷ [])

  step_formed : (xs : List Lexeme) (s : Step) → IsStep xs s → AllOk b xs → StepFormed s
  step_formed xs s (m.index c {xs = ys} d) h = (expression b ns a d (cut _ ys _ h.1).0, tt)
  step_formed xs s (m.field {x = x}) h = (name_text x (short_name x h.1.0.0), tt)

  path_of : (ss : List Step) → AllByRecursion StepFormed ss → PathFormed ns ss
  path_of [] h = tt
  path_of (step.Index e ∷ ss) h = (h.0.0, path_of ss h.1)
  path_of (step.Field x ∷ ss) h = (h.0.0, path_of ss h.1)

  left_formed : (xs : List Lexeme) (l : Left) → IsLeft xs l → AllOk b xs → PathFormed ns l.path
  left_formed xs l (m.named {xs = ys} {path = p} r) h = path_of p (all_in_row _ IsStep StepFormed step_formed ys p r h.1)
  left_formed xs l (m.variable {xs = ys} {path = p} r) h = path_of p (all_in_row _ IsStep StepFormed step_formed ys p r h.1)

  abbrev OneAssigned : Assignment → Type 0
  OneAssigned t = PathFormed ns t.left.path × Formed (Known ns) t.right

  assignment_formed : (xs : List Lexeme) (t : Assignment) → IsAssignment xs t → AllOk b xs → OneAssigned t
  assignment_formed xs t (m.assignment p {xs = ys} {ys = zs} {l = l} {e = e} i d) h =
      let q = cut _ ys _ h in (left_formed ys l i q.0, expression b ns a d q.1.1)

  assignments_of : (ts : List Assignment) → AllByRecursion OneAssigned ts → AssignmentsFormed ns ts
  assignments_of [] h = tt
  assignments_of (t ∷ ts) h = (h.0.0, h.0.1, assignments_of ts h.1)

  trees_of : (ts : List Tree) → AllByRecursion (Formed (Known ns)) ts → EachTree ns ts
  trees_of [] h = tt
  trees_of (t ∷ ts) h = (h.0, trees_of ts h.1)

-- ---- names of a `with`

pub origin_formed : (b : Bool) (ns : List Name) → Base b ns → (xs : List Lexeme) (o : Origin) → IsOrigin xs o → AllOk b xs → OriginFormed ns o
origin_formed b ns a xs o (m.equals d) h = expression b ns a d h.1
origin_formed b ns a xs o (m.member d) h = range b ns a d h.1

-- no byte of an identifier is a mark
unmarked_itself : (x : Name) → all_word_bytes x ≡ true → unmarked x ≡ x
unmarked_itself [] h = refl
unmarked_itself (b ∷ bs) h =
    let p = and_parts (is_word_byte b) (all_word_bytes bs) h in go (nat_eq b 33) refl p.0 (unmarked_itself bs p.1)
  where
    go : (q : Bool) → nat_eq b 33 ≡ q → is_word_byte b ≡ true → unmarked bs ≡ bs → (if q then [] else b ∷ unmarked bs) ≡ b ∷ bs
    go true e w r = absurd (let f : b ≡ 33 = grind (arith, e) in let g : is_word_byte b ≡ false = ap is_word_byte f in let z : true ≡ false = sym w ∙ g in cc)
    go false e w r = ap (λ xs. b ∷ xs) r

abbrev WithFormed : Bool → WithName → Type 0
WithFormed b w = IsShort w.name.name × ((ns : List Name) → Base b ns → OriginFormed ns w.origin)

with_formed : (b : Bool) (xs : List Lexeme) (w : WithName) → IsWithName xs w → AllOk b xs → WithFormed b w
with_formed b xs w (m.with_name {xs = ys} {o = o} d) h = (h.0.0, λ ns a. origin_formed b ns a ys o d h.1)

withs_of : (b : Bool) (ns : List Name) → Base b ns → (ws : List WithName) → AllByRecursion (WithFormed b) ws → WithsFormed ns ws
withs_of b ns a [] h = tt
withs_of b ns a (w ∷ ws) h =
    let x = w.name.name in
    (subst IsShort (sym (unmarked_itself x (identifier_parts x h.0.0.0).0)) h.0.0, h.0.1 ns a, withs_of b (x ∷ ns) (base_more b x ns a) ws h.1)

identifiers_of : (b : Bool) (ws : List WithName) → AllByRecursion (WithFormed b) ws → AreIdentifiers ws
identifiers_of b [] h = tt
identifiers_of b (w ∷ ws) h = (short_name w.name.name h.0.0, identifiers_of b ws h.1)

base_with : (b : Bool) (ns : List Name) (ws : List WithName) → Base b ns → Base b (in_with ns ws)
base_with b ns [] a = a
base_with b ns (w ∷ ws) a = base_with b (w.name.name ∷ ns) ws (base_more b w.name.name ns a)

-- ---- statements
mutual
  spelled : {u v : Bool} {xs : List Lexeme} {s : Statement} → Spelled u v xs s → (b : Bool) (ns : List Name) → Base b ns → AllOk b xs → StatementFormed true true ns s
  spelled m.skip b ns a h = tt
  spelled (m.assign {xs = xs} {a = t} {as' = ts} i) b ns a h =
      assignments_of b ns a (t ∷ ts) (all_items _ IsAssignment (OneAssigned b ns a) (assignment_formed b ns a) symbol.Bars xs (t ∷ ts) i h)
  spelled (m.if_then {xs = xs} d e) b ns a h = let q = cut _ xs _ h in let r = branch d b ns a q.0 in (r.0, r.1, else_ifs e b ns a q.1)
  spelled (m.if_else p {xs = xs} {ys = ys} d e g f) b ns a h =
      let q = cut _ xs _ h in let w = cut _ ys _ q.1 in let r = branch d b ns a q.0 in ((r.0, r.1, else_ifs e b ns a w.0), spelled f b ns a w.1.1)
  spelled (m.while_do c {xs = xs} d f) b ns a h = let q = cut _ xs _ h.1.1 in (expression b ns a d q.0, spelled f b ns a q.1.1)
  spelled (m.either_of q {xs = xs} {ys = ys} d e o) b ns a h =
      let r = cut _ xs _ h.1 in let w = cut _ ys _ r.1.1 in (spelled d b ns a r.0, (spelled e b ns a w.0, ors o b ns a w.1))
  spelled (m.await_that k d) b ns a h = expression b ns a d h.1
  spelled (m.with_in c {xs = xs} {ns = ws} i f) b ns a h =
      let q = cut _ xs _ h.1.1 in
      let r = all_items _ IsWithName (WithFormed b) (with_formed b) symbol.Comma xs ws i q.0 in
      (withs_of b ns a ws r, inl (identifiers_of b ws r, spelled f b (in_with ns ws) (base_with b ns ws a) q.1.1))
  spelled (m.print_out d) b ns a h = expression b ns a d h.1
  spelled (m.assert_that d) b ns a h = expression b ns a d h.1
  spelled m.go_to b ns a h = h.1.0.0
  spelled (m.call_macro {xs = xs} {es = es} i) b ns a h =
      trees_of b ns a es (all_in_brackets _ IsExpression (Formed (Known ns)) (λ ys e d g. expression b ns a d g) xs es i h.1)
  spelled (m.yield_as d) b ns a h = expression b ns a d h.1
  spelled (m.block c {xs = xs} r) b ns a h = rows r b ns a (cut _ xs _ h.1).0

  branch : {u v : Bool} {xs : List Lexeme} {r : ℕ × (Tree × Statement)} → IsBranch u v xs r → (b : Bool) (ns : List Name) → Base b ns → AllOk b xs → Formed (Known ns) r.1.0 × StatementFormed true true ns r.1.1
  branch (m.branch c {xs = xs} d f) b ns a h = let q = cut _ xs _ h.1.1 in (expression b ns a d q.0, spelled f b ns a q.1.1)

  else_ifs : {u v w z : Bool} {xs : List Lexeme} {bs : List (ℕ × (Tree × Statement))} → ElseIfs u v w z xs bs → (b : Bool) (ns : List Name) → Base b ns → AllOk b xs → GuardedFormed true true ns (guarded bs)
  else_ifs m.no_else_if b ns a h = tt
  else_ifs (m.else_if {xs = xs} d e) b ns a h = let q = cut _ xs _ h.1 in let r = branch d b ns a q.0 in (r.0, r.1, else_ifs e b ns a q.1)

  ors : {u v w z : Bool} {xs : List Lexeme} {ss : List Statement} → Ors u v w z xs ss → (b : Bool) (ns : List Name) → Base b ns → AllOk b xs → EachFormed true true ns (statements ss)
  ors m.no_or b ns a h = tt
  ors (m.or_this {xs = xs} d o) b ns a h = let q = cut _ xs _ h.1 in (spelled d b ns a q.0, ors o b ns a q.1)

  row_spelled : {u v : Bool} {xs : List Lexeme} {r : Option PlacedName × Statement} → IsLabeled u v xs r → (b : Bool) (ns : List Name) → Base b ns → AllOk b xs → LabeledFormed true true ns (labeled (r ∷ []))
  row_spelled (m.bare d) b ns a h = (tt, spelled d b ns a h, tt)
  row_spelled (m.label {xs = xs} f d) b ns a h = ((refl, h.0.0), spelled d b ns a (cut _ xs _ h.1.1).1, tt)

  rows : {xs : List Lexeme} {rs : List (Option PlacedName × Statement)} → Rows xs rs → (b : Bool) (ns : List Name) → Base b ns → AllOk b xs → LabeledFormed true true ns (labeled rs)
  rows m.no_row b ns a h = tt
  rows (m.last_row d) b ns a h = row_spelled d b ns a h
  rows (m.row {xs = xs} {zs = zs} d e r) b ns a h =
      let q = cut _ xs _ h in let first = row_spelled d b ns a q.0 in (first.0, first.1, rows r b ns a (cut _ zs _ q.1).1)

pub body_spelled : {xs : List Lexeme} {rs : List (Option PlacedName × Statement)} → IsBody xs rs → (b : Bool) (ns : List Name) → Base b ns → AllOk b xs → LabeledFormed true true ns (labeled rs)
body_spelled (m.body c {xs = xs} r) b ns a h = rows r b ns a (cut _ xs _ h.1).0
