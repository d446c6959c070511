-- A text has at least as many tokens as an archetype has parameters and locals.
use Rattle.std.proofs.Common.{◌≤◌, ◌+◌, ◌*◌, ℕ, suc, Bool, List, [], ◌∷◌, ◌++◌, length, arith, length-append}
use Rattle.std.specs.List.{AllByRecursion}
use Rattle.pgo_lexer.specs.Layout.{Marked, Bullets}
use Rattle.pgo_lexer.specs.Layout as mark
use Rattle.pgo_lexer.specs.declared.symbol.Bracket.TheVariants as bracket
use Rattle.pgo_lexer.specs.declared.symbol.Junction.{Junction}
use Rattle.pgo_lexer.specs.declared.symbol.Symbol.{Symbol}
use Rattle.pgo_lexer.specs.declared.symbol.Symbol.TheVariants as symbol
use Rattle.pgo_lexer.specs.declared.token.Lexeme.{Lexeme}
use Rattle.pgo_mpcal_read.specs.Elements.{Behind, Items, InBrackets}
use Rattle.pgo_mpcal_read.specs.Elements as elements
use Rattle.pgo_mpcal_read.specs.Spells.{SpellsTokens}
use Rattle.pgo_mpcal_read.specs.Spells as spells
use Rattle.pgo_mpcal_read.specs.Texts.{SpellsSpec}
use Rattle.pgo_mpcal_read.specs.Units.{IsDeclaration, IsDeclarations, IsVariables, IsParameter, IsLocals, IsArchetype, IsUnit, AreUnits}
use Rattle.pgo_mpcal_read.specs.Units as unit
use Rattle.pgo_mpcal_read.specs.declared.units.Units.{Units}
use Rattle.pgo_syntax.specs.declared.archetype.Archetype.{Archetype}
use Rattle.pgo_syntax.specs.declared.declaration.Declaration.{Declaration}
use Rattle.pgo_syntax.specs.declared.spec.Spec.{Spec}
use Rattle.pgo_agrees.proofs.EachToken.{one_more}

-- ---- marks

mutual
  marked_long : {s : Bool} {b : ℕ} {p q : Bool} {rs ms : List Lexeme} → Marked s b p rs ms q → length ms ≤ 2 * length rs
  marked_long mark.done = omega arith
  marked_long (mark.plain {rs = rs} {ms = ms} l r d) = let n = marked_long d in omega (arith, n)
  marked_long (mark.separator {rs = rs} {ms = ms} l k d) = let n = marked_long d in omega (arith, n)
  marked_long (mark.bracket z {xs = xs} {rs = rs} {ms = ms} {ns = ns} l k d m c e) =
      let n = marked_long d in
      let o = marked_long e in
      let x = length-append xs (z ∷ rs) in
      let y = length-append ms (z ∷ ns) in
      omega (arith, n, o, x, y)
  marked_long (mark.list {xs = xs} {ys = ys} {rs = rs} {ls = ls} {ms = ms} {ns = ns} l k d bs past e) =
      let n = marked_long d in
      let o = bullets_long bs in
      let r = marked_long e in
      let x = length-append xs (ys ++ rs) in
      let y = length-append ys rs in
      let v = length-append ls (ms ++ (mark.list_close ∷ ns)) in
      let w = length-append ms (mark.list_close ∷ ns) in
      omega (arith, n, o, r, x, y, v, w)

  bullets_long : {op : Junction} {c : ℕ} {p q : Bool} {ys ms : List Lexeme} → Bullets op c p ys ms q → length ms ≤ 2 * length ys
  bullets_long mark.none = omega arith
  bullets_long (mark.next {xs = xs} {ys = ys} {ms = ms} {ns = ns} k e d bs) =
      let n = marked_long d in
      let o = bullets_long bs in
      let x = length-append xs ys in
      let y = length-append ms ns in
      omega (arith, n, o, x, y)

-- ---- parameters and locals

module _ {A : Type 0} (Item : List Lexeme → A → Type 0) where
  behind_long : (v : Symbol) (xs : List Lexeme) (as' : List A) → Behind Item v xs as' → length as' ≤ length xs
  behind_long v xs as' elements.no_more = omega arith
  behind_long v xs as' (elements.one_more {xs = ys} {ys = zs} {as' = bs} i r) =
      let n = behind_long v zs bs r in let x = length-append ys zs in omega (arith, n, x)

  in_brackets_long : (xs : List Lexeme) (as' : List A) → InBrackets Item xs as' → length as' ≤ length xs
  in_brackets_long xs as' elements.empty = omega arith
  in_brackets_long xs as' (elements.some c {xs = ys} {as' = bs} i) =
      let n = items_long symbol.Comma ys bs i in let x = length-append ys (elements.at c (symbol.Close bracket.Round) ∷ []) in omega (arith, n, x)
    where
      items_long : (v : Symbol) (xs : List Lexeme) (as' : List A) → Items Item v xs as' → length as' ≤ suc (length xs)
      items_long v xs as' (elements.items {xs = ys} {ys = zs} {as' = bs} i r) =
          let n = behind_long v zs bs r in let x = length-append ys zs in omega (arith, n, x)

some_tokens : (xs : List Lexeme) (d : Declaration) → IsDeclaration xs d → 1 ≤ length xs
some_tokens xs d unit.without_value = omega arith
some_tokens xs d (unit.with_value i) = omega arith

declarations_long : (xs : List Lexeme) (ds : List Declaration) → IsDeclarations xs ds → length ds ≤ length xs
declarations_long xs ds (unit.last_declaration {xs = ys} {zs = zs} {d = d} i e) =
    let n = some_tokens ys d i in let x = length-append ys zs in omega (arith, n, x)
declarations_long xs ds (unit.declaration {xs = us} {ys = ys} {zs = zs} {d = d} {ds = es} i p r) =
    let n = some_tokens us d i in
    let m = declarations_long ys es r in
    let x = length-append us (zs ++ ys) in
    let y = length-append zs ys in
    omega (arith, n, m, x, y)

variables_long : (xs : List Lexeme) (ds : List Declaration) → IsVariables xs ds → length ds ≤ length xs
variables_long xs ds (unit.variables {xs = ys} i) = let n = declarations_long ys ds i in omega (arith, n)

locals_long : (xs : List Lexeme) (ds : List Declaration) → IsLocals xs ds → length ds ≤ length xs
locals_long xs ds unit.no_locals = omega arith
locals_long xs ds (unit.locals {xs = ys} i) = variables_long ys ds i

-- ---- archetypes

module _ (most : ℕ) where
  abbrev Short : Archetype → Type 0
  Short a = length a.params + length a.locals ≤ most

  archetype_short : (xs : List Lexeme) (a : Archetype) → IsArchetype xs a → length xs ≤ most → Short a
  archetype_short xs a (unit.archetype_of {xs = us} {ys = ys} {zs = zs} {ps = ps} {ds = ds} i l r) h =
      let n = in_brackets_long IsParameter us ps i in
      let m = locals_long ys ds l in
      let x = length-append us (ys ++ zs) in
      let y = length-append ys zs in
      omega (arith, h, n, m, x, y)

  unit_short : (b a : Units) (xs : List Lexeme) → IsUnit b xs a → length xs ≤ most → AllByRecursion Short b.archetypes → AllByRecursion Short a.archetypes
  unit_short b a xs (unit.define n d p) h g = g
  unit_short b a xs (unit.macro_definition d p l) h g = g
  unit_short b a xs (unit.mapping d l k) h g = g
  unit_short b a xs (unit.archetype {xs = ys} {a = r} d p l) h g = one_more Short b.archetypes r g (archetype_short ys r d h)
  unit_short b a xs (unit.globals n d p) h g = g
  unit_short b a xs (unit.process d p) h g = g

  units_short : {xs : List Lexeme} {a : Units} → AreUnits xs a → length xs ≤ most → AllByRecursion Short a.archetypes
  units_short unit.no_unit h = tt
  units_short (unit.unit {xs = xs} {ys = ys} {a = a} {b = b} r u) h =
      let x = length-append xs ys in unit_short b a ys u (omega (arith, h, x)) (units_short r (omega (arith, h, x)))

  tokens_short : (hs as' : List Lexeme) (s : Spec) → SpellsTokens hs as' s → length as' ≤ most → AllByRecursion Short s.archetypes
  tokens_short hs as' s (spells.spec c {xs = xs} head plain units shallow some) h =
      units_short units (let x = length-append xs (elements.at c (symbol.Close bracket.Curly) ∷ []) in omega (arith, h, x))

pub archetypes_short : (text : List ℕ) (s : Spec) → SpellsSpec text s → AllByRecursion (λ a. length a.params + length a.locals ≤ 524288) s.archetypes
archetypes_short text s d =
    let n = marked_long d.layout.is_algorithm.marks.1 in
    let few = d.layout.few in
    tokens_short 524288 d.header d.algorithm s d.spells (omega (arith, n, few))
