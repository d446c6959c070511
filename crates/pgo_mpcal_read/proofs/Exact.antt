-- Headers and specifications: what is read is so, and what is so is read.
use Rattle.std.proofs.Common.{◌≡◌, ℕ, zero, suc, ◌≤◌, Bool, true, false, ◌&&◌, ◌||◌, nat_eq, List, [], ◌∷◌, ◌++◌, length, Option, Some, None, refl, ap, sym, ◌∙◌, subst, arith, cond, codes}
use Rattle.std.proofs.lemmas.Bool.{eqb-true, leb-true, le-leb, and_parts}
use Rattle.std.proofs.lemmas.List.{append_assoc, append-nil, length-append}
use Rattle.pgo_lexer.specs.declared.token.Lexeme.{Lexeme}
use Rattle.pgo_lexer.specs.declared.token.Token.{Token}
use Rattle.pgo_lexer.specs.declared.token.Token.TheVariants as t
use Rattle.pgo_model.specs.ValueText.{same_bytes}
use Rattle.pgo_model.specs.Names.{same_bytes-self, same_bytes-is}
use Rattle.pgo_expr_read.specs.Kinds.{Name}
use Rattle.pgo_syntax.specs.declared.name.PlacedName.{PlacedName}
use Rattle.pgo_syntax.specs.declared.archetype.Archetype.{Archetype}
use Rattle.pgo_syntax.specs.declared.declaration.Definition.{Definition}
use Rattle.pgo_mpcal_read.specs.declared.depths.MacroDepth.{MacroDepth}
use Rattle.pgo_syntax.specs.declared.process.Process.{Process}
use Rattle.pgo_syntax.specs.declared.spec.Spec.{Spec}
use Rattle.pgo_mpcal_read.specs.declared.header.Header.{Header}
use Rattle.pgo_base.specs.declared.expr.Infix.TheVariants as operator
use Rattle.pgo_lexer.specs.declared.symbol.Bracket.TheVariants as bracket
use Rattle.pgo_lexer.specs.declared.symbol.Symbol.TheVariants as symbol
use Rattle.pgo_mpcal_read.specs.declared.units.Units.{Units}
use Rattle.pgo_mpcal_read.specs.Signs.{sees}
use Rattle.pgo_mpcal_read.specs.Elements.{Spot, at, word, placed, IsName, Items}
use Rattle.pgo_mpcal_read.specs.Elements as elements
use Rattle.pgo_mpcal_read.specs.Units.{IsDefinition, is_plain, all_are}
use Rattle.pgo_mpcal_read.specs.Units as u
use Rattle.pgo_mpcal_read.specs.Spells.{IsDashes, IsExtends, IsConstantsWord, IsPart, IsHeader, AreWithinDepth, SpellsTokens}
use Rattle.pgo_mpcal_read.specs.Spells as h
use Rattle.pgo_expr_read.specs.Steps.{and_then, skip, folded}
use Rattle.pgo_mpcal_read.specs.Reading.{Outcome, Parser, name, sees_name, behind, items}
use Rattle.pgo_mpcal_read.specs.ReadingUnits.{definition}
use Rattle.pgo_mpcal_read.specs.ReadingSpec.{is_word, sees_word, expect_word, dashes, begins_list, extends, title, constants_part, definition_part, part, some_left, header, whole, if_some, has_process, are_within_depth, spec_of, all_header, all_algorithm, algorithm, spec}
use Rattle.pgo_expr_read.proofs.Steps.{some_pair, bind_then, next_step}
use Rattle.pgo_mpcal_read.proofs.Parts.{Front, Sound, Reach, Quiet, spot, front_then, name_then, sound_name}
use Rattle.pgo_mpcal_read.proofs.Lists.{sound_items, sound_behind, reach_items, reach_behind}
use Rattle.pgo_mpcal_read.proofs.Declared.{sound_definition, reach_definition, reach_name}
use Rattle.pgo_mpcal_read.proofs.Dashes.{and_false, IsDashesUnit, sound_dashes, reach_dashes}
use Rattle.pgo_mpcal_read.proofs.Algorithms.{IsAlgorithm, algorithm_of, sound_algorithm, reach_algorithm}

-- ---- words

word_of : (w : Name) (k : Token) → is_word w k ≡ true → k ≡ t.Name w
word_of w (t.Name x) e = ap t.Name (same_bytes-is x w e)
word_of w _ e = cc

pub seen_word : (w : Name) (i : List Lexeme) → sees_word w i ≡ true → (p : Spot) × (i ≡ word p w ∷ skip i)
seen_word w [] e = cc
seen_word w (l ∷ i) e = (spot l, ap (λ z. elements.lexeme (spot l) z ∷ i) (word_of w l.token e))

pub data IsWord (w : Name) : List Lexeme → Unit {0} → Type 0 where
  here : {p : Spot} → IsWord w (word p w ∷ []) tt

word_by : (b : Bool) (w : Name) (i : List Lexeme) (a : Unit {0}) (rest : List Lexeme) → sees_word w i ≡ b → cond {A = Outcome (Unit {0})} b (Some (tt, skip i)) None ≡ Some (a, rest) → Front (IsWord w) i a rest
word_by true w i a rest is got =
    let k = seen_word w i is in
    let q = some_pair _ _ _ _ got in
    let P : Unit {0} → Type 0 = λ z. IsWord w (word k.0 w ∷ []) z in
    record { front = word k.0 w ∷ []; split = k.1 ∙ ap (λ z. word k.0 w ∷ z) q.1; holds = subst P q.0 here }
word_by false w i a rest is got = cc

sound_word : (w : Name) → Sound (IsWord w) (expect_word w)
unfolding expect_word
sound_word w i a rest got = word_by (sees_word w i) w i a rest refl got

word_gives : (w : Name) (p : Spot) (i : List Lexeme) → expect_word w (word p w ∷ i) ≡ Some (tt, i)
unfolding expect_word
word_gives w p i = ap (λ b. cond b (Some (tt, i)) None) (same_bytes-self w)

-- ---- the title

extends_by : (b : Bool) (i : List Lexeme) (a : List PlacedName) (rest : List Lexeme) → begins_list (codes "EXTENDS") i ≡ b → cond b (items symbol.Comma name (skip i)) (Some ([], i)) ≡ Some (a, rest) → Front IsExtends i a rest
extends_by true i a rest is got =
    let k = seen_word (codes "EXTENDS") i (and_parts _ _ is).0 in
    let g = sound_items IsName symbol.Comma name sound_name (skip i) a rest got in
    record { front = word k.0 (codes "EXTENDS") ∷ g.front; split = k.1 ∙ ap (λ z. word k.0 (codes "EXTENDS") ∷ z) g.split; holds = h.extends g.holds }
extends_by false i a rest is got =
    let q = some_pair _ _ _ _ got in
    let P : List PlacedName → Type 0 = λ z. IsExtends [] z in
    record { front = []; split = q.1; holds = subst P q.0 h.no_extends }

sound_extends : Sound IsExtends extends
unfolding extends
sound_extends i a rest got = extends_by (begins_list (codes "EXTENDS") i) i a rest refl got

-- what may follow the title and each part of a header
record Follows (rest : List Lexeme) : Type 0 where
  quiet : Quiet rest
  no_comma : sees symbol.Comma rest ≡ false
  no_minus : sees (symbol.Infix operator.Subtract) rest ≡ false
  no_extends : begins_list (codes "EXTENDS") rest ≡ false

names_begin : {xs : List Lexeme} {ns : List PlacedName} → Items IsName symbol.Comma xs ns → (j : List Lexeme) → sees_name (xs ++ j) ≡ true
names_begin (elements.items elements.name m) j = refl

reach_list : Reach (Items IsName symbol.Comma) (items symbol.Comma name) (λ rest. (Unit {0}) × (sees symbol.Comma rest ≡ false))
reach_list = reach_items IsName symbol.Comma name (λ rest. Unit {0}) reach_name (λ p j. tt)

reach_extends : Reach IsExtends extends Follows
unfolding extends
reach_extends front a h.no_extends rest f = ap (λ b. cond b (items symbol.Comma name (skip rest)) (Some ([], rest))) f.no_extends
reach_extends front a (h.extends {p = p} {xs = xs} d) rest f =
    ap (λ b. cond b (items symbol.Comma name (xs ++ rest)) (Some ([], word p (codes "EXTENDS") ∷ (xs ++ rest)))) (names_begin d rest) ∙ reach_list xs a d rest (tt, f.no_comma)

extends_no_minus : {zs : List Lexeme} {es : List PlacedName} → IsExtends zs es → (rest : List Lexeme) → sees (symbol.Infix operator.Subtract) rest ≡ false → sees (symbol.Infix operator.Subtract) (zs ++ rest) ≡ false
extends_no_minus h.no_extends rest e = e
extends_no_minus (h.extends d) rest e = refl

titled : (xs ms ys zs : List Lexeme) (n : Spot) (x : Name) (es : List PlacedName) (i i1 i2 i3 i4 i5 : List Lexeme) (a : Header) (rest : List Lexeme) → i ≡ xs ++ i1 → i1 ≡ ms ++ i2 → i2 ≡ word n x ∷ i3 → i3 ≡ ys ++ i4 → i4 ≡ zs ++ i5 → IsDashes xs → {v : Unit {0}} → IsWord (codes "MODULE") ms v → IsDashes ys → IsExtends zs es
    → ◌≡◌ {A = Header} (record { name = placed n x; extends = es; constants = []; definitions = [] }) a → i5 ≡ rest → Front IsHeader i a rest
titled xs ms ys zs n x es i i1 i2 i3 i4 i5 a rest e1 e2 e3 e4 e5 d1 (here {p = p}) d4 d5 e6 e7 =
    let P : Header → Type 0 = λ z. IsHeader (xs ++ (word p (codes "MODULE") ∷ (word n x ∷ (ys ++ zs)))) z in
    record {
      front = xs ++ (word p (codes "MODULE") ∷ (word n x ∷ (ys ++ zs)));
      split = e1 ∙ ap (λ z. xs ++ z) (e2 ∙ ap (λ z. word p (codes "MODULE") ∷ z) (e3 ∙ ap (λ z. word n x ∷ z) (e4 ∙ ap (λ z. ys ++ z) (e5 ∙ ap (λ z. zs ++ z) e7) ∙ sym (append_assoc ys zs rest)))) ∙ sym (append_assoc xs (word p (codes "MODULE") ∷ (word n x ∷ (ys ++ zs))) rest);
      holds = subst P e6 (h.title p n d1 d4 d5);
    }

sound_title : Sound IsHeader title
unfolding title
sound_title i a rest got =
    front_then IsDashesUnit dashes sound_dashes i _ _ _ got (λ xs v i1 e1 d1 got.
    front_then (IsWord (codes "MODULE")) (expect_word (codes "MODULE")) (sound_word (codes "MODULE")) i1 _ _ _ got (λ ms v i2 e2 d2 got.
    name_then i2 _ _ _ got (λ n x i3 e3 got.
    front_then IsDashesUnit dashes sound_dashes i3 _ _ _ got (λ ys v i4 e4 d4 got.
    front_then IsExtends extends sound_extends i4 _ _ _ got (λ zs es i5 e5 d5 got.
    let q = some_pair _ _ _ _ got in
    titled xs ms ys zs n x es i i1 i2 i3 i4 i5 a rest e1 e2 e3 e4 e5 d1 d2 d4 d5 q.0 q.1)))))

reach_title : {xs ys zs : List Lexeme} (p n : Spot) {x : Name} {es : List PlacedName} → IsDashes xs → IsDashes ys → IsExtends zs es → (rest : List Lexeme) → Follows rest
    → title ((xs ++ (word p (codes "MODULE") ∷ (word n x ∷ (ys ++ zs)))) ++ rest) ≡ Some (record { name = placed n x; extends = es; constants = []; definitions = [] }, rest)
unfolding title
reach_title {xs = xs} {ys = ys} {zs = zs} p n {x = x} {es = es} d e k rest f =
    ap title (append_assoc xs (word p (codes "MODULE") ∷ (word n x ∷ (ys ++ zs))) rest ∙ ap (λ i. xs ++ (word p (codes "MODULE") ∷ (word n x ∷ i))) (append_assoc ys zs rest))
    ∙ next_step _ _ _ _ _ (reach_dashes xs tt d (word p (codes "MODULE") ∷ (word n x ∷ (ys ++ (zs ++ rest)))) refl)
    (next_step _ _ _ _ _ (word_gives (codes "MODULE") p (word n x ∷ (ys ++ (zs ++ rest))))
    (next_step _ _ _ _ _ (reach_dashes ys tt e (zs ++ rest) (extends_no_minus k rest f.no_minus))
    (next_step _ _ _ _ _ (reach_extends zs es k rest f) refl)))

-- ---- parts

record FrontPart (g : Header) (i : List Lexeme) (a : Header) (rest : List Lexeme) : Type 0 where
  front : List Lexeme
  split : i ≡ front ++ rest
  holds : IsPart g front a

sound_constants : (g : Header) (w : Name) → IsConstantsWord w → (i : List Lexeme) (a : Header) (rest : List Lexeme) → begins_list w i ≡ true → constants_part g (skip i) ≡ Some (a, rest) → FrontPart g i a rest
unfolding constants_part
sound_constants g w is i a rest begins got =
    let k = seen_word w i (and_parts _ _ begins).0 in
    name_then (skip i) _ _ _ got (λ n x i1 e1 got.
    bind_then (behind symbol.Comma name (g.constants ++ placed n x ∷ []) i1) _ _ _ got (λ all i2 hb got.
    let m = sound_behind IsName symbol.Comma name sound_name (length i1) (g.constants ++ placed n x ∷ []) i1 all i2 hb in
    let q = some_pair _ _ _ _ got in
    let same : all ≡ g.constants ++ placed n x ∷ m.others = m.is ∙ append_assoc g.constants (placed n x ∷ []) m.others in
    let P : List PlacedName → Type 0 = λ z. IsPart g (word k.0 w ∷ ((word n x ∷ []) ++ m.front)) (record g { constants = z }) in
    let Q : Header → Type 0 = λ z. IsPart g (word k.0 w ∷ ((word n x ∷ []) ++ m.front)) z in
    record {
      front = word k.0 w ∷ ((word n x ∷ []) ++ m.front);
      split = k.1 ∙ ap (λ z. word k.0 w ∷ z) (e1 ∙ ap (λ z. word n x ∷ z) (m.split ∙ ap (λ z. m.front ++ z) q.1));
      holds = subst Q q.0 (subst P (sym same) (h.constants is (elements.items elements.name m.holds)));
    }))

sound_definition_part : (g : Header) (i : List Lexeme) (a : Header) (rest : List Lexeme) → definition_part g i ≡ Some (a, rest) → FrontPart g i a rest
unfolding definition_part
sound_definition_part g i a rest got =
    front_then IsDefinition definition sound_definition i _ _ _ got (λ xs d i1 e1 k got.
    let q = some_pair _ _ _ _ got in
    let P : Header → Type 0 = λ z. IsPart g xs z in
    record { front = xs; split = e1 ∙ ap (λ z. xs ++ z) q.1; holds = subst P q.0 (h.definition k) })

part_by : (b c : Bool) (g : Header) (i : List Lexeme) (a : Header) (rest : List Lexeme) → begins_list (codes "CONSTANT") i ≡ b → begins_list (codes "CONSTANTS") i ≡ c → cond (b || c) (constants_part g (skip i)) (definition_part g i) ≡ Some (a, rest) → FrontPart g i a rest
part_by true c g i a rest one several got = sound_constants g (codes "CONSTANT") h.one i a rest one got
part_by false true g i a rest one several got = sound_constants g (codes "CONSTANTS") h.several i a rest several got
part_by false false g i a rest one several got = sound_definition_part g i a rest got

sound_part : (g : Header) (i : List Lexeme) (a : Header) (rest : List Lexeme) → part g i ≡ Some (a, rest) → FrontPart g i a rest
unfolding part
sound_part g i a rest got = part_by (begins_list (codes "CONSTANT") i) (begins_list (codes "CONSTANTS") i) g i a rest refl refl got

parts_end : (acc res : Header) (all before i rest : List Lexeme) → all ≡ before ++ i → IsHeader before acc → ◌≡◌ {A = Outcome Header} (Some (acc, i)) (Some (res, rest)) → Front IsHeader all res rest
parts_end acc res all before i rest split d got =
    let q = some_pair _ _ _ _ got in
    let P : Header → Type 0 = λ z. IsHeader before z in
    record { front = before; split = split ∙ ap (λ z. before ++ z) q.1; holds = subst P q.0 d }

parts_by : (c : Bool) (n : ℕ) (acc res : Header) (all before i rest : List Lexeme) → all ≡ before ++ i → IsHeader before acc
    → ((next : Header) (more j : List Lexeme) → all ≡ more ++ j → IsHeader more next → folded some_left part n next j ≡ Some (res, rest) → Front IsHeader all res rest)
    → cond c (and_then (part acc i) (folded some_left part n)) (Some (acc, i)) ≡ Some (res, rest) → Front IsHeader all res rest
parts_by true n acc res all before i rest split d go got =
    bind_then (part acc i) _ _ _ got (λ next j k got.
    let g = sound_part acc i next j k in
    go next (before ++ g.front) j (split ∙ ap (λ z. before ++ z) g.split ∙ sym (append_assoc before g.front j)) (h.part d g.holds) got)
parts_by false n acc res all before i rest split d go got = parts_end acc res all before i rest split d got

sound_parts : (n : ℕ) (acc res : Header) (all before i rest : List Lexeme) → all ≡ before ++ i → IsHeader before acc → folded some_left part n acc i ≡ Some (res, rest) → Front IsHeader all res rest
unfolding folded
sound_parts zero acc res all before i rest split d got = parts_end acc res all before i rest split d got
sound_parts (suc n) acc res all before i rest split d got =
    parts_by (some_left i) n acc res all before i rest split d (λ next more j split d got. sound_parts n next res all more j rest split d got) got

pub sound_header : Sound IsHeader header
unfolding header
sound_header i a rest got =
    bind_then (title i) _ _ _ got (λ g j k got.
    let f = sound_title i g j k in
    sound_parts (length j) g a i f.front j rest f.split f.holds got)

-- ---- what is so is read

record Begins (ts : List Lexeme) : Type 0 where
  full : 1 ≤ length ts
  follows : (j : List Lexeme) → Follows (ts ++ j)
  some : (j : List Lexeme) → some_left (ts ++ j) ≡ true

definition_list : {ts : List Lexeme} {d : Definition} → IsDefinition ts d → (w : Name) (j : List Lexeme) → begins_list w (ts ++ j) ≡ false
definition_list (u.without_params {x = x} m) w j = and_false (same_bytes x w)
definition_list (u.with_params c k {x = x} d m) w j = and_false (same_bytes x w)

part_begins : {g a : Header} {ts : List Lexeme} → IsPart g ts a → Begins ts
part_begins (h.constants h.one (elements.items elements.name m)) = record { full = omega arith; follows = λ j. record { quiet = refl; no_comma = refl; no_minus = refl; no_extends = refl }; some = λ j. refl }
part_begins (h.constants h.several (elements.items elements.name m)) = record { full = omega arith; follows = λ j. record { quiet = refl; no_comma = refl; no_minus = refl; no_extends = refl }; some = λ j. refl }
part_begins (h.definition (u.without_params {x = x} m)) = record { full = omega arith; follows = λ j. record { quiet = refl; no_comma = refl; no_minus = refl; no_extends = and_false (same_bytes x (codes "EXTENDS")) }; some = λ j. refl }
part_begins (h.definition (u.with_params c k {x = x} d m)) = record { full = omega arith; follows = λ j. record { quiet = refl; no_comma = refl; no_minus = refl; no_extends = and_false (same_bytes x (codes "EXTENDS")) }; some = λ j. refl }

constants_give : (g : Header) (p : Spot) (w : Name) {xs : List Lexeme} {ns : List PlacedName} → Items IsName symbol.Comma xs ns → (rest : List Lexeme) → sees symbol.Comma rest ≡ false → constants_part g (xs ++ rest) ≡ Some (record g { constants = g.constants ++ ns }, rest)
unfolding constants_part
constants_give g p w (elements.items {ys = ys} {as' = as'} (elements.name {p = n} {x = x}) m) rest e =
    next_step _ _ _ _ _ (reach_behind IsName symbol.Comma name (λ rest. Unit {0}) reach_name (λ p j. tt) m (length (ys ++ rest)) (g.constants ++ placed n x ∷ []) rest (let l = length-append ys rest in omega (arith, l)) (tt, e))
    (ap (λ z. Some (record g { constants = z }, rest)) (append_assoc g.constants (placed n x ∷ []) as'))

reach_part : {g a : Header} {ts : List Lexeme} → IsPart g ts a → (rest : List Lexeme) → Follows rest → part g (ts ++ rest) ≡ Some (a, rest)
unfolding part definition_part
reach_part {g} (h.constants {p = p} {xs = xs} h.one d) rest f =
    ap (λ b. cond (b || begins_list (codes "CONSTANTS") (word p (codes "CONSTANT") ∷ (xs ++ rest))) (constants_part g (xs ++ rest)) (definition_part g (word p (codes "CONSTANT") ∷ (xs ++ rest)))) (names_begin d rest) ∙ constants_give g p (codes "CONSTANT") d rest f.no_comma
reach_part {g} (h.constants {p = p} {xs = xs} h.several d) rest f =
    ap (λ b. cond b (constants_part g (xs ++ rest)) (definition_part g (word p (codes "CONSTANTS") ∷ (xs ++ rest)))) (names_begin d rest) ∙ constants_give g p (codes "CONSTANTS") d rest f.no_comma
reach_part {g} (h.definition {xs = xs} {d = d} k) rest f =
    ap (λ b. cond (b || begins_list (codes "CONSTANTS") (xs ++ rest)) (constants_part g (skip (xs ++ rest))) (definition_part g (xs ++ rest))) (definition_list k (codes "CONSTANT") rest)
    ∙ ap (λ b. cond b (constants_part g (skip (xs ++ rest))) (definition_part g (xs ++ rest))) (definition_list k (codes "CONSTANTS") rest)
    ∙ next_step _ _ _ _ _ (reach_definition xs d k rest f.quiet) refl

record Comes (ts : List Lexeme) (g : Header) (rest : List Lexeme) : Type 0 where
  turns : ℕ
  enough : length rest ≤ turns
  comes : header (ts ++ rest) ≡ folded some_left part turns g rest

record Taken (b a : Header) (turns : ℕ) (i rest : List Lexeme) : Type 0 where
  left : ℕ
  enough : length rest ≤ left
  same : folded some_left part turns b i ≡ folded some_left part left a rest

taken : (turns : ℕ) (b a : Header) (ts rest : List Lexeme) → Begins ts → length (ts ++ rest) ≤ turns → part b (ts ++ rest) ≡ Some (a, rest) → Taken b a turns (ts ++ rest) rest
unfolding folded
taken zero b a ts rest g low got = absurd (let l = length-append ts rest in let f = g.full in omega (arith, low, l, f))
taken (suc n) b a ts rest g low got = record {
  left = n;
  enough = let l = length-append ts rest in let f = g.full in omega (arith, low, l, f);
  same = ap (λ c. cond c (and_then (part b (ts ++ rest)) (folded some_left part n)) (Some (b, ts ++ rest))) (g.some rest) ∙ next_step _ _ _ _ _ got refl;
}

comes_to : {ts : List Lexeme} {g : Header} → IsHeader ts g → (rest : List Lexeme) → Follows rest → Comes ts g rest
unfolding header
comes_to (h.title p n {x = x} {xs = xs} {ys = ys} {zs = zs} {es = es} d e k) rest f = record { turns = length rest; enough = omega arith; comes = next_step _ _ _ _ _ (reach_title p n {x = x} d e k rest f) refl }
comes_to (h.part {xs = xs} {ys = ys} {a = a} {h = g} d e) rest f =
    let b = part_begins e in
    let k = comes_to d (ys ++ rest) (b.follows rest) in
    let t = taken k.turns g a ys rest b k.enough (reach_part e rest f) in
    record { turns = t.left; enough = t.enough; comes = ap header (append_assoc xs ys rest) ∙ k.comes ∙ t.same }

nothing_left : (n : ℕ) (g : Header) → folded some_left part n g [] ≡ Some (g, [])
unfolding folded
nothing_left zero g = refl
nothing_left (suc n) g = refl

whole_header : {ts : List Lexeme} {g : Header} → IsHeader ts g → header ts ≡ Some (g, [])
whole_header {ts} {g} d =
    let k = comes_to d [] (record { quiet = refl; no_comma = refl; no_minus = refl; no_extends = refl }) in
    ap header (sym (append-nil ts)) ∙ k.comes ∙ nothing_left k.turns g

-- ---- the specification

no_rest : (rest front i : List Lexeme) → nat_eq (length rest) 0 ≡ true → i ≡ front ++ rest → i ≡ front
no_rest [] front i e split = split ∙ append-nil front
no_rest (a ∷ rest) front i e split = absurd (let z = eqb-true (length (a ∷ rest)) 0 e in omega (arith, z))

when : {A : Type 0} (b : Bool) (x y : A) → cond b (Some x) None ≡ Some y → (b ≡ true) × (x ≡ y)
when true x y e = (refl, cc)
when false x y e = cc

whole_some : {A : Type 0} (R : List Lexeme → A → Type 0) (p : Parser A) → Sound R p → (i : List Lexeme) (o : Outcome A) (a : A) → p i ≡ o → whole o ≡ Some a → R i a
whole_some {A} R p s i (Some k) a is got =
    let q = when (nat_eq (length k.1) 0) k.0 a got in
    let g = s i k.0 k.1 is in
    let P : List Lexeme → Type 0 = λ z. R z k.0 in
    let Q : A → Type 0 = λ z. R i z in
    subst Q q.1 (subst P (sym (no_rest k.1 g.front i q.0 g.split)) g.holds)
whole_some R p s i None a is got = cc

some_then : {A B : Type 0} (o : Option A) (f : A → Option B) (b : B) (C : Type 0) → if_some o f ≡ Some b → ((a : A) → o ≡ Some a → f a ≡ Some b → C) → C
some_then (Some a) f b C e k = k a refl e
some_then None f b C e k = cc

within_depth_of : (ms : List MacroDepth) (as' : List Archetype) → are_within_depth ms as' ≡ true → AreWithinDepth ms as'
within_depth_of ms [] e = h.no_archetype
within_depth_of ms (a ∷ as') e = let k = and_parts _ _ e in h.archetype (leb-true _ _ k.0) (within_depth_of ms as' k.1)

within_depth_gives : {ms : List MacroDepth} {as' : List Archetype} → AreWithinDepth ms as' → are_within_depth ms as' ≡ true
within_depth_gives h.no_archetype = refl
within_depth_gives {ms = ms} (h.archetype {a = a} {as' = as'} low m) = ap (λ b. b && are_within_depth ms as') (le-leb _ _ low) ∙ within_depth_gives m

-- a header, and an algorithm with a process
record GoodHeader (i : List Lexeme) (a : Header) : Type 0 where
  holds : IsHeader i a
  plain : all_are is_plain i ≡ true

sound_all_header : (i : List Lexeme) (a : Header) → all_header i ≡ Some a → GoodHeader i a
unfolding all_header
sound_all_header i a got =
    some_then (whole (header i)) _ _ _ got (λ g is got.
    let q = when (all_are is_plain i) g a got in
    let P : Header → Type 0 = λ z. IsHeader i z in
    record { holds = subst P q.1 (whole_some IsHeader header sound_header i (header i) g refl is); plain = q.0 })

record GoodAlgorithm (i : List Lexeme) (a : PlacedName × Units) : Type 0 where
  holds : IsAlgorithm i a
  process : has_process a.1.processes ≡ true
  within_depth : are_within_depth a.1.depths a.1.archetypes ≡ true

sound_all_algorithm : (i : List Lexeme) (a : PlacedName × Units) → all_algorithm i ≡ Some a → GoodAlgorithm i a
unfolding all_algorithm
sound_all_algorithm i a got =
    some_then (whole (algorithm i)) _ _ _ got (λ g is got.
    let q = when (has_process g.1.processes && are_within_depth g.1.depths g.1.archetypes) g a got in
    let k = and_parts _ _ q.0 in
    let P : PlacedName × Units → Type 0 = λ z. IsAlgorithm i z in
    record { holds = subst P q.1 (whole_some IsAlgorithm algorithm sound_algorithm i (algorithm i) g refl is); process = ap (λ (z : PlacedName × Units). has_process z.1.processes) (sym q.1) ∙ k.0; within_depth = ap (λ (z : PlacedName × Units). are_within_depth z.1.depths z.1.archetypes) (sym q.1) ∙ k.1 })

some_process : (qs : List Process) → has_process qs ≡ true → (q : Process) × (more : List Process) × (qs ≡ q ∷ more)
some_process [] e = cc
some_process (q ∷ qs) e = (q, qs, refl)

spelled : (hs xs : List Lexeme) (g : Header) (a : PlacedName × Units) → IsHeader hs g → all_are is_plain hs ≡ true → IsAlgorithm xs a → has_process a.1.processes ≡ true → are_within_depth a.1.depths a.1.archetypes ≡ true → SpellsTokens hs xs (spec_of g a)
unfolding spec_of
spelled hs xs g a d plain (algorithm_of c {us = us} k) some low = let q = some_process us.processes some in h.spec c d plain k (within_depth_of us.depths us.archetypes low) q.2

pub found_tokens : (hs xs : List Lexeme) (r : Spec) → spec hs xs ≡ Some r → SpellsTokens hs xs r
unfolding spec
found_tokens hs xs r got =
    some_then (all_header hs) _ _ _ got (λ g is got.
    some_then (all_algorithm xs) _ _ _ got (λ a so got.
    let k = sound_all_header hs g is in
    let m = sound_all_algorithm xs a so in
    let q : spec_of g a ≡ r = cc in
    let P : Spec → Type 0 = λ z. SpellsTokens hs xs z in
    subst P q (spelled hs xs g a k.holds k.plain m.holds m.process m.within_depth)))

pub only_tokens : (hs xs : List Lexeme) (r : Spec) → SpellsTokens hs xs r → spec hs xs ≡ Some r
unfolding spec all_header all_algorithm spec_of
only_tokens hs ts r (h.spec {n = n} {o = o} c {x = x} {hs = hs'} {xs = xs} {h = g} {us = us} {q = q} {qs = qs} d plain k low some) =
    let a = algorithm_of {n = n} {o = o} c {x = x} k in
    let front = word n x ∷ (at o (symbol.Open bracket.Curly) ∷ (xs ++ (at c (symbol.Close bracket.Curly) ∷ []))) in
    let got : algorithm front ≡ Some ((placed n x, us), []) = ap algorithm (sym (append-nil front)) ∙ reach_algorithm front (placed n x, us) a [] tt in
    ap (λ z. if_some (if_some (whole z) (λ g. cond (all_are is_plain hs) (Some g) None)) (λ g. if_some (if_some (whole (algorithm front)) (λ a. cond (has_process a.1.processes && are_within_depth a.1.depths a.1.archetypes) (Some a) None)) (λ a. Some (spec_of g a)))) (whole_header d)
    ∙ ap (λ b. if_some (cond b (Some g) None) (λ g. if_some (if_some (whole (algorithm front)) (λ a. cond (has_process a.1.processes && are_within_depth a.1.depths a.1.archetypes) (Some a) None)) (λ a. Some (spec_of g a)))) plain
    ∙ ap (λ z. if_some (if_some (whole z) (λ a. cond (has_process a.1.processes && are_within_depth a.1.depths a.1.archetypes) (Some a) None)) (λ a. Some (spec_of g a))) got
    ∙ ap (λ b. if_some (cond b (Some (placed n x, us)) None) (λ a. Some (spec_of g a))) (ap (λ z. has_process z && are_within_depth us.depths us.archetypes) some ∙ within_depth_gives low)

pub one_spec_of_tokens : (hs xs : List Lexeme) (a b : Spec) → SpellsTokens hs xs a → SpellsTokens hs xs b → a ≡ b
one_spec_of_tokens hs xs a b d e = let q = sym (only_tokens hs xs a d) ∙ only_tokens hs xs b e in cc
