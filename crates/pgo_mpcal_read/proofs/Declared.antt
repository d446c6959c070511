-- Definitions and declarations: what is read is so, and what is so is read.
use Rattle.std.proofs.Common.{◌≡◌, ℕ, zero, suc, ◌<◌, ◌≤◌, Bool, true, false, List, [], ◌∷◌, ◌++◌, length, Option, Some, None, refl, ap, sym, ◌∙◌, subst, arith, cond, ◌⊎◌, inl, inr}
use Rattle.std.proofs.lemmas.List.{append_assoc, length-append}
use Rattle.pgo_lexer.specs.declared.token.Lexeme.{Lexeme}
use Rattle.pgo_expr_read.specs.Kinds.{Name}
use Rattle.pgo_syntax.specs.declared.binding.Origin.{Origin}
use Rattle.pgo_syntax.specs.declared.declaration.Declaration.{Declaration}
use Rattle.pgo_syntax.specs.declared.declaration.Definition.{Definition}
use Rattle.pgo_lexer.specs.declared.symbol.Bracket.TheVariants as bracket
use Rattle.pgo_lexer.specs.declared.symbol.Keyword.TheVariants as keyword
use Rattle.pgo_lexer.specs.declared.symbol.Symbol.TheVariants as symbol
use Rattle.pgo_expr_read.specs.Signs.{is_sign}
use Rattle.pgo_mpcal_read.specs.Signs.{sees}
use Rattle.pgo_mpcal_read.specs.Elements.{Spot, at, word, placed, closes, Ended, IsName, IsExpression, Items, Row}
use Rattle.pgo_mpcal_read.specs.Elements as elements
use Rattle.pgo_mpcal_read.specs.Statements.{IsOrigin}
use Rattle.pgo_mpcal_read.specs.Statements as s
use Rattle.pgo_mpcal_read.specs.Units.{IsDefinition, IsDeclaration, Parted, IsDeclarations, IsVariables, IsLocals}
use Rattle.pgo_mpcal_read.specs.Units as u
use Rattle.pgo_expr_read.specs.Steps.{and_then, skip, folded}
use Rattle.pgo_mpcal_read.specs.Reading.{name, sees_name, expression, front_of, items, row, ended}
use Rattle.pgo_mpcal_read.specs.ReadingStatements.{origin_of}
use Rattle.pgo_mpcal_read.specs.ReadingUnits.{without_params, with_params, definition, with_value, sees_origin, declaration, declaration_ended, declared_to, one_more_declaration, declarations, variables, locals}
use Rattle.pgo_expr_read.proofs.Steps.{some_pair, bind_then, next_step}
use Rattle.pgo_mpcal_read.proofs.Parts.{Front, Sound, Reach, Quiet, front_then, expect_then, name_then, eaten_then, seen, sound_name, expect_gives, eat_true, eat_false}
use Rattle.pgo_mpcal_read.proofs.Expressions.{sound_expression, reach_expression}
use Rattle.pgo_mpcal_read.proofs.Lists.{sound_items, reach_items, reach_row}
use Rattle.pgo_mpcal_read.proofs.Lefts.{sound_origin, reach_origin}
use Rattle.pgo_mpcal_read.proofs.Good.{sound_ended, front_is}

pub reach_name : Reach IsName name (λ rest. Unit {0})
reach_name front a elements.name rest q = refl

pub sound_definition : Sound IsDefinition definition
unfolding definition without_params with_params
sound_definition i a rest got =
    name_then i _ _ _ got (λ n x i1 e1 got.
    eaten_then (symbol.Open bracket.Round) _ _ i1 _ _ got
    (λ o i2 e2 got.
    front_then (Items IsName symbol.Comma) (items symbol.Comma name) (sound_items IsName symbol.Comma name sound_name) i2 _ _ _ got (λ xs ps i3 e3 d got.
    expect_then (symbol.Close bracket.Round) i3 _ _ _ got (λ c i4 e4 got.
    expect_then symbol.Defines i4 _ _ _ got (λ k i5 e5 got.
    front_then IsExpression expression sound_expression i5 _ _ _ got (λ ts e i6 e6 m got.
    let q = some_pair _ _ _ _ got in
    let P : Definition → Type 0 = λ z. IsDefinition (word n x ∷ (at o (symbol.Open bracket.Round) ∷ (xs ++ (at c (symbol.Close bracket.Round) ∷ (at k symbol.Defines ∷ ts))))) z in
    record { front = word n x ∷ (at o (symbol.Open bracket.Round) ∷ (xs ++ (at c (symbol.Close bracket.Round) ∷ (at k symbol.Defines ∷ ts)))); split = e1 ∙ ap (λ z. word n x ∷ z) (e2 ∙ ap (λ z. at o (symbol.Open bracket.Round) ∷ z) (e3 ∙ ap (λ z. xs ++ z) (e4 ∙ ap (λ z. at c (symbol.Close bracket.Round) ∷ z) (e5 ∙ ap (λ z. at k symbol.Defines ∷ z) (e6 ∙ ap (λ z. ts ++ z) q.1))) ∙ sym (append_assoc xs (at c (symbol.Close bracket.Round) ∷ (at k symbol.Defines ∷ ts)) rest))); holds = subst P q.0 (u.with_params c k d m) })))))
    (λ none got.
    expect_then symbol.Defines i1 _ _ _ got (λ k i2 e2 got.
    front_then IsExpression expression sound_expression i2 _ _ _ got (λ ts e i3 e3 m got.
    let q = some_pair _ _ _ _ got in
    let P : Definition → Type 0 = λ z. IsDefinition (word n x ∷ (at k symbol.Defines ∷ ts)) z in
    record { front = word n x ∷ (at k symbol.Defines ∷ ts); split = e1 ∙ ap (λ z. word n x ∷ z) (e2 ∙ ap (λ z. at k symbol.Defines ∷ z) (e3 ∙ ap (λ z. ts ++ z) q.1)); holds = subst P q.0 (u.without_params m) }))))

pub reach_definition : Reach IsDefinition definition Quiet
unfolding definition without_params with_params
reach_definition front a (u.with_params {n = n} {o = o} c k {x = x} {xs = xs} {ts = ts} {ps = ps} {e = e} d m) rest q =
    ap definition (ap (λ z. word n x ∷ z) (ap (λ z. at o (symbol.Open bracket.Round) ∷ z) (append_assoc xs (at c (symbol.Close bracket.Round) ∷ (at k symbol.Defines ∷ ts)) rest)))
    ∙ eat_true (symbol.Open bracket.Round) (with_params (placed n x)) (without_params (placed n x)) o (xs ++ (at c (symbol.Close bracket.Round) ∷ (at k symbol.Defines ∷ (ts ++ rest))))
    ∙ next_step _ _ _ _ _ (reach_items IsName symbol.Comma name (λ rest. Unit {0}) reach_name (λ p j. tt) xs ps d (at c (symbol.Close bracket.Round) ∷ (at k symbol.Defines ∷ (ts ++ rest))) (tt, refl)) (next_step _ _ _ _ _ (expect_gives (symbol.Close bracket.Round) c (at k symbol.Defines ∷ (ts ++ rest))) (next_step _ _ _ _ _ (expect_gives symbol.Defines k (ts ++ rest)) (next_step _ _ _ _ _ (reach_expression ts e m rest q) refl)))
reach_definition front a (u.without_params {n = n} {d = k} {x = x} {ts = ts} {e = e} m) rest q =
    eat_false (symbol.Open bracket.Round) (with_params (placed n x)) (without_params (placed n x)) (at k symbol.Defines ∷ (ts ++ rest)) refl
    ∙ next_step _ _ _ _ _ (expect_gives symbol.Defines k (ts ++ rest)) (next_step _ _ _ _ _ (reach_expression ts e m rest q) refl)

definition_goes : (xs : List Lexeme) (a : Definition) → IsDefinition xs a → (j : List Lexeme) → sees_name (xs ++ j) ≡ true
definition_goes front a (u.without_params m) j = refl
definition_goes front a (u.with_params c k d m) j = refl

definition_follows : (xs : List Lexeme) (a : Definition) → IsDefinition xs a → (j : List Lexeme) → Quiet (xs ++ j)
definition_follows front a (u.without_params m) j = refl
definition_follows front a (u.with_params c k d m) j = refl

definition_full : (xs : List Lexeme) (a : Definition) → IsDefinition xs a → 1 ≤ length xs
definition_full front a (u.without_params m) = omega arith
definition_full front a (u.with_params c k d m) = omega arith

pub reach_definitions : Reach (Row IsDefinition) (row sees_name definition) (λ rest. Quiet rest × (sees_name rest ≡ false))
reach_definitions = reach_row IsDefinition sees_name definition Quiet reach_definition definition_goes definition_follows definition_full

-- ---- declarations

declaration_by : (b : Bool) (n : Spot) (x : Name) (i i1 : List Lexeme) (a : Declaration) (rest : List Lexeme) → i ≡ word n x ∷ i1 → cond b (with_value (placed n x) i1) (Some (record { name = placed n x; initial = None }, i1)) ≡ Some (a, rest) → Front IsDeclaration i a rest
unfolding with_value
declaration_by true n x i i1 a rest e1 got =
    front_then IsOrigin origin_of sound_origin i1 _ _ _ got (λ xs o i2 e2 d got.
    let q = some_pair _ _ _ _ got in
    let P : Declaration → Type 0 = λ z. IsDeclaration (word n x ∷ xs) z in
    record { front = word n x ∷ xs; split = e1 ∙ ap (λ z. word n x ∷ z) (e2 ∙ ap (λ z. xs ++ z) q.1); holds = subst P q.0 (u.with_value d) })
declaration_by false n x i i1 a rest e1 got =
    let q = some_pair _ _ _ _ got in
    let P : Declaration → Type 0 = λ z. IsDeclaration (word n x ∷ []) z in
    record { front = word n x ∷ []; split = e1 ∙ ap (λ z. word n x ∷ z) q.1; holds = subst P q.0 u.without_value }

sound_declaration : Sound IsDeclaration declaration
unfolding declaration
sound_declaration i a rest got = name_then i _ _ _ got (λ n x i1 e1 got. declaration_by (sees_origin i1) n x i i1 a rest e1 got)

declared_full : (xs : List Lexeme) (a : Declaration) → IsDeclaration xs a → 1 ≤ length xs
declared_full front a u.without_value = omega arith
declared_full front a (u.with_value d) = omega arith

origin_seen : (xs : List Lexeme) (o : Origin) → IsOrigin xs o → (j : List Lexeme) → sees_origin (xs ++ j) ≡ true
origin_seen front o (s.equals d) j = refl
origin_seen front o (s.member d) j = refl

-- what stands behind a declaration, and what follows
data Between (front : List Lexeme) : List Lexeme → List Lexeme → Type 0 where
  by_comma : {p : Spot} {j : List Lexeme} → sees_name j ≡ true → Between front (at p symbol.Comma ∷ []) j
  by_end : {zs j : List Lexeme} → Ended front zs → Between front zs j

-- a declaration with what stands behind it
record NextDeclaration (i : List Lexeme) (acc next : List Declaration) (j : List Lexeme) : Type 0 where
  front : List Lexeme
  behind : List Lexeme
  part : Declaration
  split : i ≡ front ++ (behind ++ j)
  holds : IsDeclaration front part
  ends : Between front behind j
  is : next ≡ acc ++ part ∷ []

between_by : (b c : Bool) (i rest j xs : List Lexeme) → i ≡ xs ++ rest → sees symbol.Comma rest ≡ b → sees_name (skip rest) ≡ c → cond b (cond c (Some (skip rest)) None) (ended i rest) ≡ Some j → (zs : List Lexeme) × (rest ≡ zs ++ j) × Between xs zs j
between_by true true i rest j xs split comma is got =
    let k = seen symbol.Comma rest comma in
    let q : skip rest ≡ j = cc in
    (at k.0 symbol.Comma ∷ [], k.1 ∙ ap (λ z. at k.0 symbol.Comma ∷ z) q, by_comma (ap sees_name (sym q) ∙ is))
between_by true false i rest j xs split comma is got = cc
between_by false c i rest j xs split comma is got = let g = sound_ended i xs rest j split got in (g.front, g.split, by_end g.holds)

next_by : (o : Option (List Lexeme)) (i rest j : List Lexeme) (acc next : List Declaration) (d : Declaration) → Front IsDeclaration i d rest → declaration_ended i rest ≡ o → declared_to acc d o ≡ Some (next, j) → NextDeclaration i acc next j
unfolding declaration_ended
next_by (Some k) i rest j acc next d g is got =
    let q = some_pair _ _ _ _ got in
    let b = between_by (sees symbol.Comma rest) (sees_name (skip rest)) i rest k g.front g.split refl refl is in
    let P : List Lexeme → Type 0 = λ z. Between g.front b.0 z in
    record { front = g.front; behind = b.0; part = d; split = g.split ∙ ap (λ z. g.front ++ z) (b.1 ∙ ap (λ z. b.0 ++ z) q.1); holds = g.holds; ends = subst P q.1 b.2; is = sym q.0 }
next_by None i rest j acc next d g is got = cc

sound_next : (acc next : List Declaration) (i j : List Lexeme) → one_more_declaration acc i ≡ Some (next, j) → NextDeclaration i acc next j
unfolding one_more_declaration
sound_next acc next i j got = bind_then (declaration i) _ _ _ got (λ d rest h got. next_by (declaration_ended i rest) i rest j acc next d (sound_declaration i d rest h) refl got)

record GoodDeclarations (i : List Lexeme) (acc res : List Declaration) (rest : List Lexeme) : Type 0 where
  front : List Lexeme
  others : List Declaration
  split : i ≡ front ++ rest
  holds : IsDeclarations front others
  is : res ≡ acc ++ others

falls : (i j : List Lexeme) (acc next : List Declaration) → NextDeclaration i acc next j → length j < length i
falls i j acc next g =
    let a : length i ≡ length (g.front ++ (g.behind ++ j)) = ap length g.split in
    let b = length-append g.front (g.behind ++ j) in
    let c = length-append g.behind j in
    let d = declared_full g.front g.part g.holds in
    omega (arith, a, b, c, d)

ends_here : (i j : List Lexeme) (acc next res : List Declaration) (rest : List Lexeme) (g : NextDeclaration i acc next j) → sees_name j ≡ false → (zs : List Lexeme) → g.behind ≡ zs → Between g.front zs j → next ≡ res → j ≡ rest → GoodDeclarations i acc res rest
ends_here i j acc next res rest g over zs same (by_comma is) e f = absurd (let q = sym is ∙ over in cc)
ends_here i j acc next res rest g over zs same (by_end ends) e f = record {
  front = g.front ++ zs;
  others = g.part ∷ [];
  split = g.split ∙ ap (λ z. g.front ++ (z ++ j)) same ∙ ap (λ z. g.front ++ (zs ++ z)) f ∙ sym (append_assoc g.front zs rest);
  holds = u.last_declaration g.holds ends;
  is = sym e ∙ g.is;
}

parted : {xs zs j : List Lexeme} → Between xs zs j → Parted xs zs
parted (by_comma is) = u.comma
parted (by_end ends) = u.ended ends

goes_on_here : (i j : List Lexeme) (acc next res : List Declaration) (rest : List Lexeme) (g : NextDeclaration i acc next j) → GoodDeclarations j next res rest → GoodDeclarations i acc res rest
goes_on_here i j acc next res rest g m = record {
  front = g.front ++ (g.behind ++ m.front);
  others = g.part ∷ m.others;
  split = g.split ∙ ap (λ z. g.front ++ (g.behind ++ z)) m.split ∙ ap (λ z. g.front ++ z) (sym (append_assoc g.behind m.front rest)) ∙ sym (append_assoc g.front (g.behind ++ m.front) rest);
  holds = u.declaration g.holds (parted g.ends) m.holds;
  is = m.is ∙ ap (λ z. z ++ m.others) g.is ∙ append_assoc acc (g.part ∷ []) m.others;
}

further_by : (b : Bool) (n : ℕ) (i j : List Lexeme) (acc next res : List Declaration) (rest : List Lexeme) (g : NextDeclaration i acc next j) → sees_name j ≡ b
    → ((second : List Declaration) (k : List Lexeme) (h : NextDeclaration j next second k) → folded sees_name one_more_declaration n second k ≡ Some (res, rest) → GoodDeclarations j next res rest)
    → cond b (and_then (one_more_declaration next j) (folded sees_name one_more_declaration n)) (Some (next, j)) ≡ Some (res, rest) → GoodDeclarations i acc res rest
further_by true n i j acc next res rest g is go got =
    bind_then (one_more_declaration next j) _ _ _ got (λ second k h got. goes_on_here i j acc next res rest g (go second k (sound_next next second j k h) got))
further_by false n i j acc next res rest g is go got = let q = some_pair _ _ _ _ got in ends_here i j acc next res rest g is g.behind refl g.ends q.0 q.1

empty_name : (j : List Lexeme) → length j ≤ 0 → sees_name j ≡ false
empty_name [] h = refl
empty_name (l ∷ j) h = absurd (omega (arith, h))

sound_further : (n : ℕ) (i j : List Lexeme) (acc next res : List Declaration) (rest : List Lexeme) → NextDeclaration i acc next j → length j ≤ n → folded sees_name one_more_declaration n next j ≡ Some (res, rest) → GoodDeclarations i acc res rest
unfolding folded
sound_further zero i j acc next res rest g h got = let q = some_pair _ _ _ _ got in ends_here i j acc next res rest g (empty_name j h) g.behind refl g.ends q.0 q.1
sound_further (suc n) i j acc next res rest g h got =
    further_by (sees_name j) n i j acc next res rest g refl (λ second k m got. sound_further n j k next second res rest m (let l = falls j k next second m in omega (arith, l, h)) got) got

sound_declarations : Sound IsDeclarations declarations
unfolding declarations
sound_declarations i a rest got =
    bind_then (one_more_declaration [] i) _ _ _ got (λ first j h got.
    let g = sound_further (length j) i j [] first a rest (sound_next [] first i j h) (omega arith) got in
    let P : List Declaration → Type 0 = λ z. IsDeclarations g.front z in
    record { front = g.front; split = g.split; holds = subst P (sym g.is) g.holds })

pub sound_variables : Sound IsVariables variables
unfolding variables
sound_variables i a rest got =
    expect_then (symbol.Keyword keyword.Variables) i _ _ _ got (λ p i1 e1 got.
    let g = sound_declarations i1 a rest got in
    record { front = at p (symbol.Keyword keyword.Variables) ∷ g.front; split = e1 ∙ ap (λ z. at p (symbol.Keyword keyword.Variables) ∷ z) g.split; holds = u.variables g.holds })

locals_by : (b : Bool) (i : List Lexeme) (a : List Declaration) (rest : List Lexeme) → cond b (variables i) (Some ([], i)) ≡ Some (a, rest) → Front IsLocals i a rest
locals_by true i a rest got = let g = sound_variables i a rest got in record { front = g.front; split = g.split; holds = u.locals g.holds }
locals_by false i a rest got =
    let q = some_pair _ _ _ _ got in
    let P : List Declaration → Type 0 = λ z. IsLocals [] z in
    record { front = []; split = q.1; holds = subst P q.0 u.no_locals }

pub sound_locals : Sound IsLocals locals
unfolding locals
sound_locals i a rest got = locals_by (sees (symbol.Keyword keyword.Variables) i) i a rest got

-- ---- what is so is read

-- what may follow declarations
pub record Behind (rest : List Lexeme) : Type 0 where
  pub quiet : Quiet rest
  pub no_name : sees_name rest ≡ false
  pub no_comma : sees symbol.Comma rest ≡ false
  pub no_semicolon : sees symbol.Semicolon rest ≡ false

reach_declared : {xs : List Lexeme} {d : Declaration} → IsDeclaration xs d → (rest : List Lexeme) → Quiet rest → (sees_origin rest ≡ false) ⊎ (closes xs ≡ true) → declaration (xs ++ rest) ≡ Some (d, rest)
unfolding declaration with_value
reach_declared (u.without_value {n = n} {x = x}) rest q (inl free) = ap (λ b. cond b (with_value (placed n x) rest) (Some (record { name = placed n x; initial = None }, rest))) free
reach_declared (u.without_value {n = n} {x = x}) rest q (inr c) = cc
reach_declared (u.with_value {n = n} {x = x} {ts = ts} {o = o} d) rest q h =
    ap (λ b. cond b (with_value (placed n x) (ts ++ rest)) (Some (record { name = placed n x; initial = None }, ts ++ rest))) (origin_seen ts o d rest) ∙ next_step _ _ _ _ _ (reach_origin ts o d rest q) refl

-- what stands behind a declaration is passed
behind_gives : {xs zs : List Lexeme} → Parted xs zs → (rest : List Lexeme) → (zs ≡ [] → (sees symbol.Comma rest ≡ false) × (sees symbol.Semicolon rest ≡ false)) → ((p : Spot) → zs ≡ at p symbol.Comma ∷ [] → sees_name rest ≡ true) → declaration_ended (xs ++ (zs ++ rest)) (zs ++ rest) ≡ Some rest
unfolding declaration_ended ended
behind_gives (u.comma {p = p}) rest free named = ap (λ b. cond b (Some rest) None) (named p refl)
behind_gives (u.ended elements.semicolon) rest free named = refl
behind_gives {xs = xs} (u.ended (elements.brace e)) rest free named =
    let n = free refl in
    ap (λ b. cond b (cond (sees_name (skip rest)) (Some (skip rest)) None) (cond (sees symbol.Semicolon rest) (Some (skip rest)) (cond (closes (front_of (xs ++ rest) rest)) (Some rest) None))) n.0
    ∙ ap (λ b. cond b (Some (skip rest)) (cond (closes (front_of (xs ++ rest) rest)) (Some rest) None)) n.1
    ∙ ap (λ z. cond (closes z) (Some rest) None) (front_is (xs ++ rest) xs rest refl)
    ∙ ap (λ b. cond b (Some rest) None) e

-- how what stands behind a declaration and the rest begin
behind_quiet : {xs zs : List Lexeme} → Parted xs zs → (rest : List Lexeme) → Quiet rest → Quiet (zs ++ rest)
behind_quiet u.comma rest q = refl
behind_quiet (u.ended elements.semicolon) rest q = refl
behind_quiet (u.ended (elements.brace e)) rest q = q

behind_plain : {xs zs : List Lexeme} → Parted xs zs → (rest : List Lexeme) → (sees_origin (zs ++ rest) ≡ false) ⊎ (closes xs ≡ true)
behind_plain u.comma rest = inl refl
behind_plain (u.ended elements.semicolon) rest = inl refl
behind_plain (u.ended (elements.brace e)) rest = inr e

one_gives : {xs zs : List Lexeme} {d : Declaration} → IsDeclaration xs d → Parted xs zs → (acc : List Declaration) (rest : List Lexeme) → Quiet rest → (zs ≡ [] → (sees symbol.Comma rest ≡ false) × (sees symbol.Semicolon rest ≡ false)) → ((p : Spot) → zs ≡ at p symbol.Comma ∷ [] → sees_name rest ≡ true)
    → one_more_declaration acc (xs ++ (zs ++ rest)) ≡ Some (acc ++ d ∷ [], rest)
unfolding one_more_declaration
one_gives {xs = xs} {zs = zs} {d = d} m p acc rest q free named =
    next_step _ _ _ _ _ (reach_declared m (zs ++ rest) (behind_quiet p rest q) (behind_plain p rest)) (ap (declared_to acc d) (behind_gives p rest free named))

not_comma : {xs zs : List Lexeme} → Ended xs zs → (p : Spot) → zs ≡ at p symbol.Comma ∷ [] → ⊥
not_comma (elements.semicolon {p = q}) p e =
    let f : is_sign symbol.Semicolon (at q symbol.Semicolon).token ≡ is_sign symbol.Semicolon (at p symbol.Comma).token = ap (λ z. sees symbol.Semicolon z) e in cc
not_comma (elements.brace c) p e = let f : sees symbol.Comma [] ≡ true = ap (sees symbol.Comma) e in cc

declared_begins : {ts : List Lexeme} {ds : List Declaration} → IsDeclarations ts ds → (j : List Lexeme) → (sees_name (ts ++ j) ≡ true) × (Quiet (ts ++ j)) × (sees symbol.Comma (ts ++ j) ≡ false) × (sees symbol.Semicolon (ts ++ j) ≡ false) × (1 ≤ length ts)
declared_begins (u.last_declaration u.without_value e) j = (refl, refl, refl, refl, omega arith)
declared_begins (u.last_declaration (u.with_value d) e) j = (refl, refl, refl, refl, omega arith)
declared_begins (u.declaration u.without_value e m) j = (refl, refl, refl, refl, omega arith)
declared_begins (u.declaration (u.with_value d) e m) j = (refl, refl, refl, refl, omega arith)

stops_here : (n : ℕ) (acc : List Declaration) (rest : List Lexeme) → sees_name rest ≡ false → folded sees_name one_more_declaration n acc rest ≡ Some (acc, rest)
unfolding folded
stops_here zero acc rest h = refl
stops_here (suc n) acc rest h = ap (λ b. cond b (and_then (one_more_declaration acc rest) (folded sees_name one_more_declaration n)) (Some (acc, rest))) h

-- one declaration of a list, and what is left to read of it
step_last : {xs zs : List Lexeme} {d : Declaration} → IsDeclaration xs d → Ended xs zs → (acc : List Declaration) (rest : List Lexeme) → Behind rest → one_more_declaration acc ((xs ++ zs) ++ rest) ≡ Some (acc ++ d ∷ [], rest)
step_last {xs = xs} {zs = zs} m e acc rest f =
    ap (one_more_declaration acc) (append_assoc xs zs rest) ∙ one_gives m (u.ended e) acc rest f.quiet (λ n. (f.no_comma, f.no_semicolon)) (λ p c. absurd (not_comma e p c))

step_more : {xs zs ys : List Lexeme} {d : Declaration} {ds : List Declaration} → IsDeclaration xs d → Parted xs zs → IsDeclarations ys ds → (acc : List Declaration) (rest : List Lexeme) → one_more_declaration acc ((xs ++ (zs ++ ys)) ++ rest) ≡ Some (acc ++ d ∷ [], ys ++ rest)
step_more {xs = xs} {zs = zs} {ys = ys} m p k acc rest =
    let b = declared_begins k rest in
    ap (one_more_declaration acc) (append_assoc xs (zs ++ ys) rest ∙ ap (λ z. xs ++ z) (append_assoc zs ys rest)) ∙ one_gives m p acc (ys ++ rest) b.1 (λ n. (b.2, b.3)) (λ p c. b.0)

reach_further : {ts : List Lexeme} {ds : List Declaration} → IsDeclarations ts ds → (n : ℕ) (acc : List Declaration) (rest : List Lexeme) → length ts ≤ n → Behind rest → folded sees_name one_more_declaration n acc (ts ++ rest) ≡ Some (acc ++ ds, rest)
unfolding folded
reach_further d zero acc rest h f = absurd (let b = declared_begins d [] in let k = b.4 in omega (arith, k, h))
reach_further (u.last_declaration {xs = xs} {zs = zs} {d = d} m e) (suc n) acc rest h f =
    ap (λ b. cond b (and_then (one_more_declaration acc ((xs ++ zs) ++ rest)) (folded sees_name one_more_declaration n)) (Some (acc, (xs ++ zs) ++ rest))) (declared_begins (u.last_declaration m e) rest).0
    ∙ next_step _ _ _ _ _ (step_last m e acc rest f) (stops_here n (acc ++ d ∷ []) rest f.no_name)
reach_further (u.declaration {xs = xs} {ys = ys} {zs = zs} {d = d} {ds = ds} m p k) (suc n) acc rest h f =
    let l = length-append xs (zs ++ ys) in
    let l' = length-append zs ys in
    let full = declared_full xs d m in
    ap (λ b. cond b (and_then (one_more_declaration acc ((xs ++ (zs ++ ys)) ++ rest)) (folded sees_name one_more_declaration n)) (Some (acc, (xs ++ (zs ++ ys)) ++ rest))) (declared_begins (u.declaration m p k) rest).0
    ∙ next_step _ _ _ _ _ (step_more m p k acc rest) (reach_further k n (acc ++ d ∷ []) rest (omega (arith, h, l, l', full)) f)
    ∙ ap (λ z. Some (z, rest)) (append_assoc acc (d ∷ []) ds)

reach_declarations : Reach IsDeclarations declarations Behind
unfolding declarations
reach_declarations front a (u.last_declaration {d = d} m e) rest f = next_step _ _ _ _ _ (step_last m e [] rest f) (stops_here (length rest) (d ∷ []) rest f.no_name)
reach_declarations front a (u.declaration {ys = ys} {d = d} m p k) rest f = next_step _ _ _ _ _ (step_more m p k [] rest) (reach_further k (length (ys ++ rest)) (d ∷ []) rest (let l = length-append ys rest in omega (arith, l)) f)

pub reach_variables : Reach IsVariables variables Behind
unfolding variables
reach_variables front a (u.variables {p = p} {xs = xs} d) rest f = next_step _ _ _ _ _ (expect_gives (symbol.Keyword keyword.Variables) p (xs ++ rest)) (reach_declarations xs a d rest f)

pub reach_locals : Reach IsLocals locals (λ rest. Behind rest × (sees (symbol.Keyword keyword.Variables) rest ≡ false))
unfolding locals
reach_locals front a u.no_locals rest f = ap (λ b. cond b (variables rest) (Some ([], rest))) f.1
reach_locals front a (u.locals {xs = xs} (u.variables {p = p} {xs = ys} d)) rest f = reach_variables (at p (symbol.Keyword keyword.Variables) ∷ ys) a (u.variables d) rest f.0
