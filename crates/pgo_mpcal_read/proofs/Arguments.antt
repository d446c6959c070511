-- Parameters, arguments and mapping clauses: what is read is so, and what is so is read.
use Rattle.std.proofs.Common.{◌≡◌, ◌≤◌, Bool, true, false, List, [], ◌∷◌, ◌++◌, length, Some, refl, ap, sym, ◌∙◌, subst, arith, cond}
use Rattle.std.proofs.lemmas.List.{append_assoc}
use Rattle.pgo_base.specs.Tree.{Tree}
use Rattle.pgo_lexer.specs.declared.token.Lexeme.{Lexeme}
use Rattle.pgo_syntax.specs.declared.name.PlacedName.{PlacedName}
use Rattle.pgo_syntax.specs.declared.archetype.Extent.{Extent}
use Rattle.pgo_syntax.specs.declared.archetype.Extent.TheVariants as extents
use Rattle.pgo_syntax.specs.declared.archetype.Parameter.{Parameter}
use Rattle.pgo_syntax.specs.declared.process.Argument.{Argument}
use Rattle.pgo_syntax.specs.declared.process.MappingClause.{MappingClause}
use Rattle.pgo_syntax.specs.declared.process.MappingTarget.{MappingTarget}
use Rattle.pgo_lexer.specs.declared.symbol.Bracket.TheVariants as bracket
use Rattle.pgo_lexer.specs.declared.symbol.Keyword.TheVariants as keyword
use Rattle.pgo_lexer.specs.declared.symbol.Symbol.TheVariants as symbol
use Rattle.pgo_mpcal_read.specs.Signs.{sees}
use Rattle.pgo_mpcal_read.specs.Elements.{at, word, numeral, IsName, IsExpression, InBrackets, Row}
use Rattle.pgo_mpcal_read.specs.Elements as elements
use Rattle.pgo_mpcal_read.specs.Units.{IsExtent, IsParameter, IsArgument, IsTarget, IsClause}
use Rattle.pgo_mpcal_read.specs.Units as u
use Rattle.pgo_mpcal_read.specs.Reading.{name, place, expression, in_brackets, row}
use Rattle.pgo_mpcal_read.specs.ReadingUnits.{element, extent, ref_parameter, value_parameter, parameter, ref_argument, value_argument, argument, numbered_target, named_target, target, clause, sees_clause}
use Rattle.pgo_expr_read.proofs.Steps.{some_pair, next_step}
use Rattle.pgo_mpcal_read.proofs.Parts.{Front, Sound, Reach, Quiet, front_then, expect_then, mark_then, name_then, number_then, eaten_then, sound_name, expect_gives, mark_gives, eat_true, eat_false}
use Rattle.pgo_mpcal_read.proofs.Expressions.{sound_expression, reach_expression}
use Rattle.pgo_mpcal_read.proofs.Lists.{sound_in_brackets, sound_row, reach_in_brackets, reach_row}
use Rattle.pgo_syntax.specs.declared.process.Argument.TheVariants as arguments
use Rattle.pgo_mpcal_read.proofs.Heads as heads

extent_by : (b : Bool) (i : List Lexeme) (a : Extent) (rest : List Lexeme) → cond b (element i) (Some (extents.Whole, i)) ≡ Some (a, rest) → Front IsExtent i a rest
unfolding element
extent_by true i a rest got =
    expect_then (symbol.Open bracket.Square) i _ _ _ got (λ o i1 e1 got.
    expect_then symbol.Underscore i1 _ _ _ got (λ v i2 e2 got.
    expect_then (symbol.Close bracket.Square) i2 _ _ _ got (λ c i3 e3 got.
    let q = some_pair _ _ _ _ got in
    let P : Extent → Type 0 = λ z. IsExtent (at o (symbol.Open bracket.Square) ∷ (at v symbol.Underscore ∷ (at c (symbol.Close bracket.Square) ∷ []))) z in
    record { front = at o (symbol.Open bracket.Square) ∷ (at v symbol.Underscore ∷ (at c (symbol.Close bracket.Square) ∷ [])); split = e1 ∙ ap (λ z. at o (symbol.Open bracket.Square) ∷ z) (e2 ∙ ap (λ z. at v symbol.Underscore ∷ z) (e3 ∙ ap (λ z. at c (symbol.Close bracket.Square) ∷ z) q.1)); holds = subst P q.0 u.element })))
extent_by false i a rest got =
    let q = some_pair _ _ _ _ got in
    let P : Extent → Type 0 = λ z. IsExtent [] z in
    record { front = []; split = q.1; holds = subst P q.0 u.whole }

sound_extent : Sound IsExtent extent
unfolding extent
sound_extent i a rest got = extent_by (sees (symbol.Open bracket.Square) i) i a rest got

pub reach_extent : Reach IsExtent extent (λ rest. sees (symbol.Open bracket.Square) rest ≡ false)
unfolding extent element
reach_extent front a u.whole rest q = ap (λ b. cond b (element rest) (Some (extents.Whole, rest))) q
reach_extent front a (u.element {o = o} {u = v} {c = c}) rest q =
    next_step _ _ _ _ _ (expect_gives (symbol.Open bracket.Square) o (at v symbol.Underscore ∷ (at c (symbol.Close bracket.Square) ∷ rest))) (next_step _ _ _ _ _ (expect_gives symbol.Underscore v (at c (symbol.Close bracket.Square) ∷ rest)) (next_step _ _ _ _ _ (expect_gives (symbol.Close bracket.Square) c rest) refl))

-- ---- parameters

pub sound_parameter : Sound IsParameter parameter
unfolding parameter ref_parameter value_parameter
sound_parameter i a rest got =
    eaten_then (symbol.Keyword keyword.Ref) _ _ i _ _ got
    (λ p i1 e1 got.
    name_then i1 _ _ _ got (λ n x i2 e2 got.
    front_then IsExtent extent sound_extent i2 _ _ _ got (λ ts m i3 e3 d got.
    let q = some_pair _ _ _ _ got in
    let P : Parameter → Type 0 = λ z. IsParameter (at p (symbol.Keyword keyword.Ref) ∷ (word n x ∷ ts)) z in
    record { front = at p (symbol.Keyword keyword.Ref) ∷ (word n x ∷ ts); split = e1 ∙ ap (λ z. at p (symbol.Keyword keyword.Ref) ∷ z) (e2 ∙ ap (λ z. word n x ∷ z) (e3 ∙ ap (λ z. ts ++ z) q.1)); holds = subst P q.0 (u.ref_parameter d) })))
    (λ none got.
    name_then i _ _ _ got (λ n x i1 e1 got.
    let q = some_pair _ _ _ _ got in
    let P : Parameter → Type 0 = λ z. IsParameter (word n x ∷ []) z in
    record { front = word n x ∷ []; split = e1 ∙ ap (λ z. word n x ∷ z) q.1; holds = subst P q.0 u.value_parameter }))

pub reach_parameter : Reach IsParameter parameter (λ rest. sees (symbol.Open bracket.Square) rest ≡ false)
unfolding parameter ref_parameter value_parameter
reach_parameter front a (u.value_parameter {n = n} {x = x}) rest q = eat_false (symbol.Keyword keyword.Ref) ref_parameter value_parameter (word n x ∷ rest) refl
reach_parameter front a (u.ref_parameter {p = p} {n = n} {x = x} {ts = ts} {m = m} d) rest q =
    eat_true (symbol.Keyword keyword.Ref) ref_parameter value_parameter p (word n x ∷ (ts ++ rest)) ∙ next_step _ _ _ _ _ (reach_extent ts m d rest q) refl

parameter_begins : (xs : List Lexeme) (a : Parameter) → IsParameter xs a → (j : List Lexeme) → sees (symbol.Close bracket.Round) (xs ++ j) ≡ false
parameter_begins front a u.value_parameter j = refl
parameter_begins front a (u.ref_parameter d) j = refl

pub sound_parameters : Sound (InBrackets IsParameter) (in_brackets parameter)
sound_parameters = sound_in_brackets IsParameter parameter sound_parameter

pub reach_parameters : Reach (InBrackets IsParameter) (in_brackets parameter) (λ rest. Unit {0})
reach_parameters = reach_in_brackets IsParameter parameter (λ rest. sees (symbol.Open bracket.Square) rest ≡ false) reach_parameter (λ p j. refl) (λ p j. refl) parameter_begins

reach_name : Reach IsName name (λ rest. Unit {0})
reach_name front a elements.name rest q = refl

name_begins : (xs : List Lexeme) (a : PlacedName) → IsName xs a → (j : List Lexeme) → sees (symbol.Close bracket.Round) (xs ++ j) ≡ false
name_begins front a elements.name j = refl

pub sound_names : Sound (InBrackets IsName) (in_brackets name)
sound_names = sound_in_brackets IsName name sound_name

pub reach_names : Reach (InBrackets IsName) (in_brackets name) (λ rest. Unit {0})
reach_names = reach_in_brackets IsName name (λ rest. Unit {0}) reach_name (λ p j. tt) (λ p j. tt) name_begins

-- ---- arguments

-- the place of an expression is that of its first token
first_place : (xs : List Lexeme) (e : Tree) (j : List Lexeme) → IsExpression xs e → IsArgument xs (arguments.Value (place (xs ++ j)) e)
first_place [] e j d = absurd (let b = heads.begins [] e d in let k = b.full in omega (arith, k))
first_place (l ∷ xs) e j d = u.value_argument d

sound_value : Sound IsArgument value_argument
unfolding value_argument
sound_value i a rest got =
    front_then IsExpression expression sound_expression i _ _ _ got (λ xs e i1 e1 d got.
    let q = some_pair _ _ _ _ got in
    let P : Argument → Type 0 = λ z. IsArgument xs z in
    let here : IsArgument xs (arguments.Value (place i) e) = let Q : List Lexeme → Type 0 = λ z. IsArgument xs (arguments.Value (place z) e) in subst Q (sym e1) (first_place xs e i1 d) in
    record { front = xs; split = e1 ∙ ap (λ z. xs ++ z) q.1; holds = subst P q.0 here })

pub sound_argument : Sound IsArgument argument
unfolding argument ref_argument
sound_argument i a rest got =
    eaten_then (symbol.Keyword keyword.Ref) _ _ i _ _ got
    (λ p i1 e1 got.
    name_then i1 _ _ _ got (λ n x i2 e2 got.
    front_then IsExtent extent sound_extent i2 _ _ _ got (λ ts m i3 e3 d got.
    let q = some_pair _ _ _ _ got in
    let P : Argument → Type 0 = λ z. IsArgument (at p (symbol.Keyword keyword.Ref) ∷ (word n x ∷ ts)) z in
    record { front = at p (symbol.Keyword keyword.Ref) ∷ (word n x ∷ ts); split = e1 ∙ ap (λ z. at p (symbol.Keyword keyword.Ref) ∷ z) (e2 ∙ ap (λ z. word n x ∷ z) (e3 ∙ ap (λ z. ts ++ z) q.1)); holds = subst P q.0 (u.ref_argument d) })))
    (λ none got. sound_value i a rest got)

-- what may follow an argument
pub record BehindArgument (rest : List Lexeme) : Type 0 where
  pub quiet : Quiet rest
  pub no_square : sees (symbol.Open bracket.Square) rest ≡ false

pub reach_argument : Reach IsArgument argument BehindArgument
unfolding argument ref_argument value_argument
reach_argument front a (u.value_argument {l = l} {ts = ts} {e = e} d) rest q =
    eat_false (symbol.Keyword keyword.Ref) ref_argument value_argument (l ∷ (ts ++ rest)) (let b = heads.begins (l ∷ ts) e d in b.no_ref rest)
    ∙ next_step _ _ _ _ _ (reach_expression (l ∷ ts) e d rest q.quiet) refl
reach_argument front a (u.ref_argument {p = p} {n = n} {x = x} {ts = ts} {m = m} d) rest q =
    eat_true (symbol.Keyword keyword.Ref) ref_argument value_argument p (word n x ∷ (ts ++ rest)) ∙ next_step _ _ _ _ _ (reach_extent ts m d rest q.no_square) refl

argument_begins : (xs : List Lexeme) (a : Argument) → IsArgument xs a → (j : List Lexeme) → sees (symbol.Close bracket.Round) (xs ++ j) ≡ false
argument_begins front a (u.value_argument {l = l} {ts = ts} {e = e} d) j = let b = heads.begins (l ∷ ts) e d in b.no_close j
argument_begins front a (u.ref_argument d) j = refl

pub sound_arguments : Sound (InBrackets IsArgument) (in_brackets argument)
sound_arguments = sound_in_brackets IsArgument argument sound_argument

pub reach_arguments : Reach (InBrackets IsArgument) (in_brackets argument) (λ rest. Unit {0})
reach_arguments = reach_in_brackets IsArgument argument BehindArgument reach_argument (λ p j. record { quiet = refl; no_square = refl }) (λ p j. record { quiet = refl; no_square = refl }) argument_begins

-- ---- mapping clauses

target_by : (b : Bool) (i : List Lexeme) (a : MappingTarget) (rest : List Lexeme) → cond b (numbered_target i) (named_target i) ≡ Some (a, rest) → Front IsTarget i a rest
unfolding numbered_target named_target
target_by true i a rest got =
    mark_then symbol.At i _ _ _ got (λ p i1 e1 got.
    number_then i1 _ _ _ got (λ k x i2 e2 got.
    front_then IsExtent extent sound_extent i2 _ _ _ got (λ ts m i3 e3 d got.
    let q = some_pair _ _ _ _ got in
    let P : MappingTarget → Type 0 = λ z. IsTarget (at p symbol.At ∷ (numeral k x ∷ ts)) z in
    record { front = at p symbol.At ∷ (numeral k x ∷ ts); split = e1 ∙ ap (λ z. at p symbol.At ∷ z) (e2 ∙ ap (λ z. numeral k x ∷ z) (e3 ∙ ap (λ z. ts ++ z) q.1)); holds = subst P q.0 (u.by_number d) })))
target_by false i a rest got =
    name_then i _ _ _ got (λ n x i1 e1 got.
    front_then IsExtent extent sound_extent i1 _ _ _ got (λ ts m i2 e2 d got.
    let q = some_pair _ _ _ _ got in
    let P : MappingTarget → Type 0 = λ z. IsTarget (word n x ∷ ts) z in
    record { front = word n x ∷ ts; split = e1 ∙ ap (λ z. word n x ∷ z) (e2 ∙ ap (λ z. ts ++ z) q.1); holds = subst P q.0 (u.by_name d) }))

sound_target : Sound IsTarget target
unfolding target
sound_target i a rest got = target_by (sees symbol.At i) i a rest got

reach_target : Reach IsTarget target (λ rest. sees (symbol.Open bracket.Square) rest ≡ false)
unfolding target numbered_target named_target
reach_target front a (u.by_name {n = n} {x = x} {ts = ts} {m = m} d) rest q = next_step _ _ _ _ _ (reach_extent ts m d rest q) refl
reach_target front a (u.by_number {p = p} {q = k} {k = x} {ts = ts} {m = m} d) rest q =
    next_step _ _ _ _ _ (mark_gives symbol.At p (numeral k x ∷ (ts ++ rest))) (next_step _ _ _ _ _ (reach_extent ts m d rest q) refl)

sound_clause : Sound IsClause clause
unfolding clause
sound_clause i a rest got =
    expect_then (symbol.Keyword keyword.Mapping) i _ _ _ got (λ p i1 e1 got.
    front_then IsTarget target sound_target i1 _ _ _ got (λ xs g i2 e2 d got.
    expect_then (symbol.Keyword keyword.Via) i2 _ _ _ got (λ v i3 e3 got.
    name_then i3 _ _ _ got (λ n x i4 e4 got.
    let q = some_pair _ _ _ _ got in
    let P : MappingClause → Type 0 = λ z. IsClause (at p (symbol.Keyword keyword.Mapping) ∷ (xs ++ (at v (symbol.Keyword keyword.Via) ∷ (word n x ∷ [])))) z in
    record { front = at p (symbol.Keyword keyword.Mapping) ∷ (xs ++ (at v (symbol.Keyword keyword.Via) ∷ (word n x ∷ []))); split = e1 ∙ ap (λ z. at p (symbol.Keyword keyword.Mapping) ∷ z) (e2 ∙ ap (λ z. xs ++ z) (e3 ∙ ap (λ z. at v (symbol.Keyword keyword.Via) ∷ z) (e4 ∙ ap (λ z. word n x ∷ z) q.1)) ∙ sym (append_assoc xs (at v (symbol.Keyword keyword.Via) ∷ (word n x ∷ [])) rest)); holds = subst P q.0 (u.clause v n d) }))))

reach_clause : Reach IsClause clause (λ rest. Unit {0})
unfolding clause
reach_clause front a (u.clause {p = p} v n {x = x} {xs = xs} {g = g} d) rest q =
    ap clause (ap (λ z. at p (symbol.Keyword keyword.Mapping) ∷ z) (append_assoc xs (at v (symbol.Keyword keyword.Via) ∷ (word n x ∷ [])) rest))
    ∙ next_step _ _ _ _ _ (expect_gives (symbol.Keyword keyword.Mapping) p (xs ++ (at v (symbol.Keyword keyword.Via) ∷ (word n x ∷ rest)))) (next_step _ _ _ _ _ (reach_target xs g d (at v (symbol.Keyword keyword.Via) ∷ (word n x ∷ rest)) refl) (next_step _ _ _ _ _ (expect_gives (symbol.Keyword keyword.Via) v (word n x ∷ rest)) refl))

clause_goes : (xs : List Lexeme) (a : MappingClause) → IsClause xs a → (j : List Lexeme) → sees_clause (xs ++ j) ≡ true
clause_goes front a (u.clause v n (u.by_name d)) j = refl
clause_goes front a (u.clause v n (u.by_number d)) j = refl

clause_full : (xs : List Lexeme) (a : MappingClause) → IsClause xs a → 1 ≤ length xs
clause_full front a (u.clause v n d) = omega arith

pub sound_clauses : Sound (Row IsClause) (row sees_clause clause)
sound_clauses = sound_row IsClause sees_clause clause sound_clause

pub reach_clauses : Reach (Row IsClause) (row sees_clause clause) (λ rest. (Unit {0}) × (sees_clause rest ≡ false))
reach_clauses = reach_row IsClause sees_clause clause (λ rest. Unit {0}) reach_clause clause_goes (λ xs a d j. tt) clause_full
