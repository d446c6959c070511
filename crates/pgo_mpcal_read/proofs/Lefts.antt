-- Assignments and the names of a `with`: what is read is so, and what is so is read.
use Rattle.std.proofs.Common.{◌≡◌, ◌≤◌, Bool, true, false, List, [], ◌∷◌, ◌++◌, length, Some, refl, ap, sym, ◌∙◌, subst, arith, cond, codes}
use Rattle.std.proofs.lemmas.List.{append_assoc}
use Rattle.pgo_lexer.specs.declared.token.Lexeme.{Lexeme}
use Rattle.pgo_expr_read.specs.Kinds.{Name}
use Rattle.pgo_syntax.specs.declared.name.PlacedName.{PlacedName}
use Rattle.pgo_syntax.specs.declared.assignment.Step.{Step}
use Rattle.pgo_syntax.specs.declared.assignment.Left.{Left}
use Rattle.pgo_syntax.specs.declared.assignment.Assignment.{Assignment}
use Rattle.pgo_syntax.specs.declared.binding.Origin.{Origin}
use Rattle.pgo_syntax.specs.declared.binding.WithName.{WithName}
use Rattle.pgo_base.specs.declared.expr.Infix.TheVariants as operator
use Rattle.pgo_lexer.specs.declared.symbol.Bracket.TheVariants as bracket
use Rattle.pgo_lexer.specs.declared.symbol.Symbol.TheVariants as symbol
use Rattle.pgo_mpcal_read.specs.Signs.{sees}
use Rattle.pgo_mpcal_read.specs.Elements.{Spot, at, word, placed, IsExpression, IsRange, Row}
use Rattle.pgo_mpcal_read.specs.Statements.{IsStep, IsLeft, IsAssignment, IsOrigin, IsWithName}
use Rattle.pgo_mpcal_read.specs.Statements as s
use Rattle.pgo_expr_read.specs.Steps.{and_then, pure}
use Rattle.pgo_mpcal_read.specs.Reading.{name, expression, range, row}
use Rattle.pgo_mpcal_read.specs.ReadingStatements.{index_step, field_step, path_step, sees_step, variable, assigned, left, assignment, equals, member, origin_of, with_name}
use Rattle.pgo_expr_read.proofs.Steps.{some_pair, next_step}
use Rattle.pgo_mpcal_read.proofs.Parts.{Front, Sound, Reach, Quiet, front_then, expect_then, mark_then, name_then, eaten_then, expect_gives, mark_gives, eat_true, eat_false}
use Rattle.pgo_mpcal_read.proofs.Expressions.{sound_expression, sound_range, reach_expression, reach_range}
use Rattle.pgo_mpcal_read.proofs.Lists.{sound_row, reach_row}

sound_step : Sound IsStep path_step
unfolding path_step index_step field_step
sound_step i a rest got =
    eaten_then symbol.Dot _ _ i _ _ got
    (λ d i1 e1 got.
    name_then i1 _ _ _ got (λ n x i2 e2 got.
    let q = some_pair _ _ _ _ got in
    let P : Step → Type 0 = λ z. IsStep (at d symbol.Dot ∷ (word n x ∷ [])) z in
    record { front = at d symbol.Dot ∷ (word n x ∷ []); split = e1 ∙ ap (λ z. at d symbol.Dot ∷ z) (e2 ∙ ap (λ z. word n x ∷ z) q.1); holds = subst P q.0 s.field }))
    (λ none got.
    expect_then (symbol.Open bracket.Square) i _ _ _ got (λ o i1 e1 got.
    front_then IsExpression expression sound_expression i1 _ _ _ got (λ xs e i2 e2 d got.
    expect_then (symbol.Close bracket.Square) i2 _ _ _ got (λ c i3 e3 got.
    let q = some_pair _ _ _ _ got in
    let P : Step → Type 0 = λ z. IsStep (at o (symbol.Open bracket.Square) ∷ (xs ++ (at c (symbol.Close bracket.Square) ∷ []))) z in
    record {
      front = at o (symbol.Open bracket.Square) ∷ (xs ++ (at c (symbol.Close bracket.Square) ∷ []));
      split = e1 ∙ ap (λ z. at o (symbol.Open bracket.Square) ∷ z) (e2 ∙ ap (λ z. xs ++ z) (e3 ∙ ap (λ z. at c (symbol.Close bracket.Square) ∷ z) q.1) ∙ sym (append_assoc xs (at c (symbol.Close bracket.Square) ∷ []) rest));
      holds = subst P q.0 (s.index c d);
    }))))

-- a left side by the name that it begins with
data IsAssigned : List Lexeme → PlacedName → Type 0 where
  named : {n : Spot} {x : Name} → IsAssigned (word n x ∷ []) (placed n x)
  variable_at : {n : Spot} → IsAssigned (at n symbol.Variable ∷ []) (placed n (codes "$variable"))

with_path : {xs ys : List Lexeme} {n : PlacedName} {path : List Step} → IsAssigned xs n → Row IsStep ys path → IsLeft (xs ++ ys) (record { name = n; path = path })
with_path named d = s.named d
with_path variable_at d = s.variable d

assigned_by : (b : Bool) (i : List Lexeme) (a : PlacedName) (rest : List Lexeme) → cond b (variable i) (name i) ≡ Some (a, rest) → Front IsAssigned i a rest
unfolding variable
assigned_by true i a rest got =
    mark_then symbol.Variable i _ _ _ got (λ p i1 e1 got.
    let q = some_pair _ _ _ _ got in
    let P : PlacedName → Type 0 = λ z. IsAssigned (at p symbol.Variable ∷ []) z in
    record { front = at p symbol.Variable ∷ []; split = e1 ∙ ap (λ z. at p symbol.Variable ∷ z) q.1; holds = subst P q.0 variable_at })
assigned_by false i a rest got =
    let e : and_then (name i) pure ≡ Some (a, rest) = ap (λ o. and_then o pure) got in
    name_then i pure _ _ e (λ n x i1 e1 got.
    let q = some_pair _ _ _ _ got in
    let P : PlacedName → Type 0 = λ z. IsAssigned (word n x ∷ []) z in
    record { front = word n x ∷ []; split = e1 ∙ ap (λ z. word n x ∷ z) q.1; holds = subst P q.0 named })

sound_assigned : Sound IsAssigned assigned
unfolding assigned
sound_assigned i a rest got = assigned_by (sees symbol.Variable i) i a rest got

sound_left : Sound IsLeft left
unfolding left
sound_left i a rest got =
    front_then IsAssigned assigned sound_assigned i _ _ _ got (λ xs n i1 e1 d got.
    front_then (Row IsStep) (row sees_step path_step) (sound_row IsStep sees_step path_step sound_step) i1 _ _ _ got (λ ys path i2 e2 m got.
    let q = some_pair _ _ _ _ got in
    let P : Left → Type 0 = λ z. IsLeft (xs ++ ys) z in
    record { front = xs ++ ys; split = e1 ∙ ap (λ z. xs ++ z) (e2 ∙ ap (λ z. ys ++ z) q.1) ∙ sym (append_assoc xs ys rest); holds = subst P q.0 (with_path d m) }))

pub sound_assignment : Sound IsAssignment assignment
unfolding assignment
sound_assignment i a rest got =
    front_then IsLeft left sound_left i _ _ _ got (λ xs l i1 e1 d got.
    expect_then symbol.Assign i1 _ _ _ got (λ p i2 e2 got.
    front_then IsExpression expression sound_expression i2 _ _ _ got (λ ys e i3 e3 m got.
    let q = some_pair _ _ _ _ got in
    let P : Assignment → Type 0 = λ z. IsAssignment (xs ++ (at p symbol.Assign ∷ ys)) z in
    record {
      front = xs ++ (at p symbol.Assign ∷ ys);
      split = e1 ∙ ap (λ z. xs ++ z) (e2 ∙ ap (λ z. at p symbol.Assign ∷ z) (e3 ∙ ap (λ z. ys ++ z) q.1)) ∙ sym (append_assoc xs (at p symbol.Assign ∷ ys) rest);
      holds = subst P q.0 (s.assignment p d m);
    })))

pub sound_origin : Sound IsOrigin origin_of
unfolding origin_of equals member
sound_origin i a rest got =
    eaten_then (symbol.Infix operator.Equal) _ _ i _ _ got
    (λ p i1 e1 got.
    front_then IsExpression expression sound_expression i1 _ _ _ got (λ xs e i2 e2 d got.
    let q = some_pair _ _ _ _ got in
    let P : Origin → Type 0 = λ z. IsOrigin (at p (symbol.Infix operator.Equal) ∷ xs) z in
    record { front = at p (symbol.Infix operator.Equal) ∷ xs; split = e1 ∙ ap (λ z. at p (symbol.Infix operator.Equal) ∷ z) (e2 ∙ ap (λ z. xs ++ z) q.1); holds = subst P q.0 (s.equals d) }))
    (λ none got.
    expect_then (symbol.Infix operator.In) i _ _ _ got (λ p i1 e1 got.
    front_then IsRange range sound_range i1 _ _ _ got (λ xs e i2 e2 d got.
    let q = some_pair _ _ _ _ got in
    let P : Origin → Type 0 = λ z. IsOrigin (at p (symbol.Infix operator.In) ∷ xs) z in
    record { front = at p (symbol.Infix operator.In) ∷ xs; split = e1 ∙ ap (λ z. at p (symbol.Infix operator.In) ∷ z) (e2 ∙ ap (λ z. xs ++ z) q.1); holds = subst P q.0 (s.member d) })))

pub sound_with_name : Sound IsWithName with_name
unfolding with_name
sound_with_name i a rest got =
    name_then i _ _ _ got (λ n x i1 e1 got.
    front_then IsOrigin origin_of sound_origin i1 _ _ _ got (λ xs o i2 e2 d got.
    let q = some_pair _ _ _ _ got in
    let P : WithName → Type 0 = λ z. IsWithName (word n x ∷ xs) z in
    record { front = word n x ∷ xs; split = e1 ∙ ap (λ z. word n x ∷ z) (e2 ∙ ap (λ z. xs ++ z) q.1); holds = subst P q.0 (s.with_name d) }))

-- ---- what is so is read

reach_step : Reach IsStep path_step (λ rest. Unit {0})
unfolding path_step index_step field_step
reach_step front a (s.field {d = d} {n = n} {x = x}) rest u = eat_true symbol.Dot field_step index_step d (word n x ∷ rest)
reach_step front a (s.index {o = o} c {xs = xs} {e = e} m) rest u =
    ap (λ i. path_step (at o (symbol.Open bracket.Square) ∷ i)) (append_assoc xs (at c (symbol.Close bracket.Square) ∷ []) rest)
    ∙ eat_false symbol.Dot field_step index_step (at o (symbol.Open bracket.Square) ∷ (xs ++ (at c (symbol.Close bracket.Square) ∷ rest))) refl
    ∙ next_step _ _ _ _ _ (expect_gives (symbol.Open bracket.Square) o (xs ++ (at c (symbol.Close bracket.Square) ∷ rest)))
    (next_step _ _ _ _ _ (reach_expression xs e m (at c (symbol.Close bracket.Square) ∷ rest) refl)
    (next_step _ _ _ _ _ (expect_gives (symbol.Close bracket.Square) c rest) refl))

step_goes : (xs : List Lexeme) (a : Step) → IsStep xs a → (j : List Lexeme) → sees_step (xs ++ j) ≡ true
step_goes front a s.field j = refl
step_goes front a (s.index c m) j = refl

step_full : (xs : List Lexeme) (a : Step) → IsStep xs a → 1 ≤ length xs
step_full front a s.field = omega arith
step_full front a (s.index c m) = omega arith

reach_path : Reach (Row IsStep) (row sees_step path_step) (λ rest. (Unit {0}) × (sees_step rest ≡ false))
reach_path = reach_row IsStep sees_step path_step (λ rest. Unit {0}) reach_step step_goes (λ xs a d j. tt) step_full

reach_left : Reach IsLeft left (λ rest. sees_step rest ≡ false)
unfolding left assigned variable
reach_left front a (s.named {n = n} {x = x} {xs = xs} {path = path} d) rest u = next_step _ _ _ _ _ (reach_path xs path d rest (tt, u)) refl
reach_left front a (s.variable {n = n} {xs = xs} {path = path} d) rest u = next_step _ _ _ _ _ (next_step _ _ _ _ _ (mark_gives symbol.Variable n (xs ++ rest)) refl) (next_step _ _ _ _ _ (reach_path xs path d rest (tt, u)) refl)

pub reach_assignment : Reach IsAssignment assignment Quiet
unfolding assignment
reach_assignment front a (s.assignment p {xs = xs} {ys = ys} {l = l} {e = e} d m) rest q =
    ap assignment (append_assoc xs (at p symbol.Assign ∷ ys) rest)
    ∙ next_step _ _ _ _ _ (reach_left xs l d (at p symbol.Assign ∷ (ys ++ rest)) refl)
    (next_step _ _ _ _ _ (expect_gives symbol.Assign p (ys ++ rest))
    (next_step _ _ _ _ _ (reach_expression ys e m rest q) refl))

pub reach_origin : Reach IsOrigin origin_of Quiet
unfolding origin_of equals member
reach_origin front a (s.equals {p = p} {xs = xs} {e = e} d) rest q = eat_true (symbol.Infix operator.Equal) equals member p (xs ++ rest) ∙ next_step _ _ _ _ _ (reach_expression xs e d rest q) refl
reach_origin front a (s.member {p = p} {xs = xs} {e = e} d) rest q =
    eat_false (symbol.Infix operator.Equal) equals member (at p (symbol.Infix operator.In) ∷ (xs ++ rest)) refl
    ∙ next_step _ _ _ _ _ (expect_gives (symbol.Infix operator.In) p (xs ++ rest)) (next_step _ _ _ _ _ (reach_range xs e d rest q) refl)

pub reach_with_name : Reach IsWithName with_name Quiet
unfolding with_name
reach_with_name front a (s.with_name {n = n} {x = x} {xs = xs} {o = o} d) rest q = next_step _ _ _ _ _ (reach_origin xs o d rest q) refl
