-- Names and definitions: what is read is so, and what is so is read.
use Rattle.std.proofs.Common.{◌≡◌, ◌≤◌, Bool, true, false, not, ◌&&◌, List, [], ◌∷◌, ◌++◌, length, refl, ap, sym, ◌∙◌, subst, arith}
use Rattle.std.proofs.lemmas.List.{append_assoc}
use Rattle.pgo_base.specs.Lookup.{Name}
use Rattle.pgo_base.specs.Tree.{Tree}
use Rattle.pgo_base.specs.Tree as tree
use Rattle.pgo_base.specs.declared.module.Action.{Action}
use Rattle.pgo_base.specs.declared.module.Defined.{Defined}
use Rattle.pgo_base.specs.declared.module.Defined.TheVariants as base
use Rattle.pgo_lexer.specs.declared.symbol.Bracket.TheVariants as bracket
use Rattle.pgo_lexer.specs.declared.symbol.Symbol.TheVariants as symbol
use Rattle.pgo_lexer.specs.declared.token.Lexeme.{Lexeme}
use Rattle.pgo_model.specs.ModuleView.{defined_view}
use Rattle.pgo_model.specs.Val as model
use Rattle.pgo_model.specs.Written.{self_name}
use Rattle.pgo_mpcal_read.specs.Elements.{Spot, at, word, placed, IsName, Items, Row}
use Rattle.pgo_mpcal_read.specs.Elements as elements
use Rattle.pgo_mpcal_read.specs.Reading.{name, items}
use Rattle.pgo_mpcal_read.specs.Signs.{sees}
use Rattle.pgo_mpcal_read.proofs.Expressions.{sound_within, reach_within}
use Rattle.pgo_mpcal_read.proofs.Lists.{sound_items, reach_items, sound_row, reach_row}
use Rattle.pgo_expr_read.proofs.Steps.{some_pair, next_step}
use Rattle.pgo_mpcal_read.proofs.Parts.{Front, Sound, Reach, Quiet, front_then, expect_then, name_then, eaten_then, sound_name, expect_gives, eat_true, eat_false}
use Rattle.pgo_module_spells.specs.Grammar.{IsExpression, IsDefined, AreListed, most_height}
use Rattle.pgo_module_spells.specs.Grammar as g
use Rattle.pgo_module_read.specs.Reading.{expression, with_parameters, without_parameters, definition, is_definition, definitions, with_self, action, is_action, actions, body_of, names_behind, fixed}
use Rattle.pgo_module_read.proofs.FixedRows.{AreFixed, FixedUnit, word_then, word_gives, sound_fixed, fixed_gives}
use Rattle.pgo_module_read.proofs.FixedRows as fixes

-- ---- expressions and names

pub sound_expression : Sound IsExpression expression
sound_expression i a rest got = sound_within most_height i a rest got

pub reach_expression : Reach IsExpression expression Quiet
reach_expression xs a d rest q = reach_within most_height xs a d rest q

reach_name : Reach IsName name (λ rest. Unit {0})
reach_name front a elements.name rest q = refl

reach_list : Reach (Items IsName symbol.Comma) (items symbol.Comma name) (λ rest. (Unit {0}) × (sees symbol.Comma rest ≡ false))
reach_list = reach_items IsName symbol.Comma name (λ rest. Unit {0}) reach_name (λ p j. tt)

pub sound_names : (w : Name) → Sound (AreListed w) (names_behind w)
unfolding names_behind
sound_names w i a rest got =
    word_then w i _ _ _ got (λ p j e1 got.
    front_then (Items IsName symbol.Comma) (items symbol.Comma name) (sound_items IsName symbol.Comma name sound_name) j _ _ _ got (λ xs ns k e2 d got.
    let q = some_pair _ _ _ _ got in
    let P : List Name → Type 0 = λ z. Front (AreListed w) i z rest in
    subst P q.0 (record { front = word p w ∷ xs; split = e1 ∙ ap (λ z. word p w ∷ z) (e2 ∙ ap (λ z. xs ++ z) q.1); holds = g.listed p d })))

pub reach_names : (w : Name) → Reach (AreListed w) (names_behind w) (λ rest. sees symbol.Comma rest ≡ false)
unfolding names_behind
reach_names w front a (g.listed p {xs = xs} {ns = ns} d) rest e = next_step _ _ _ _ _ (word_gives w p (xs ++ rest)) (next_step _ _ _ _ _ (reach_list xs ns d rest (tt, e)) refl)

-- ---- definitions

-- a definition as it lies in memory
pub record IsBase (ts : List Lexeme) (d : Defined) : Type 0 where
  pub is : IsDefined ts (defined_view d)

pub sound_definition : Sound IsBase definition
unfolding definition without_parameters with_parameters
sound_definition i a rest got =
    name_then i _ _ _ got (λ n x i1 e1 got.
    eaten_then (symbol.Open bracket.Round) _ _ i1 _ _ got
    (λ o i2 e2 got.
    front_then (Items IsName symbol.Comma) (items symbol.Comma name) (sound_items IsName symbol.Comma name sound_name) i2 _ _ _ got (λ xs ps i3 e3 d got.
    expect_then (symbol.Close bracket.Round) i3 _ _ _ got (λ c i4 e4 got.
    expect_then symbol.Defines i4 _ _ _ got (λ k i5 e5 got.
    front_then IsExpression expression sound_expression i5 _ _ _ got (λ ts e i6 e6 m got.
    let q = some_pair _ _ _ _ got in
    let P : Defined → Type 0 = λ z. IsBase (word n x ∷ (at o (symbol.Open bracket.Round) ∷ (xs ++ (at c (symbol.Close bracket.Round) ∷ (at k symbol.Defines ∷ ts))))) z in
    record { front = word n x ∷ (at o (symbol.Open bracket.Round) ∷ (xs ++ (at c (symbol.Close bracket.Round) ∷ (at k symbol.Defines ∷ ts)))); split = e1 ∙ ap (λ z. word n x ∷ z) (e2 ∙ ap (λ z. at o (symbol.Open bracket.Round) ∷ z) (e3 ∙ ap (λ z. xs ++ z) (e4 ∙ ap (λ z. at c (symbol.Close bracket.Round) ∷ z) (e5 ∙ ap (λ z. at k symbol.Defines ∷ z) (e6 ∙ ap (λ z. ts ++ z) q.1))) ∙ sym (append_assoc xs (at c (symbol.Close bracket.Round) ∷ (at k symbol.Defines ∷ ts)) rest))); holds = subst P q.0 (record { is = g.with_parameters c k d m }) })))))
    (λ none got.
    expect_then symbol.Defines i1 _ _ _ got (λ k i2 e2 got.
    front_then IsExpression expression sound_expression i2 _ _ _ got (λ ts e i3 e3 m got.
    let q = some_pair _ _ _ _ got in
    let P : Defined → Type 0 = λ z. IsBase (word n x ∷ (at k symbol.Defines ∷ ts)) z in
    record { front = word n x ∷ (at k symbol.Defines ∷ ts); split = e1 ∙ ap (λ z. word n x ∷ z) (e2 ∙ ap (λ z. at k symbol.Defines ∷ z) (e3 ∙ ap (λ z. ts ++ z) q.1)); holds = subst P q.0 (record { is = g.without_parameters m }) }))))

-- a definition as it lies in memory, by the one that it stands for
abbrev pub base_of : model.Defined → Defined
base_of (model.Means x ps e) = base.Means x ps e
base_of (model.Given x v) = base.Means x [] (tree.name x)

pub data Written : List Lexeme → Defined → Type 0 where
  written : {ts : List Lexeme} {d : model.Defined} → IsDefined ts d → Written ts (base_of d)

pub reach_definition : Reach Written definition Quiet
unfolding definition without_parameters with_parameters
reach_definition front a (written (g.with_parameters {n = n} {o = o} c k {x = x} {xs = xs} {ts = ts} {ps = ps} {e = e} d m)) rest q =
    ap definition (ap (λ z. word n x ∷ z) (ap (λ z. at o (symbol.Open bracket.Round) ∷ z) (append_assoc xs (at c (symbol.Close bracket.Round) ∷ (at k symbol.Defines ∷ ts)) rest)))
    ∙ eat_true (symbol.Open bracket.Round) (with_parameters (placed n x)) (without_parameters (placed n x)) o (xs ++ (at c (symbol.Close bracket.Round) ∷ (at k symbol.Defines ∷ (ts ++ rest))))
    ∙ next_step _ _ _ _ _ (reach_list xs ps d (at c (symbol.Close bracket.Round) ∷ (at k symbol.Defines ∷ (ts ++ rest))) (tt, refl)) (next_step _ _ _ _ _ (expect_gives (symbol.Close bracket.Round) c (at k symbol.Defines ∷ (ts ++ rest))) (next_step _ _ _ _ _ (expect_gives symbol.Defines k (ts ++ rest)) (next_step _ _ _ _ _ (reach_expression ts e m rest q) refl)))
reach_definition front a (written (g.without_parameters {n = n} {d = k} {x = x} {ts = ts} {e = e} m)) rest q =
    eat_false (symbol.Open bracket.Round) (with_parameters (placed n x)) (without_parameters (placed n x)) (at k symbol.Defines ∷ (ts ++ rest)) refl
    ∙ next_step _ _ _ _ _ (expect_gives symbol.Defines k (ts ++ rest)) (next_step _ _ _ _ _ (reach_expression ts e m rest q) refl)

and_false : (b : Bool) → (b && false) ≡ false
and_false true = refl
and_false false = refl

definition_goes : (xs : List Lexeme) (a : Defined) → Written xs a → (j : List Lexeme) → is_definition (xs ++ j) ≡ true
definition_goes front a (written (g.without_parameters {x = x} m)) j = ap not (and_false _)
definition_goes front a (written (g.with_parameters c k {x = x} d m)) j = ap not (and_false _)

definition_follows : (xs : List Lexeme) (a : Defined) → Written xs a → (j : List Lexeme) → Quiet (xs ++ j)
definition_follows front a (written (g.without_parameters m)) j = refl
definition_follows front a (written (g.with_parameters c k d m)) j = refl

definition_full : (xs : List Lexeme) (a : Defined) → Written xs a → 1 ≤ length xs
definition_full front a (written (g.without_parameters m)) = omega arith
definition_full front a (written (g.with_parameters c k d m)) = omega arith

pub sound_definitions : Sound (Row IsBase) definitions
sound_definitions = sound_row IsBase is_definition definition sound_definition

pub reach_definitions : Reach (Row Written) definitions (λ rest. Quiet rest × (is_definition rest ≡ false))
reach_definitions = reach_row Written is_definition definition Quiet reach_definition definition_goes definition_follows definition_full

-- ---- definitions with the parameter `self`

pub data IsAction : List Lexeme → Action → Type 0 where
  action_of : {n o s c d : Spot} {x : Name} {ts : List Lexeme} {e : Tree} → IsExpression ts e
      → IsAction (word n x ∷ (at o (symbol.Open bracket.Round) ∷ (word s self_name ∷ (at c (symbol.Close bracket.Round) ∷ (at d symbol.Defines ∷ ts))))) (record { name = x; body = e })

selved : (n : Spot) (x : Name) (xs ts rest i i1 i2 i3 : List Lexeme) (e : Tree) (a : Action) → i ≡ word n x ∷ i1 → i1 ≡ xs ++ i2 → i2 ≡ ts ++ i3 → i3 ≡ rest → AreFixed with_self xs → IsExpression ts e → ◌≡◌ {A = Action} (record { name = x; body = e }) a → Front IsAction i a rest
selved n x xs ts rest i i1 i2 i3 e a e1 e2 e3 e4 (fixes.sign_next {p = o} (fixes.word_next {p = s} (fixes.sign_next {p = c} (fixes.sign_next {p = d} fixes.none)))) m q =
    let P : Action → Type 0 = λ z. Front IsAction i z rest in
    subst P q (record {
      front = word n x ∷ (at o (symbol.Open bracket.Round) ∷ (word s self_name ∷ (at c (symbol.Close bracket.Round) ∷ (at d symbol.Defines ∷ ts))));
      split = e1 ∙ ap (λ z. word n x ∷ z) (e2 ∙ ap (λ z. at o (symbol.Open bracket.Round) ∷ (word s self_name ∷ (at c (symbol.Close bracket.Round) ∷ (at d symbol.Defines ∷ z)))) (e3 ∙ ap (λ z. ts ++ z) e4));
      holds = action_of m;
    })

sound_action : Sound IsAction action
unfolding action
sound_action i a rest got =
    name_then i _ _ _ got (λ n x i1 e1 got.
    front_then (FixedUnit with_self) (fixed with_self) (sound_fixed with_self) i1 _ _ _ got (λ xs u i2 e2 f got.
    front_then IsExpression expression sound_expression i2 _ _ _ got (λ ts e i3 e3 m got.
    let q = some_pair _ _ _ _ got in
    selved n x xs ts rest i i1 i2 i3 e a e1 e2 e3 q.1 f m q.0)))

reach_action : Reach IsAction action Quiet
unfolding action
reach_action front a (action_of {n = n} {o = o} {s = s} {c = c} {d = d} {x = x} {ts = ts} {e = e} m) rest q =
    next_step _ _ _ _ _ (fixed_gives (fixes.sign_next {p = o} (fixes.word_next {p = s} (fixes.sign_next {p = c} (fixes.sign_next {p = d} fixes.none)))) (ts ++ rest)) (next_step _ _ _ _ _ (reach_expression ts e m rest q) refl)

pub sound_actions : Sound (Row IsAction) actions
sound_actions = sound_row IsAction is_action action sound_action

action_goes : (xs : List Lexeme) (a : Action) → IsAction xs a → (j : List Lexeme) → is_action (xs ++ j) ≡ true
action_goes front a (action_of m) j = refl

action_follows : (xs : List Lexeme) (a : Action) → IsAction xs a → (j : List Lexeme) → Quiet (xs ++ j)
action_follows front a (action_of m) j = refl

action_full : (xs : List Lexeme) (a : Action) → IsAction xs a → 1 ≤ length xs
action_full front a (action_of m) = omega arith

pub reach_actions : Reach (Row IsAction) actions (λ rest. Quiet rest × (is_action rest ≡ false))
reach_actions = reach_row IsAction is_action action Quiet reach_action action_goes action_follows action_full

-- ---- definitions without parameters

pub data IsBody (w : Name) : List Lexeme → Tree → Type 0 where
  body : {n d : Spot} {ts : List Lexeme} {e : Tree} → IsExpression ts e → IsBody w (word n w ∷ (at d symbol.Defines ∷ ts)) e

pub sound_body : (w : Name) → Sound (IsBody w) (body_of w)
unfolding body_of
sound_body w i a rest got =
    word_then w i _ _ _ got (λ n i1 e1 got.
    expect_then symbol.Defines i1 _ _ _ got (λ d i2 e2 got.
    let h = sound_expression i2 a rest got in
    record { front = word n w ∷ (at d symbol.Defines ∷ h.front); split = e1 ∙ ap (λ z. word n w ∷ z) (e2 ∙ ap (λ z. at d symbol.Defines ∷ z) h.split); holds = body h.holds }))

pub reach_body : (w : Name) → Reach (IsBody w) (body_of w) Quiet
unfolding body_of
reach_body w front a (body {n = n} {d = d} {ts = ts} {e = e} m) rest q =
    next_step _ _ _ _ _ (word_gives w n (at d symbol.Defines ∷ (ts ++ rest))) (next_step _ _ _ _ _ (expect_gives symbol.Defines d (ts ++ rest)) (reach_expression ts e m rest q))
