-- Where nothing is refused, no rule finds anything.
use Rattle.std.proofs.Common.{◌≡◌, ℕ, List, [], ◌∷◌, Option, Some, None, option_map, refl}
use Rattle.pgo_syntax.specs.declared.spec.Spec.{Spec}
use Rattle.pgo_scope.specs.declared.errors.ScopeError.{ScopeError}
use Rattle.pgo_scope.specs.declared.finding.Finding.{Finding}
use Rattle.pgo_scope.specs.Findings.{earliest}
use Rattle.pgo_scope.specs.Refusal.{or_that, first_broken, scope_refusal}
use Rattle.pgo_scope.specs.Unknown.{unknown_names}
use Rattle.pgo_scope.specs.Arity.{wrong_arities}
use Rattle.pgo_scope.specs.Clash.{name_clashes}
use Rattle.pgo_scope.specs.Twice.{names_twice}
use Rattle.pgo_scope.specs.Globals.{globals_inside}
use Rattle.pgo_scope.specs.Assigned.{wrong_assignments}
use Rattle.pgo_scope.specs.Mapped.{mapped_here}
use Rattle.pgo_scope.specs.Underscores.{double_underscores}
use Rattle.pgo_scope.specs.Modules.{unknown_modules}
use Rattle.pgo_labels.specs.declared.errors.LabelError.{LabelError}
use Rattle.pgo_labels.specs.declared.finding.Finding as labels
use Rattle.pgo_syntax.specs.Least.{least}
use Rattle.pgo_syntax.proofs.Leasts.{least_empty}
use Rattle.pgo_labels.specs.Refusal.{first_refusal}

-- ---- names

abbrev place : Finding → ℕ
place f = f.place

none_earliest : (fs : List Finding) → earliest fs ≡ None → fs ≡ []
none_earliest fs h = go (least place fs) refl h
  where
    go : (o : Option Finding) → least place fs ≡ o → option_map (λ f. f.error) o ≡ None → fs ≡ []
    go None e k = least_empty place fs e
    go (Some f) e k = absurd (cc)

first_none : (o p : Option ScopeError) → or_that o p ≡ None → o ≡ None
first_none None p h = refl
first_none (Some e) p h = absurd (cc)

next_none : (o p : Option ScopeError) → or_that o p ≡ None → p ≡ None
next_none None p h = h
next_none (Some e) p h = absurd (cc)

pub first_rule : (fs : List Finding) (rules : List (List Finding)) → first_broken (fs ∷ rules) ≡ None → fs ≡ []
first_rule fs rules h = none_earliest fs (first_none (earliest fs) (first_broken rules) h)

pub next_rules : (fs : List Finding) (rules : List (List Finding)) → first_broken (fs ∷ rules) ≡ None → first_broken rules ≡ None
next_rules fs rules h = next_none (earliest fs) (first_broken rules) h

-- rules 1, 3 and 7 of names
pub record KeepsNames (s : Spec) : Type 0 where
  pub unknown : unknown_names s ≡ []
  pub arities : wrong_arities s ≡ []
  pub clashes : name_clashes s ≡ []

-- the first, the third and the seventh
three_of : (a b c d e f g i j : List Finding) → first_broken (a ∷ b ∷ c ∷ d ∷ e ∷ f ∷ g ∷ i ∷ j ∷ []) ≡ None → (a ≡ []) × ((c ≡ []) × (g ≡ []))
three_of a b c d e f g i j h =
    let h2 = next_rules a (b ∷ c ∷ d ∷ e ∷ f ∷ g ∷ i ∷ j ∷ []) h in
    let h3 = next_rules b (c ∷ d ∷ e ∷ f ∷ g ∷ i ∷ j ∷ []) h2 in
    let h4 = next_rules c (d ∷ e ∷ f ∷ g ∷ i ∷ j ∷ []) h3 in
    let h5 = next_rules d (e ∷ f ∷ g ∷ i ∷ j ∷ []) h4 in
    let h6 = next_rules e (f ∷ g ∷ i ∷ j ∷ []) h5 in
    let h7 = next_rules f (g ∷ i ∷ j ∷ []) h6 in
    (first_rule a (b ∷ c ∷ d ∷ e ∷ f ∷ g ∷ i ∷ j ∷ []) h, (first_rule c (d ∷ e ∷ f ∷ g ∷ i ∷ j ∷ []) h3, first_rule g (i ∷ j ∷ []) h7))

pub names_kept : (s : Spec) → scope_refusal s ≡ None → KeepsNames s
names_kept s h =
    let r = three_of (unknown_names s) (names_twice s) (wrong_arities s) (globals_inside s) (wrong_assignments s) (mapped_here s) (name_clashes s) (double_underscores s) (unknown_modules s) h in
    record { unknown = r.0; arities = r.1.0; clashes = r.1.1 }

-- ---- labels

abbrev label_place : labels.Finding → ℕ
label_place f = f.place

pub first_label_rule : (fs : List labels.Finding) (rules : List (List labels.Finding)) → first_refusal (fs ∷ rules) ≡ None → fs ≡ []
first_label_rule fs rules h = go (least label_place fs) refl h
  where
    go : (o : Option labels.Finding) → least label_place fs ≡ o → elim o as (λ o. Option LabelError) [ None ↦ first_refusal rules | Some g ↦ Some g.error ] ≡ None → fs ≡ []
    go None e k = least_empty label_place fs e
    go (Some g) e k = absurd (cc)

pub next_label_rules : (fs : List labels.Finding) (rules : List (List labels.Finding)) → first_refusal (fs ∷ rules) ≡ None → first_refusal rules ≡ None
next_label_rules fs rules h = go (least label_place fs) h
  where
    go : (o : Option labels.Finding) → elim o as (λ o. Option LabelError) [ None ↦ first_refusal rules | Some g ↦ Some g.error ] ≡ None → first_refusal rules ≡ None
    go None e = e
    go (Some g) e = absurd (cc)
