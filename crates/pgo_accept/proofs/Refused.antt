-- The line of a refusal is that of the first rule that is broken.
use Rattle.std.proofs.Common.{◌≡◌, inl, inr, ℕ, List, Option, Some, None, Result, Ok, Err, refl, sym, ◌∙◌, ap, subst}
use Rattle.pgo_base.specs.Data.{Data}
use Rattle.pgo_base.specs.Lookup.{Name}
use Rattle.pgo_syntax.specs.declared.bound.Bound.{Bound}
use Rattle.pgo_syntax.specs.declared.spec.Spec.{Spec}
use Rattle.pgo_heads.specs.Answers as bound
use Rattle.pgo_heads.specs.Refusals.{bind_refusal}
use Rattle.pgo_heads.specs.declared.errors.BindError.{BindError}
use Rattle.pgo_heads.specs.declared.errors.BindError.TheVariants as bind
use Rattle.pgo_labels.specs.Refusal as labeled
use Rattle.pgo_labels.specs.Refusal.{label_refusal}
use Rattle.pgo_labels.specs.declared.errors.LabelError.{LabelError}
use Rattle.pgo_scope.specs.Refusal as named
use Rattle.pgo_scope.specs.Refusal.{scope_refusal}
use Rattle.pgo_scope.specs.declared.errors.ScopeError.{ScopeError}
use Rattle.pgo_expand.specs.Limits as limits
use Rattle.pgo_expand.specs.Limits.{expand_refusal}
use Rattle.pgo_expand.specs.declared.errors.ExpandStop.{ExpandStop}
use Rattle.pgo_expand.specs.declared.errors.ExpandStop.TheVariants as expand
use Rattle.pgo_accept.specs.declared.errors.Rejection.{Rejection}
use Rattle.pgo_accept.specs.Answers.{Judges, PassesRules, NothingRefuses, Expands, OfText, GivesExpansion, IsExpandable}
use Rattle.pgo_accept.specs.Answers as answers
use Rattle.pgo_accept.specs.Refusals.{or_line, scope_line, label_line, bind_line, expand_line, rejection_line, spec_line, RefusedWith}
use Rattle.pgo_accept.specs.Refusals as refusals

no_line : {l : List ℕ} → None ≡ Some l → ⊥
no_line e = absurd (cc)

-- a refusal with a line gives that line
given : {E : Type 0} (line : E → Option (List ℕ)) (o : Option E) (e : E) (other : Option (List ℕ)) (l : List ℕ) → o ≡ Some e → line e ≡ Some l → or_line line o other ≡ Some l
given line o e other l h k = ap (λ x. or_line line x other) h ∙ ap (λ x. elim x as (λ o. Option (List ℕ)) [ None ↦ other | Some m ↦ Some m ]) k

-- nothing is refused
passed : {E : Type 0} (line : E → Option (List ℕ)) (o : Option E) (other : Option (List ℕ)) → o ≡ None → or_line line o other ≡ other
passed line o other h = ap (λ x. or_line line x other) h

scope_some : (o : Option ScopeError) (e : ScopeError) (l : List ℕ) → named.Answers o (Err e) → scope_line e ≡ Some l → o ≡ Some e
scope_some None e l h k = absurd (no_line (sym (ap scope_line h) ∙ k))
scope_some (Some f) e l (inl h) k = ap Some (sym h)
scope_some (Some f) e l (inr h) k = absurd (no_line (sym (ap scope_line h) ∙ k))

-- names let it pass
pub nothing_refused : (o : Option ScopeError) (u : Unit {0}) → named.Answers o (Ok u) → o ≡ None
nothing_refused None u h = refl
nothing_refused (Some e) u h = absurd h

label_some : (o : Option LabelError) (e : LabelError) (l : List ℕ) → labeled.Answers {A = Unit {0}} o (Err e) → label_line e ≡ Some l → o ≡ Some e
label_some o e l (inl h) k = h
label_some o e l (inr h) k = absurd (no_line (sym (ap label_line h) ∙ k))

bind_some : (o : Option BindError) (e : BindError) (l : List ℕ) → bound.Refuses o e → bind_line e ≡ Some l → o ≡ Some e
bind_some o (bind.ConstMissing x) l h k = h
bind_some o (bind.ConstUnknown x) l h k = h
bind_some o (bind.BadMapping p n) l h k = h
bind_some o (bind.SameId v) l h k = h
bind_some o (bind.IdsNoValue p) l h k = h
bind_some o (bind.TooManyInstances n) l h k = h
bind_some o (bind.TooManyResources n) l h k = h
bind_some o (bind.InitNoValue x) l h k = h
bind_some o (bind.InitEmpty x) l h k = h
bind_some o bind.NoMemory l h k = absurd (no_line k)

expand_some : (o : Option ExpandStop) (e : ExpandStop) (l : List ℕ) → limits.Refuses o e → expand_line e ≡ Some l → o ≡ Some e
expand_some o (expand.Wide n) l h k = h
expand_some o (expand.Deep n) l h k = h
expand_some o expand.NoMemory l h k = absurd (no_line k)

-- what is refused isn't passed
not_passed : {E : Type 0} {o : Option E} {e : E} → o ≡ Some e → o ≡ None → ⊥
not_passed h g = absurd (cc)

-- ---- the line of a specification, over any four answers of the rules

-- the line of the first refusal of names, labels, binding and limits
abbrev line_by : Option ScopeError → Option LabelError → Option BindError → Option ExpandStop → Option (List ℕ)
line_by o p q r = or_line scope_line o (or_line label_line p (or_line bind_line q (or_line expand_line r None)))

passed_names : (o : Option ScopeError) (p : Option LabelError) (q : Option BindError) (r : Option ExpandStop) → o ≡ None
    → line_by o p q r ≡ or_line label_line p (or_line bind_line q (or_line expand_line r None))
passed_names o p q r a = passed scope_line o (or_line label_line p (or_line bind_line q (or_line expand_line r None))) a

passed_labels : (o : Option ScopeError) (p : Option LabelError) (q : Option BindError) (r : Option ExpandStop) → o ≡ None → p ≡ None
    → line_by o p q r ≡ or_line bind_line q (or_line expand_line r None)
passed_labels o p q r a b = passed_names o p q r a ∙ passed label_line p (or_line bind_line q (or_line expand_line r None)) b

passed_binding : (o : Option ScopeError) (p : Option LabelError) (q : Option BindError) (r : Option ExpandStop) → o ≡ None → p ≡ None → q ≡ None
    → line_by o p q r ≡ or_line expand_line r None
passed_binding o p q r a b c = passed_labels o p q r a b ∙ passed bind_line q (or_line expand_line r None) c

-- the line of a refusal of a specification
rejected_line : (s : Spec) (consts : List (Name × Data)) (e : Rejection) (l : List ℕ) → Judges s consts (Err e) → rejection_line e ≡ Some l → spec_line s consts ≡ Some l
rejected_line s consts e l (answers.names f h) k =
    given scope_line (scope_refusal s) f (or_line label_line (label_refusal s) (or_line bind_line (bind_refusal s consts) (or_line expand_line (expand_refusal s) None))) l
    (scope_some (scope_refusal s) f l h k) k
rejected_line s consts e l (answers.labels f a h) k =
    passed_names (scope_refusal s) (label_refusal s) (bind_refusal s consts) (expand_refusal s) a
    ∙ given label_line (label_refusal s) f (or_line bind_line (bind_refusal s consts) (or_line expand_line (expand_refusal s) None)) l (label_some (label_refusal s) f l h k) k
rejected_line s consts e l (answers.binding f a b h) k =
    passed_labels (scope_refusal s) (label_refusal s) (bind_refusal s consts) (expand_refusal s) a b
    ∙ given bind_line (bind_refusal s consts) f (or_line expand_line (expand_refusal s) None) l (bind_some (bind_refusal s consts) f l h k) k

stopped_line : (s : Spec) (consts : List (Name × Data)) (e : Rejection) (l : List ℕ) → Expands s consts (Err e) → rejection_line e ≡ Some l → spec_line s consts ≡ Some l
stopped_line s consts e l (answers.judged f j) k = rejected_line s consts e l j k
stopped_line s consts e l (answers.limited f a h) k =
    passed_binding (scope_refusal s) (label_refusal s) (bind_refusal s consts) (expand_refusal s) a.0 a.1 a.2
    ∙ given expand_line (expand_refusal s) f None l (expand_some (expand_refusal s) f l h k) k

-- a specification that is refused isn't let pass
rejected_not_passed : (s : Spec) (consts : List (Name × Data)) (e : Rejection) (l : List ℕ) → Judges s consts (Err e) → rejection_line e ≡ Some l → NothingRefuses s consts → ⊥
rejected_not_passed s consts e l (answers.names f h) k n = not_passed (scope_some (scope_refusal s) f l h k) n.names
rejected_not_passed s consts e l (answers.labels f a h) k n = not_passed (label_some (label_refusal s) f l h k) n.labels
rejected_not_passed s consts e l (answers.binding f a b h) k n = not_passed (bind_some (bind_refusal s consts) f l h k) n.binding

stopped_not_passed : (s : Spec) (consts : List (Name × Data)) (e : Rejection) (l : List ℕ) → Expands s consts (Err e) → rejection_line e ≡ Some l → NothingRefuses s consts → ⊥
stopped_not_passed s consts e l (answers.judged f j) k n = rejected_not_passed s consts e l j k n
stopped_not_passed s consts e l (answers.limited f a h) k n = not_passed (expand_some (expand_refusal s) f l h k) n.limits

-- ---- the line of a text

some_line : {k l : List ℕ} → Some k ≡ Some l → k ≡ l
some_line e = cc

pub refused : (text : List ℕ) (consts : List (Name × Data)) (e : Rejection) (l : List ℕ) → GivesExpansion text consts (Err e) → rejection_line e ≡ Some l
    → RefusedWith text consts l
refused text consts e l (answers.syntax offset within h) k = subst (RefusedWith text consts) (some_line k) (refusals.syntax offset within h)
refused text consts e l (answers.spelled s r sp only j) k = refusals.spelled s l sp (stopped_line s consts e l j k)
refused text consts e l answers.no_memory k = absurd (no_line k)

-- a text that is refused with a line has no expansion
pub not_expandable : (text : List ℕ) (consts : List (Name × Data)) (e : Rejection) (l : List ℕ) → GivesExpansion text consts (Err e) → rejection_line e ≡ Some l
    → IsExpandable text consts → ⊥
not_expandable text consts e l (answers.syntax offset within h) k x = h x.0 x.1
not_expandable text consts e l (answers.spelled s r sp only j) k x =
    stopped_not_passed s consts e l j k (subst (λ t. NothingRefuses t consts) (sym (only x.0 x.1)) x.2)
not_expandable text consts e l answers.no_memory k x = absurd (no_line k)

-- ---- texts that spell no specification

-- what stops the reading stops whatever comes behind it
pub unread : {A : Type 0} (P : Spec → Result A Rejection → Type 0) (text : List ℕ) (e : Rejection) → OfText (λ s (r : Result Spec Rejection). r ≡ Ok s) text (Err e)
    → OfText P text (Err e)
unread P text e (answers.syntax offset within h) = answers.syntax offset within h
unread P text e (answers.spelled s r sp only j) = absurd (cc)
unread P text e answers.no_memory = answers.no_memory

-- what is answered about the specification that was read is answered about the text
pub of_read : {A : Type 0} (P : Spec → Result A Rejection → Type 0) (text : List ℕ) (s : Spec) (r : Result A Rejection) → OfText (λ s (r : Result Spec Rejection). r ≡ Ok s) text (Ok s)
    → P s r → OfText P text r
of_read P text s r (answers.spelled t q sp only j) h =
    let e : t ≡ s = cc in answers.spelled t r sp only (subst (λ u. P u r) (sym e) h)

-- the rules let pass what is bound
pub passes : (s : Spec) (consts : List (Name × Data)) (b : Bound) → Judges s consts (Ok b) → PassesRules s consts
passes s consts b (answers.bound c x y z w) = (x, y, z)
