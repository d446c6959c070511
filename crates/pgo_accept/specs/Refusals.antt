-- Why a specification's text is refused, and the line that says so.
use Rattle.std.specs.Prelude.{◌≡◌, ◌≤◌, ℕ, List, ◌++◌, length, codes, decimal, Option, Some, None}
use Rattle.pgo_base.specs.Data.{Data}
use Rattle.pgo_base.specs.Lookup.{Name}
use Rattle.pgo_base.specs.View.{data_of}
use Rattle.pgo_model.specs.ValueText.{value_text}
use Rattle.pgo_syntax.specs.declared.spec.Spec.{Spec}
use Rattle.pgo_scope.specs.declared.errors.ScopeError.{ScopeError}
use Rattle.pgo_scope.specs.declared.errors.ScopeError.TheVariants as scope
use Rattle.pgo_scope.specs.Refusal.{scope_refusal}
use Rattle.pgo_labels.specs.declared.errors.LabelError.{LabelError}
use Rattle.pgo_labels.specs.declared.errors.LabelError.TheVariants as labels
use Rattle.pgo_labels.specs.Refusal.{label_refusal}
use Rattle.pgo_heads.specs.declared.errors.BindError.{BindError}
use Rattle.pgo_heads.specs.declared.errors.BindError.TheVariants as bind
use Rattle.pgo_heads.specs.Refusals.{bind_refusal}
use Rattle.pgo_expand.specs.declared.errors.ExpandStop.{ExpandStop}
use Rattle.pgo_expand.specs.declared.errors.ExpandStop.TheVariants as expand
use Rattle.pgo_expand.specs.Limits.{expand_refusal}
use Rattle.pgo_mpcal_read.specs.Texts.{SpellsSpec}
use Rattle.pgo_accept.specs.declared.errors.Rejection.{Rejection}
use Rattle.pgo_accept.specs.declared.errors.Rejection.TheVariants as rejections

-- ---- the lines

-- these words, what follows them, and a newline; a blank parts two fields
abbrev pub one_name : (words name : List ℕ) → List ℕ
one_name words name = words ++ name ++ codes "\n"

abbrev pub two_names : (words first second : List ℕ) → List ℕ
two_names words first second = words ++ first ++ codes " " ++ second ++ codes "\n"

abbrev pub one_number : (words : List ℕ) → ℕ → List ℕ
one_number words n = words ++ decimal n ++ codes "\n"

abbrev pub name_and_number : (words name : List ℕ) → ℕ → List ℕ
name_and_number words name n = words ++ name ++ codes " " ++ decimal n ++ codes "\n"

abbrev pub syntax_line : ℕ → List ℕ
syntax_line offset = one_number (codes "pgo: syntax at ") offset

-- the line of a refusal; want of memory has none
abbrev pub scope_line : ScopeError → Option (List ℕ)
scope_line (scope.Unknown x) = Some (one_name (codes "pgo: scope 1 Unknown ") x)
scope_line (scope.Twice x) = Some (one_name (codes "pgo: scope 2 Twice ") x)
scope_line (scope.Arity x n) = Some (name_and_number (codes "pgo: scope 3 Arity ") x n)
scope_line (scope.GlobalInArchetype x) = Some (one_name (codes "pgo: scope 4 GlobalInArchetype ") x)
scope_line (scope.AssignedNotRef x) = Some (one_name (codes "pgo: scope 5 AssignedNotRef ") x)
scope_line (scope.MappedReadHere x) = Some (one_name (codes "pgo: scope 6 MappedReadHere ") x)
scope_line (scope.NameClash x y) = Some (two_names (codes "pgo: scope 7 NameClash ") x y)
scope_line (scope.DoubleUnderscore x) = Some (one_name (codes "pgo: scope 8 DoubleUnderscore ") x)
scope_line (scope.UnknownModule x) = Some (one_name (codes "pgo: scope 9 UnknownModule ") x)
scope_line scope.NoMemory = None

abbrev pub label_line : LabelError → Option (List ℕ)
label_line (labels.NeedsLabel a l) = Some (two_names (codes "pgo: labels 1 NeedsLabel ") a l)
label_line (labels.LabelHere a l) = Some (two_names (codes "pgo: labels 2 LabelHere ") a l)
label_line (labels.UnknownLabel a l) = Some (two_names (codes "pgo: labels 3 UnknownLabel ") a l)
label_line (labels.LabelTwice a l) = Some (two_names (codes "pgo: labels 4 LabelTwice ") a l)
label_line (labels.ReservedDone a) = Some (one_name (codes "pgo: labels 5 ReservedDone ") a)
label_line (labels.YieldRule m) = Some (one_name (codes "pgo: labels 6 YieldRule ") m)
label_line (labels.TooManyLabels a) = Some (one_name (codes "pgo: labels 7 TooManyLabels ") a)
label_line labels.NoMemory = None

abbrev pub bind_line : BindError → Option (List ℕ)
bind_line (bind.ConstMissing x) = Some (one_name (codes "pgo: bind 1 ConstMissing ") x)
bind_line (bind.ConstUnknown x) = Some (one_name (codes "pgo: bind 2 ConstUnknown ") x)
bind_line (bind.BadMapping p n) = Some (name_and_number (codes "pgo: bind 3 BadMapping ") p n)
bind_line (bind.SameId id) = Some (one_name (codes "pgo: bind 4 SameId ") (value_text (data_of id)))
bind_line (bind.IdsNoValue p) = Some (one_name (codes "pgo: bind 5 IdsNoValue ") p)
bind_line (bind.TooManyInstances n) = Some (one_number (codes "pgo: bind 6 TooManyInstances ") n)
bind_line (bind.TooManyResources n) = Some (one_number (codes "pgo: bind 7 TooManyResources ") n)
bind_line (bind.InitNoValue x) = Some (one_name (codes "pgo: bind 8 InitNoValue ") x)
bind_line (bind.InitEmpty x) = Some (one_name (codes "pgo: bind 9 InitEmpty ") x)
bind_line bind.NoMemory = None

abbrev pub expand_line : ExpandStop → Option (List ℕ)
expand_line (expand.Wide n) = Some (one_number (codes "pgo: expand 1 Wide ") n)
expand_line (expand.Deep n) = Some (one_number (codes "pgo: expand 2 Deep ") n)
expand_line expand.NoMemory = None

abbrev pub rejection_line : Rejection → Option (List ℕ)
rejection_line (rejections.Syntax offset) = Some (syntax_line offset)
rejection_line (rejections.Scope e) = scope_line e
rejection_line (rejections.Labels e) = label_line e
rejection_line (rejections.Bind e) = bind_line e
rejection_line (rejections.Expand e) = expand_line e
rejection_line rejections.NoMemory = None

-- ---- what is refused

-- the line of a refusal; what comes behind it where nothing is refused
abbrev pub or_line : {E : Type 0} → (E → Option (List ℕ)) → Option E → Option (List ℕ) → Option (List ℕ)
or_line line None other = other
or_line line (Some e) other = elim (line e) as (λ o. Option (List ℕ)) [ None ↦ other | Some l ↦ Some l ]

-- the line of a specification with these constants: that of the first refusal of scope, labels, bind and the limits of its
-- expansion; none where nothing refuses it
abbrev pub expanded_line : Spec → Option (List ℕ)
expanded_line s = or_line expand_line (expand_refusal s) None

abbrev pub bound_line : Spec → List (Name × Data) → Option (List ℕ)
bound_line s consts = or_line bind_line (bind_refusal s consts) (expanded_line s)

abbrev pub labeled_line : Spec → List (Name × Data) → Option (List ℕ)
labeled_line s consts = or_line label_line (label_refusal s) (bound_line s consts)

abbrev pub spec_line : Spec → List (Name × Data) → Option (List ℕ)
spec_line s consts = or_line scope_line (scope_refusal s) (labeled_line s consts)

-- the line that a text with these constants is refused with
pub data RefusedWith (text : List ℕ) (consts : List (Name × Data)) : List ℕ → Type 0 where
  -- it spells no specification, and the offset is at most its length
  syntax : (offset : ℕ) → offset ≤ length text → ((s : Spec) → SpellsSpec text s → ⊥) → RefusedWith text consts (syntax_line offset)
  -- it spells this one, which has this line
  spelled : (s : Spec) (line : List ℕ) → SpellsSpec text s → spec_line s consts ≡ Some line → RefusedWith text consts line
