-- What is answered about a text with constants.
use Rattle.std.specs.Prelude.{◌≡◌, ◌≤◌, ℕ, List, length, None, Result, Ok, Err}
use Rattle.pgo_base.specs.Data.{Data}
use Rattle.pgo_base.specs.Lookup.{Name}
use Rattle.pgo_syntax.specs.declared.bound.Bound.{Bound}
use Rattle.pgo_syntax.specs.declared.spec.Spec.{Spec}
use Rattle.pgo_scope.specs.declared.errors.ScopeError.{ScopeError}
use Rattle.pgo_scope.specs.Refusal as named
use Rattle.pgo_scope.specs.Refusal.{scope_refusal}
use Rattle.pgo_labels.specs.declared.errors.LabelError.{LabelError}
use Rattle.pgo_labels.specs.Refusal as labeled
use Rattle.pgo_labels.specs.Refusal.{label_refusal}
use Rattle.pgo_bound.specs.BoundOf.{bound_of}
use Rattle.pgo_heads.specs.declared.errors.BindError.{BindError}
use Rattle.pgo_heads.specs.Answers.{Refuses}
use Rattle.pgo_heads.specs.Refusals.{bind_refusal}
use Rattle.pgo_expand.specs.declared.errors.ExpandStop.{ExpandStop}
use Rattle.pgo_expand.specs.Limits as limits
use Rattle.pgo_expand.specs.Limits.{expand_refusal}
use Rattle.pgo_pluscal.specs.PlusCalOf.{pluscal_of}
use Rattle.pgo_pluscal.specs.declared.pluscal.PlusCal.{PlusCal}
use Rattle.pgo_mpcal_read.specs.Texts.{SpellsSpec}
use Rattle.pgo_accept.specs.declared.errors.Rejection.{Rejection}
use Rattle.pgo_accept.specs.declared.errors.Rejection.TheVariants as rejections

-- a specification is bound where nothing refuses it; names are judged first, then labels, then binding
pub data Judges (s : Spec) (consts : List (Name × Data)) : Result Bound Rejection → Type 0 where
  bound : (b : Bound) → scope_refusal s ≡ None → label_refusal s ≡ None → bind_refusal s consts ≡ None → b ≡ bound_of s consts → Judges s consts (Ok b)
  names : (e : ScopeError) → named.Answers (scope_refusal s) (Err e) → Judges s consts (Err (rejections.Scope e))
  labels : (e : LabelError) → scope_refusal s ≡ None → labeled.Answers {A = Unit {0}} (label_refusal s) (Err e) → Judges s consts (Err (rejections.Labels e))
  binding : (e : BindError) → scope_refusal s ≡ None → label_refusal s ≡ None → Refuses (bind_refusal s consts) e → Judges s consts (Err (rejections.Bind e))

-- the rules of names, of labels and of binding let it pass
abbrev pub PassesRules : Spec → List (Name × Data) → Type 0
PassesRules s consts = (scope_refusal s ≡ None) × (label_refusal s ≡ None) × (bind_refusal s consts ≡ None)

-- ---- the expansion

-- nothing refuses the specification with these constants: neither the rules of names, of labels and of binding, nor the
-- limits of its expansion
pub record NothingRefuses (s : Spec) (consts : List (Name × Data)) : Type 0 where
  pub names : scope_refusal s ≡ None
  pub labels : label_refusal s ≡ None
  pub binding : bind_refusal s consts ≡ None
  pub limits : expand_refusal s ≡ None

-- a specification is expanded where nothing refuses it; its limits are judged last
pub data Expands (s : Spec) (consts : List (Name × Data)) : Result PlusCal Rejection → Type 0 where
  expanded : (p : PlusCal) → NothingRefuses s consts → p ≡ pluscal_of s → Expands s consts (Ok p)
  judged : (e : Rejection) → Judges s consts (Err e) → Expands s consts (Err e)
  limited : (e : ExpandStop) → PassesRules s consts → limits.Refuses (expand_refusal s) e → Expands s consts (Err (rejections.Expand e))

-- ---- texts

-- the answer about a text, where P says what is answered about the one specification that it spells
pub data OfText {A : Type 0} (P : Spec → Result A Rejection → Type 0) (text : List ℕ) : Result A Rejection → Type 0 where
  -- it spells no specification, and the offset is at most its length
  syntax : (offset : ℕ) → offset ≤ length text → ((s : Spec) → SpellsSpec text s → ⊥) → OfText P text (Err (rejections.Syntax offset))
  -- it spells this one, and no other
  spelled : (s : Spec) (r : Result A Rejection) → SpellsSpec text s → ((t : Spec) → SpellsSpec text t → s ≡ t) → P s r → OfText P text r
  -- there was no memory to read it
  no_memory : OfText P text (Err rejections.NoMemory)

abbrev pub Answers : (text : List ℕ) (consts : List (Name × Data)) → Result Bound Rejection → Type 0
Answers text consts r = OfText (λ s q. Judges s consts q) text r

abbrev pub GivesExpansion : (text : List ℕ) (consts : List (Name × Data)) → Result PlusCal Rejection → Type 0
GivesExpansion text consts r = OfText (λ s q. Expands s consts q) text r

-- the text spells a specification that nothing refuses with these constants
abbrev pub IsExpandable : (text : List ℕ) (consts : List (Name × Data)) → Type 0
IsExpandable text consts = (s : Spec) × SpellsSpec text s × NothingRefuses s consts
