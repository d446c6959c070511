-- What `pgo expand` and `pgo compile` promise of their words and a text.
use Rattle.std.specs.Prelude.{◌≡◌, ◌≤◌, ◌↔◌, ℕ, List, length, Some}
use Rattle.pgo_base.specs.Data.{Data, string}
use Rattle.pgo_base.specs.Lookup.{Name, Vars}
use Rattle.pgo_model.specs.Machine.{nth}
use Rattle.pgo_model.specs.Module.{Module}
use Rattle.pgo_model.specs.ModuleText.{Text}
use Rattle.pgo_model.specs.Written.{pc}
use Rattle.pgo_syntax.specs.declared.bound.Instance.{Instance}
use Rattle.pgo_syntax.specs.declared.spec.Spec.{Spec}
use Rattle.pgo_bound.specs.BoundOf.{bound_of}
use Rattle.pgo_bound.specs.Declares.{value_in}
use Rattle.pgo_bound.specs.Sound.{IsLabel}
use Rattle.pgo_bound.specs.State.{IsState, id_of}
use Rattle.pgo_meaning.specs.Sect.{Allows}
use Rattle.pgo_meaning.specs.TreeAllows.{TreeAllows}
use Rattle.pgo_agrees.specs.Trees.{trees_in}
use Rattle.pgo_mpcal_read.specs.Texts.{SpellsSpec}
use Rattle.pgo_accept.specs.Answers.{NothingRefuses, IsExpandable}
use Rattle.pgo_pluscal.specs.PlusCalOf.{pluscal_of}
use Rattle.pgo_pluscal.specs.Text.{pluscal_text}
use Rattle.pgo_pluscal.specs.declared.pluscal.PlusCal.{PlusCal}
use Rattle.pgo_expr_read.specs.Texts.{most_tokens}
use Rattle.pgo_translate.specs.Agrees.{Agrees}
use Rattle.pgo_translate.specs.ModuleOf.{module_of, module_with, constants_with}
use Rattle.pgo_written.specs.Alone.{SpellsAlone}
use Rattle.pgo_front.specs.declared.target.Target.{Target}
use Rattle.pgo_front.specs.declared.target.Target.TheVariants as targets
use Rattle.pgo_front.specs.Spells.{most_bytes}
use Rattle.pgo_front.specs.Asked.{AsksTranslation}

-- the trees of the expansion allow exactly the pairs of states that the sections allow: of each instance, at each label of its
-- process, from each state in which it stands there
abbrev pub ExpansionAgrees : Spec → List (Name × Data) → Type 0
ExpansionAgrees s consts =
    (k : ℕ) (i : Instance) (l : Name) (t u : Vars) → nth (bound_of s consts).instances k ≡ Some i → IsLabel i l
    → IsState (bound_of s consts) t → IsState (bound_of s consts) u → value_in t pc (id_of i) ≡ Some (string l)
    → TreeAllows (trees_in (pluscal_of s)) (bound_of s consts) l (id_of i) t u ↔ Allows (bound_of s consts) k t u

-- the text spells this specification and no other, nothing refuses it with these constants, and this is the text of its
-- expansion, whose trees allow what its sections allow
pub record ExpandsTo (text : List ℕ) (consts : List (Name × Data)) (written : List ℕ) : Type 0 where
  pub spec : Spec
  pub spells : SpellsSpec text spec
  pub only : (other : Spec) → SpellsSpec text other → spec ≡ other
  pub passes : NothingRefuses spec consts
  pub written_is : written ≡ pluscal_text (pluscal_of spec)
  pub agrees : ExpansionAgrees spec consts

-- it spells such a specification, and this is the text of its module, whose actions are TRUE of exactly the pairs of states that the sections
-- allow, Init of the declared starts, and Next of the steps of instances and
-- of what stays as it is where all are at Done; and it spells that module and no other
pub record CompilesTo (text : List ℕ) (consts : List (Name × Data)) (written : List ℕ) : Type 0 where
  pub spec : Spec
  pub spells : SpellsSpec text spec
  pub only : (other : Spec) → SpellsSpec text other → spec ≡ other
  pub passes : NothingRefuses spec consts
  pub written_is : written ≡ Text (module_of spec)
  pub agrees : Agrees (module_of spec) (constants_with spec consts) (bound_of spec consts)
  pub alone : SpellsAlone written (module_of spec)

-- the text of this module, no longer than a text that is read may have tokens
abbrev pub IsModuleText : Module → List ℕ → Type 0
IsModuleText m written = (written ≡ Text m) × (length written ≤ most_tokens)

-- what is written of an expanded specification
abbrev pub IsTextOf : Target → PlusCal → (written : List ℕ) → Type 0
IsTextOf targets.Expansion p written = written ≡ pluscal_text p
IsTextOf targets.Module p written = IsModuleText (module_with p) written

-- this is the translation of the specification that the text spells
abbrev pub TranslatesTo : Target → (text : List ℕ) → List (Name × Data) → (written : List ℕ) → Type 0
TranslatesTo targets.Expansion text consts written = ExpandsTo text consts written
TranslatesTo targets.Module text consts written = CompilesTo text consts written

-- the words ask for a translation with some constants and for no other, the text is short enough, and this is its translation
pub record Translated (words : List (List ℕ)) (text written : List ℕ) : Type 0 where
  pub target : Target
  pub consts : List (Name × Data)
  pub asks : AsksTranslation target words consts
  pub no_others : (other : Target) (others : List (Name × Data)) → AsksTranslation other words others → (other ≡ target) × (others ≡ consts)
  pub short : length text ≤ most_bytes
  pub translates : TranslatesTo target text consts written

-- the same words, and the text has no translation with these constants: it spells no specification, or one that is refused
pub record NotTranslated (words : List (List ℕ)) (text : List ℕ) : Type 0 where
  pub target : Target
  pub consts : List (Name × Data)
  pub asks : AsksTranslation target words consts
  pub no_others : (other : Target) (others : List (Name × Data)) → AsksTranslation other words others → (other ≡ target) × (others ≡ consts)
  pub short : length text ≤ most_bytes
  pub refused : IsExpandable text consts → ⊥
