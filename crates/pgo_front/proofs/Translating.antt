-- What a translation of a text gives, and why it stops.
use Rattle.std.proofs.Common.{◌≡◌, ◌≤◌, ◌↔◌, length, inl, inr, ℕ, List, Option, Some, None, Result, Ok, Err, IfOk, refl, ◌∙◌, ap, sym, subst}
use Rattle.pgo_base.specs.Data.{Data, string}
use Rattle.pgo_base.specs.Lookup.{Name, Vars}
use Rattle.pgo_bound.specs.BoundOf.{bound_of}
use Rattle.pgo_bound.specs.Declares.{value_in}
use Rattle.pgo_bound.specs.Sound.{IsLabel}
use Rattle.pgo_bound.specs.State.{IsState, id_of}
use Rattle.pgo_model.specs.Machine.{nth}
use Rattle.pgo_model.specs.Written.{pc}
use Rattle.pgo_meaning.specs.Sect.{Allows}
use Rattle.pgo_meaning.specs.TreeAllows.{TreeAllows}
use Rattle.pgo_agrees.specs.Trees.{trees_in}
use Rattle.pgo_syntax.specs.declared.bound.Instance.{Instance}
use Rattle.pgo_model.specs.Module.{Module}
use Rattle.pgo_model.specs.ModuleText.{Text}
use Rattle.pgo_model.specs.State.{AllValues}
use Rattle.pgo_syntax.specs.declared.spec.Spec.{Spec}
use Rattle.pgo_accept.specs.Answers as answers
use Rattle.pgo_accept.specs.Answers.{GivesExpansion, NothingRefuses}
use Rattle.pgo_accept.specs.Refusals.{RefusedWith}
use Rattle.pgo_accept.specs.declared.errors.Rejection.{Rejection}
use Rattle.pgo_accept.proofs.Refused.{refused, not_expandable}
use Rattle.pgo_mpcal_read.specs.Texts.{SpellsSpec}
use Rattle.pgo_pluscal.specs.PlusCalOf.{pluscal_of}
use Rattle.pgo_pluscal.specs.Text.{pluscal_text}
use Rattle.pgo_pluscal.specs.declared.pluscal.PlusCal.{PlusCal}
use Rattle.pgo_translate.specs.Agrees.{Agrees}
use Rattle.pgo_translate.specs.ModuleOf.{module_with, module_of, constants_with}
use Rattle.pgo_expr_read.specs.Texts.{most_tokens}
use Rattle.pgo_written.specs.Alone.{SpellsAlone}
use Rattle.pgo_front.specs.declared.status.Status.{Status}
use Rattle.pgo_front.specs.declared.status.Status.TheVariants as status
use Rattle.pgo_front.specs.declared.target.Target.{Target}
use Rattle.pgo_front.specs.declared.target.Target.TheVariants as targets
use Rattle.pgo_front.specs.Translations.{TranslatesTo, IsTextOf, IsModuleText}
use Rattle.pgo_front.specs.Makes.{IsRejected, StopsSpec, HasLine}

-- the module of an expansion agrees with what its specification is bound to
abbrev pub ModulesAgree : Type 0
ModulesAgree =
    (text : List ℕ) (s : Spec) (consts : List (Name × Data)) (p : PlusCal) → SpellsSpec text s → NothingRefuses s consts → AllValues consts → p ≡ pluscal_of s
    → Agrees (module_with p) (constants_with s consts) (bound_of s consts)

-- the trees of an expansion allow what the sections of its specification allow
abbrev pub ExpansionsAgree : Type 0
ExpansionsAgree =
    (text : List ℕ) (s : Spec) (consts : List (Name × Data)) (p : PlusCal) (k : ℕ) (i : Instance) (l : Name) (t u : Vars) → SpellsSpec text s → NothingRefuses s consts → p ≡ pluscal_of s
    → nth (bound_of s consts).instances k ≡ Some i → IsLabel i l → IsState (bound_of s consts) t → IsState (bound_of s consts) u → value_in t pc (id_of i) ≡ Some (string l)
    → TreeAllows (trees_in p) (bound_of s consts) l (id_of i) t u ↔ Allows (bound_of s consts) k t u

-- a text that is a module's and is short enough
pub module_text_is : {E : Type 0} (r : Result (List ℕ) E) (t : List ℕ) (m n : Module) → IfOk r (λ u. u ≡ t) → IfOk r (λ u. length u ≤ most_tokens) → t ≡ Text m → m ≡ n → IfOk r (IsModuleText n)
module_text_is (Ok u) t m n a b e q = (a ∙ e ∙ ap Text q, b)
module_text_is (Err x) t m n a b e q = tt

-- the text of a specification's module spells it alone
abbrev pub ReadBack : Type 0
ReadBack = (text : List ℕ) (s : Spec) (consts : List (Name × Data)) → SpellsSpec text s → NothingRefuses s consts → length (Text (module_of s)) ≤ most_tokens → SpellsAlone (Text (module_of s)) (module_of s)

-- the text of what the expansion gives
pub translates_to : ExpansionsAgree → ModulesAgree → ReadBack → (target : Target) (text : List ℕ) (consts : List (Name × Data)) (p : PlusCal) (bytes : List ℕ) → GivesExpansion text consts (Ok p)
    → IsTextOf target p bytes → AllValues consts → TranslatesTo target text consts bytes
translates_to trees agree back targets.Expansion text consts p bytes (answers.spelled s r sp only (answers.expanded q n m)) e values =
    record {
      spec = s;
      spells = sp;
      only = only;
      passes = n;
      written_is = e ∙ ap pluscal_text m;
      agrees = λ k i l t u. trees text s consts (pluscal_of s) k i l t u sp n refl;
    }
translates_to trees agree back targets.Module text consts p bytes (answers.spelled s r sp only (answers.expanded q n m)) e values =
    let is : bytes ≡ Text (module_of s) = e.0 ∙ ap (λ q. Text (module_with q)) m in
    record {
      spec = s;
      spells = sp;
      only = only;
      passes = n;
      written_is = is;
      agrees = agree text s consts (pluscal_of s) sp n values refl;
      alone = subst (λ t. SpellsAlone t (module_of s)) (sym is) (back text s consts sp n (subst (λ t. length t ≤ most_tokens) is e.1));
    }

-- a refusal with its line
pub stops_refused : (text : List ℕ) (consts : List (Name × Data)) (e : Rejection) (s : Status) (o : Option (List ℕ)) → GivesExpansion text consts (Err e) → IsRejected e s o
    → StopsSpec text consts s
stops_refused text consts e s None g h = inr h
stops_refused text consts e s (Some l) g h = inl (h.0, not_expandable text consts e l g h.1)

pub refused_line : (text : List ℕ) (consts : List (Name × Data)) (e : Rejection) (s : Status) (o : Option (List ℕ)) → GivesExpansion text consts (Err e) → IsRejected e s o
    → HasLine (RefusedWith text consts) s o
refused_line text consts e s None g h = λ f. no_memory_refused (sym h ∙ f)
  where
    no_memory_refused : status.NoMemory ≡ status.SpecRefused → ⊥
    no_memory_refused f = absurd (cc)
refused_line text consts e s (Some l) g h = (h.0, refused text consts e l g h.1)
