-- What accepting a text says of the run of what it is bound to.
use Rattle.std.proofs.Common.{◌≡◌, ℕ, List, None, Ok, Err, sym, subst}
use Rattle.pgo_base.specs.Data.{Data}
use Rattle.pgo_base.specs.Lookup.{Name}
use Rattle.pgo_accept.specs.Answers as answers
use Rattle.pgo_accept.specs.Answers.{Answers, GivesExpansion, PassesRules}
use Rattle.pgo_accept.specs.declared.errors.Rejection.{Rejection}
use Rattle.pgo_accept.specs.declared.errors.Rejection.TheVariants as rejections
use Rattle.pgo_bound.specs.BoundOf.{bound_of}
use Rattle.pgo_bound.specs.Declares.{Declares}
use Rattle.pgo_expand.specs.Limits as limits
use Rattle.pgo_expand.specs.Limits.{expand_refusal}
use Rattle.pgo_expand.specs.declared.errors.ExpandStop.{ExpandStop}
use Rattle.pgo_mpcal_read.specs.Texts.{SpellsSpec}
use Rattle.pgo_pluscal.specs.PlusCalOf.{pluscal_of}
use Rattle.pgo_pluscal.specs.declared.pluscal.PlusCal.{PlusCal}
use Rattle.pgo_syntax.specs.declared.bound.Bound.{Bound}
use Rattle.pgo_syntax.specs.declared.spec.Spec.{Spec}
use Rattle.pgo_model.specs.Core.{Settings}
use Rattle.pgo_execute.specs.Accepts.{IsJudged}
use Rattle.pgo_execute.specs.Executes.{Executes}
use Rattle.pgo_execute.specs.Gives.{Gives}
use Rattle.pgo_execute.specs.Schedules.{Schedule}

-- a text that is refused when it is judged has no expansion
pub refused : (text : List ℕ) (consts : List (Name × Data)) (e : Rejection) → Answers text consts (Err e) → GivesExpansion text consts (Err e)
refused text consts e (answers.syntax offset within none) = answers.syntax offset within none
refused text consts e (answers.spelled s r sp only j) = answers.spelled s (Err e) sp only (answers.judged e j)
refused text consts e answers.no_memory = answers.no_memory

-- what is bound
pub record Bounds (text : List ℕ) (b : Bound) (consts : List (Name × Data)) : Type 0 where
  pub spells : SpellsSpec text b.spec
  pub only : (other : Spec) → SpellsSpec text other → b.spec ≡ other
  pub passes : PassesRules b.spec consts
  pub bound_is : b ≡ bound_of b.spec consts

pub bounds : (text : List ℕ) (consts : List (Name × Data)) (b : Bound) → Answers text consts (Ok b) → Bounds text b consts
bounds text consts b (answers.spelled s r sp only (answers.bound c names labels binding is)) =
    let q : b.spec ≡ s = λ i. (is i).spec in record {
      spells = subst (SpellsSpec text) (sym q) sp;
      only = subst (λ t. (other : Spec) → SpellsSpec text other → t ≡ other) (sym q) only;
      passes = subst (λ t. PassesRules t consts) (sym q) (names, labels, binding);
      bound_is = subst (λ t. b ≡ bound_of t consts) (sym q) is;
    }

-- what is judged, of a text whose expansion is within the limits
pub judged : (text : List ℕ) (consts : List (Name × Data)) (b : Bound) (p : PlusCal) → Answers text consts (Ok b) → Declares b b.start → expand_refusal b.spec ≡ None → p ≡ pluscal_of b.spec → IsJudged text consts b p
judged text consts b p a d h e = let q = bounds text consts b a in record {
  spells = q.spells;
  only = q.only;
  accepts = record { text = text; spells = q.spells; passes = q.passes; bound_is = q.bound_is; declared = d };
  passes = record { names = q.passes.0; labels = q.passes.1; binding = q.passes.2; limits = h };
  expansion = e;
}

-- a text whose expansion isn't
pub limited : (text : List ℕ) (consts : List (Name × Data)) (b : Bound) (e : ExpandStop) → Answers text consts (Ok b) → limits.Refuses (expand_refusal b.spec) e → GivesExpansion text consts (Err (rejections.Expand e))
limited text consts b e a h = let q = bounds text consts b a in answers.spelled b.spec (Err (rejections.Expand e)) q.spells q.only (answers.limited e q.passes h)

-- what is run, of the text
pub executes : (text : List ℕ) (consts : List (Name × Data)) (b : Bound) (p : PlusCal) (settings : Settings) (schedule : Schedule) (status : ℕ) (written : List ℕ) → IsJudged text consts b p
    → Gives b.spec consts settings schedule status written → Executes text consts settings schedule status written
executes text consts b p settings schedule status written j g = record {
  spec = b.spec;
  spells = j.spells;
  only = j.only;
  passes = j.passes;
  left = g.left;
  by = g.by;
  ran = g.ran;
  either = g.either;
}
