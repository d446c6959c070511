-- What is bound: a specification of a text that the rules let pass with these constants.
use Rattle.std.specs.Prelude.{◌≡◌, ℕ, List}
use Rattle.pgo_base.specs.Data.{Data}
use Rattle.pgo_base.specs.Lookup.{Name}
use Rattle.pgo_syntax.specs.declared.bound.Bound.{Bound}
use Rattle.pgo_bound.specs.BoundOf.{bound_of}
use Rattle.pgo_bound.specs.Declares.{Declares}
use Rattle.pgo_mpcal_read.specs.Texts.{SpellsSpec}
use Rattle.pgo_accept.specs.Answers.{NothingRefuses, PassesRules}
use Rattle.pgo_pluscal.specs.PlusCalOf.{pluscal_of}
use Rattle.pgo_pluscal.specs.declared.pluscal.PlusCal.{PlusCal}
use Rattle.pgo_syntax.specs.declared.spec.Spec.{Spec}

pub record Accepts (b : Bound) (consts : List (Name × Data)) : Type 0 where
  pub text : List ℕ
  pub spells : SpellsSpec text b.spec
  pub passes : PassesRules b.spec consts
  pub bound_is : b ≡ bound_of b.spec consts
  pub declared : Declares b b.start

-- the text spells this specification and no other; it is bound, nothing refuses it with these constants, and this is its expansion
pub record IsJudged (text : List ℕ) (consts : List (Name × Data)) (b : Bound) (expanded : PlusCal) : Type 0 where
  pub spells : SpellsSpec text b.spec
  pub only : (other : Spec) → SpellsSpec text other → b.spec ≡ other
  pub accepts : Accepts b consts
  pub passes : NothingRefuses b.spec consts
  pub expansion : expanded ≡ pluscal_of b.spec
