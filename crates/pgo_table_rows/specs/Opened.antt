-- On what a table may be opened.
use Rattle.pgo_bound.specs.Sound.{Sound}
use Rattle.pgo_bound.specs.State.{AreDifferent, variables_of}
use Rattle.pgo_syntax.specs.declared.bound.Bound.{Bound}

pub record MayOpen (b : Bound) : Type 0 where
  pub sound : Sound b
  pub names_differ : AreDifferent (variables_of b.spec)
