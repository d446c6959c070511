-- How many branch points stand in one another.
use Rattle.std.specs.Prelude.{ℕ, suc, max}
use Rattle.pgo_sections.specs.Expansion.{Expansion, With, In, Skip, Await, Assert, Print, If, Either, End, Expansions, no_expansions, more_expansions}

abbrev mutual
  pub depth : Expansion → ℕ
  depth (With x e rest) = depth rest
  depth (In x e rest) = depth rest
  depth (Skip rest) = depth rest
  depth (Await e rest) = depth rest
  depth (Assert e rest) = depth rest
  depth (Print e rest) = depth rest
  depth (If e a b) = suc (max (depth a) (depth b))
  depth (Either arms) = suc (arms_depth arms)
  depth (End changes label) = 0

  pub arms_depth : Expansions → ℕ
  arms_depth no_expansions = 0
  arms_depth (more_expansions x xs) = max (depth x) (arms_depth xs)
