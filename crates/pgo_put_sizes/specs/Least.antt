-- Nodes that each expansion of some code has, whatever follows it.
use Rattle.std.specs.Prelude.{ℕ, suc, ◌+◌, Bool, true, false, ◌||◌, ◌&&◌, if◌then◌else◌}
use Rattle.pgo_sections.specs.Code.{Code, Empty, Skip, Let, Pick, Become, Set, Await, Assert, Print, If, Either, Seq, Goto, Yield, Read, Write, Codes, no_codes, more_codes}
use Rattle.pgo_sections.specs.Nodes.{tree_nodes}

abbrev mutual
  -- whether some path leads through the code
  pub passes : Code → Bool
  passes Empty = true
  passes Skip = true
  passes (Let b w e c) = passes c
  passes (Pick b w e c) = passes c
  passes (Become p w) = true
  passes (Set b p e) = true
  passes (Await e) = true
  passes (Assert e) = true
  passes (Print e) = true
  passes (If e c d) = passes c || passes d
  passes (Either cs) = one_passes cs
  passes (Seq c d) = passes c && passes d
  passes (Goto l) = false
  passes (Yield e) = false
  passes (Read w g i block c) = yields block && passes c
  passes (Write g i w block) = yields block

  pub one_passes : Codes → Bool
  one_passes no_codes = false
  one_passes (more_codes c cs) = passes c || one_passes cs

  -- whether some path through the code ends in a yield
  pub yields : Code → Bool
  yields Empty = false
  yields Skip = false
  yields (Let b w e c) = yields c
  yields (Pick b w e c) = yields c
  yields (Become p w) = false
  yields (Set b p e) = false
  yields (Await e) = false
  yields (Assert e) = false
  yields (Print e) = false
  yields (If e c d) = yields c || yields d
  yields (Either cs) = one_yields cs
  yields (Seq c d) = yields c || (passes c && yields d)
  yields (Goto l) = false
  yields (Yield e) = true
  yields (Read w g i block c) = yields block && yields c
  yields (Write g i w block) = false

  pub one_yields : Codes → Bool
  one_yields no_codes = false
  one_yields (more_codes c cs) = yields c || one_yields cs

-- the nodes of what comes first in the code, up to the first branch or jump; what stands behind a read counts where some path
-- through the block that reads ends in a yield
abbrev pub least : Code → ℕ
least Empty = 0
least Skip = 1
least (Let b w e c) = suc (tree_nodes e + least c)
least (Pick b w e c) = suc (tree_nodes e + least c)
least (Become p w) = 0
least (Set b p e) = suc (tree_nodes e)
least (Await e) = suc (tree_nodes e)
least (Assert e) = suc (tree_nodes e)
least (Print e) = suc (tree_nodes e)
least (If e c d) = suc (tree_nodes e)
least (Either cs) = 1
least (Seq c d) = least c
least (Goto l) = 0
least (Yield e) = 0
least (Read w g i block c) = if yields block then least c else 0
least (Write g i w block) = 0
