-- A part as it lies in memory, as the expansion that it stands for.
use Rattle.std.specs.Prelude.{List, [], ◌∷◌}
use Rattle.pgo_base.specs.ExprView.{tree}
use Rattle.pgo_sections.specs.Expansion.{Expansion, With, In, Skip, Await, Assert, Print, If, Either, End, Expansions, no_expansions, more_expansions}
use Rattle.pgo_pluscal.specs.declared.part.Step.{Step}
use Rattle.pgo_pluscal.specs.declared.part.Step.TheVariants as steps
use Rattle.pgo_pluscal.specs.declared.part.Ending.{Ending}
use Rattle.pgo_pluscal.specs.declared.part.Ending.TheVariants as endings

abbrev pub expansions : List Expansion → Expansions
expansions [] = no_expansions
expansions (x ∷ xs) = more_expansions x (expansions xs)

-- a statement, and what follows it
abbrev pub before : Step → Expansion → Expansion
before (steps.With x e) rest = With x (tree e) rest
before (steps.In x e) rest = In x (tree e) rest
before steps.Skip rest = Skip rest
before (steps.Await e) rest = Await (tree e) rest
before (steps.Assert e) rest = Assert (tree e) rest
before (steps.Print e) rest = Print (tree e) rest

-- these statements in a row, and what follows them
abbrev pub around : List Step → Expansion → Expansion
around [] rest = rest
around (s ∷ ss) rest = before s (around ss rest)

abbrev pub ending_of : Ending → Expansion
ending_of (endings.If e a b) = If (tree e) a.value b.value
ending_of (endings.Either arms) = Either (expansions arms.items)
ending_of (endings.End changes label) = End changes.items label
