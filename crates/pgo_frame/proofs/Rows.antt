-- What sections of small specifications do on two states: where they agree on what is accessed; and, where one thing that is asked
-- doesn't hold, that they differ all the same.
use Rattle.std.specs.Prelude.{◌≡◌, ℕ, pos, List, [], ◌∷◌, Some, None, codes, refl}
use Rattle.pgo_base.specs.declared.expr.Infix.TheVariants as infixs
use Rattle.pgo_base.specs.declared.value.Value.TheVariants.{Int}
use Rattle.pgo_base.specs.Data.{Data, function, pairs}
use Rattle.pgo_base.specs.Lookup.{Name, Vars}
use Rattle.pgo_base.specs.Tree.{name, binary, index, trees}
use Rattle.pgo_model.specs.Choice.{word_at}
use Rattle.pgo_model.specs.Outcome.{Nowhere, NoValue, Section}
use Rattle.pgo_model.specs.System.{Touched}
use Rattle.pgo_syntax.specs.Statement.{assign, await_that, block, either_of, labeled, print_out, statements, yield_as}
use Rattle.pgo_syntax.specs.declared.archetype.Archetype.{Archetype}
use Rattle.pgo_syntax.specs.declared.archetype.Extent.TheVariants as extents
use Rattle.pgo_syntax.specs.declared.assignment.Step.TheVariants as step
use Rattle.pgo_syntax.specs.declared.bound.Binding.{Binding}
use Rattle.pgo_syntax.specs.declared.bound.Bound.{Bound}
use Rattle.pgo_syntax.specs.declared.bound.Mapping.TheVariants.{Identity}
use Rattle.pgo_syntax.specs.declared.bound.Target.TheVariants as targets
use Rattle.pgo_meaning.proofs.RowTools.{placed_name, assignment, archetype, binding, one_instance, ref, n, int, deep, whole, element, at_label, stuck, leads}
use Rattle.pgo_meaning.specs.Attempt.{SectTry}
use Rattle.pgo_meaning.specs.Sect.{Sect}
use Rattle.pgo_frame.specs.Agreement.{value_at}

-- an instance 1 of P that runs this archetype, bound so to these globals
abbrev running : Archetype → List Binding → List Name → Bound
running a bs globals = one_instance [] (codes "P") a bs globals [] (Int (pos 1))

-- a parameter that is bound to g by element
abbrev by_element : Name → Name → Binding
by_element x g = binding x (targets.Global g extents.Element (Some Identity))

abbrev does : Bound → Vars → Section Touched Vars
does b s = Sect b 0 s (word_at [])

-- <<v, w>>, and a local's value at 1
abbrev two : Data → Data → Data
two v w = function (pairs ((int 1, v) ∷ (int 2, w) ∷ []))

abbrev at_1 : Data → Data
at_1 v = function (pairs ((int 1, v) ∷ []))

-- ---- components

row_whole : value_at (whole (codes "f")) ((codes "f", two (int 3) (int 4)) ∷ []) ≡ Some (two (int 3) (int 4))
row_whole = refl

row_element : value_at (element (codes "f") 2) ((codes "f", two (int 3) (int 4)) ∷ []) ≡ Some (int 4)
row_element = refl

row_outside : value_at (element (codes "f") 3) ((codes "f", two (int 3) (int 4)) ∷ []) ≡ None
row_outside = refl

row_no_variable : value_at (whole (codes "g")) ((codes "f", int 3) ∷ []) ≡ None
row_no_variable = refl

-- ---- l: v := net[1]; net[1] := v + 1;

abbrev counts : Bound
counts =
    running (archetype (codes "A") (codes "v" ∷ []) (
    (Some (placed_name (codes "l")), assign 0 (assignment (codes "v") [] (index (name (codes "net")) (trees (n 1 ∷ []))) ∷ []))
    ∷ (None, assign 0 (assignment (codes "net") (step.Index (n 1) ∷ []) (binary infixs.Add (name (codes "v")) (n 1)) ∷ [])) ∷ []))
    (by_element (codes "net") (codes "net") ∷ []) (codes "net" ∷ [])

abbrev counted : Data → Data → Data → Name → Vars
counted v w x l = (codes "net", two v w) ∷ at_label l ∷ (codes "P_v", at_1 x) ∷ []

abbrev accesses : List Touched
accesses = element (codes "net") 1 ∷ element (codes "net") 1 ∷ []

-- whatever the other element is, the same is accessed, and it is as it was
row_counts : (w : ℕ) → does counts (counted (int 3) (int w) (int 0) (codes "P_l")) ≡ leads accesses (counted (int 4) (int w) (int 3) (codes "Done")) []
row_counts w = refl

row_counts_other : does counts (counted (int 3) (deep 200) (int 0) (codes "P_l")) ≡ leads accesses (counted (int 4) (deep 200) (int 3) (codes "Done")) []
row_counts_other = refl

-- one that is too deep for a state would be seen at the end
row_counts_deep : does counts (counted (int 3) (deep 255) (int 0) (codes "P_l")) ≡ stuck accesses NoValue
row_counts_deep = refl

-- ---- l: either { await net[1] = 3; v := 1; } or { v := net[2]; }

abbrev tries : Bound → Vars → Section Touched Vars
tries b s = SectTry b 0 s (word_at [])

abbrev chooses : Bound
chooses =
    running (archetype (codes "A") (codes "v" ∷ []) ((
      Some (placed_name (codes "l")),
      either_of 0 (statements (
          block 0 (labeled ((None, await_that 0 (binary infixs.Equal (index (name (codes "net")) (trees (n 1 ∷ []))) (n 3))) ∷ (None, assign 0 (assignment (codes "v") [] (n 1) ∷ [])) ∷ []))
          ∷ assign 0 (assignment (codes "v") [] (index (name (codes "net")) (trees (n 2 ∷ []))) ∷ []) ∷ [])),
    ) ∷ []))
    (by_element (codes "net") (codes "net") ∷ []) (codes "net" ∷ [])

row_first_leaf : tries chooses (counted (int 3) (int 4) (int 0) (codes "P_l")) ≡ leads (element (codes "net") 1 ∷ []) (counted (int 3) (int 4) (int 1) (codes "Done")) []
row_first_leaf = refl

-- what a blocked leaf accesses is seen: it decides which leaf is the last
row_second_leaf : tries chooses (counted (int 5) (int 4) (int 0) (codes "P_l")) ≡ leads (element (codes "net") 1 ∷ element (codes "net") 2 ∷ []) (counted (int 5) (int 4) (int 4) (codes "Done")) []
row_second_leaf = refl

-- ---- l: net[1] := 5; print v; where the local's variable has the name of the global

abbrev clashes : Bound
clashes =
    running (archetype (codes "A") (codes "v" ∷ []) (
    (Some (placed_name (codes "l")), assign 0 (assignment (codes "net") (step.Index (n 1) ∷ []) (n 5) ∷ []))
    ∷ (None, print_out 0 (name (codes "v"))) ∷ []))
    (by_element (codes "net") (codes "P_v") ∷ []) (codes "P_v" ∷ [])

abbrev clashed : Data → Data → Name → Vars
clashed v w l = (codes "P_v", two v w) ∷ at_label l ∷ []

-- the other element is printed, and isn't accessed
row_clashes : (w : ℕ) → does clashes (clashed (int 3) (int w) (codes "P_l")) ≡ leads (element (codes "P_v") 1 ∷ []) (clashed (int 5) (int w) (codes "Done")) (two (int 5) (int w) ∷ [])
row_clashes w = refl

-- ---- l: yield x[1]; which a grammar has in mapping macros alone

abbrev yields : Bound
yields = running (archetype (codes "A") [] ((Some (placed_name (codes "l")), yield_as 0 (index (name (codes "x")) (trees (n 1 ∷ [])))) ∷ [])) (ref (codes "x") (codes "x") ∷ []) (codes "x" ∷ [])

-- x isn't accessed, and whether it has an element is seen
row_yields : does yields ((codes "x", two (int 3) (int 4)) ∷ at_label (codes "P_l") ∷ []) ≡ record { trace = []; end = Nowhere }
row_yields = refl

row_yields_nothing : does yields ((codes "x", int 3) ∷ at_label (codes "P_l") ∷ []) ≡ stuck [] NoValue
row_yields_nothing = refl

-- ---- l: net[1] := 5; where the global isn't declared

abbrev undeclared : Bound
undeclared =
    running (archetype (codes "A") [] ((Some (placed_name (codes "l")), assign 0 (assignment (codes "net") (step.Index (n 1) ∷ []) (n 5) ∷ [])) ∷ []))
    (by_element (codes "net") (codes "net") ∷ []) []

-- the part at the identifier becomes the function, with its other element
row_undeclared : (w : ℕ) → does undeclared ((codes "net", two (int 3) (int w)) ∷ at_label (codes "P_l") ∷ []) ≡ leads (element (codes "net") 1 ∷ []) ((codes "net", two (two (int 5) (int w)) (int w)) ∷ at_label (codes "Done") ∷ []) []
row_undeclared w = refl
