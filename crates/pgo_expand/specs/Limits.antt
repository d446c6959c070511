-- The limits on an expansion, and what is refused by them.
--
-- Source: this project's choice.
use Rattle.std.specs.Prelude.{◌≡◌, ℕ, nat_le, ◌+◌, if◌then◌else◌, List, [], ◌∷◌, Option, Some, None, Result, Ok, Err}
use Rattle.pgo_base.specs.Lookup.{Name}
use Rattle.pgo_syntax.specs.declared.spec.Spec.{Spec}
use Rattle.pgo_sections.specs.Expansion.{Expansion}
use Rattle.pgo_sections.specs.Nodes.{nodes}
use Rattle.pgo_meaning.specs.Expansions.{trees_of}
use Rattle.pgo_expand.specs.Module.{module_height}
use Rattle.pgo_expand.specs.declared.errors.ExpandStop.{ExpandStop}
use Rattle.pgo_expand.specs.declared.errors.ExpandStop.TheVariants as errors

abbrev pub most_nodes : ℕ
most_nodes = 1048576

abbrev pub most_height : ℕ
most_height = 512

-- the nodes of trees together
abbrev pub nodes_in : List (Name × Expansion) → ℕ
nodes_in [] = 0
nodes_in (t ∷ ts) = nodes t.1 + nodes_in ts

-- what refuses the expansion: first its nodes, then its height. The number that is shown is the least that is too large
abbrev pub expand_refusal : Spec → Option ExpandStop
expand_refusal s =
    if nat_le (nodes_in (trees_of s)) most_nodes then
    (if nat_le (module_height s) most_height then None else Some (errors.Deep 513))
    else Some (errors.Wide 1048577)

-- an error is the refusal; want of memory says nothing
abbrev pub Refuses : Option ExpandStop → ExpandStop → Type 0
Refuses o errors.NoMemory = Unit {0}
Refuses o e = o ≡ Some e

-- the expansion comes where nothing is refused
abbrev pub Answers : {A : Type 0} → Option ExpandStop → A → Result A ExpandStop → Type 0
Answers o p (Ok r) = (o ≡ None) × (r ≡ p)
Answers o p (Err e) = Refuses o e
