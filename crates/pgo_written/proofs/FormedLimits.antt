-- What the limits on expansions give: each expansion is small, and no expression of the module is high.
use Rattle.std.proofs.Common.{◌≡◌, ◌≤◌, ◌+◌, Bool, true, false, if◌then◌else◌, nat_le, List, [], ◌∷◌, ◌++◌, Some, None, refl, arith}
use Rattle.std.specs.List.{AllByRecursion, flat_map}
use Rattle.std.proofs.lemmas.Bool.{leb-true}
use Rattle.pgo_base.specs.Lookup.{Name}
use Rattle.pgo_syntax.specs.declared.process.Process.{Process}
use Rattle.pgo_syntax.specs.declared.spec.Spec.{Spec}
use Rattle.pgo_sections.specs.Expansion.{Expansion}
use Rattle.pgo_sections.specs.Nodes.{nodes}
use Rattle.pgo_meaning.specs.Expansions.{process_expansions, trees_of}
use Rattle.pgo_expand.specs.Limits.{most_nodes, most_height, nodes_in, expand_refusal}
use Rattle.pgo_expand.specs.Module.{module_height}
use Rattle.pgo_expand.specs.declared.errors.ExpandStop.{ExpandStop}
use Rattle.pgo_expand.specs.declared.errors.ExpandStop.TheVariants as errors

passed : (a b : Bool) (d w : ExpandStop) → (if a then (if b then None else Some d) else Some w) ≡ None → (a ≡ true) × (b ≡ true)
passed true true d w h = (refl, refl)
passed true false d w h = absurd (cc)
passed false b d w h = absurd (cc)

pub limits : (s : Spec) → expand_refusal s ≡ None → (nodes_in (trees_of s) ≤ most_nodes) × (module_height s ≤ most_height)
limits s h =
    let p = passed (nat_le (nodes_in (trees_of s)) most_nodes) (nat_le (module_height s) most_height) (errors.Deep 513) (errors.Wide 1048577) h in
    (leb-true (nodes_in (trees_of s)) most_nodes p.0, leb-true (module_height s) most_height p.1)

nodes_append : (xs ys : List (Name × Expansion)) → nodes_in (xs ++ ys) ≡ nodes_in xs + nodes_in ys
nodes_append [] ys = omega arith
nodes_append (x ∷ xs) ys = omega (arith, nodes_append xs ys)

each_small : (xs : List (Name × Expansion)) → nodes_in xs ≤ 1048576 → AllByRecursion (λ c. nodes c.1 ≤ 1048576) xs
each_small [] h = tt
each_small (x ∷ xs) h = (omega (arith, h), each_small xs (omega (arith, h)))

pub all_small : (s : Spec) (ps : List Process) → nodes_in (flat_map (process_expansions s) ps) ≤ 1048576 → AllByRecursion (λ p. AllByRecursion (λ c. nodes c.1 ≤ 1048576) (process_expansions s p)) ps
all_small s [] h = tt
all_small s (p ∷ ps) h =
    let e = nodes_append (process_expansions s p) (flat_map (process_expansions s) ps) in
    (each_small (process_expansions s p) (omega (arith, h, e)), all_small s ps (omega (arith, h, e)))
