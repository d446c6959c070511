-- What the limits of an expansion give.
use Rattle.std.proofs.Common.{◌≡◌, ◌+◌, ◌-◌, ◌≤◌, Bool, true, false, if◌then◌else◌, nat_le, List, [], ◌∷◌, ◌++◌, map, Option, Some, None, refl, ap, sym, ◌∙◌, arith}
use Rattle.std.specs.List.{flat_map}
use Rattle.std.proofs.lemmas.Bool.{leb-true}
use Rattle.pgo_base.specs.Lookup.{Name, same_name, find}
use Rattle.pgo_syntax.specs.declared.process.Process.{Process}
use Rattle.pgo_syntax.specs.declared.spec.Spec.{Spec}
use Rattle.pgo_sections.specs.Expansion.{Expansion}
use Rattle.pgo_sections.specs.Nodes.{nodes}
use Rattle.pgo_meaning.specs.Expansions.{process_expansions, trees_of}
use Rattle.pgo_pluscal.specs.PlusCalOf.{pluscal_of, process_of}
use Rattle.pgo_expand.specs.Limits.{expand_refusal, most_height, most_nodes, nodes_in}
use Rattle.pgo_expand.specs.Module.{module_height}
use Rattle.pgo_expand.specs.declared.errors.ExpandStop.{ExpandStop}
use Rattle.pgo_expand.specs.declared.errors.ExpandStop.TheVariants as errors
use Rattle.pgo_agrees.specs.Accepted.{AreSmall}
use Rattle.pgo_agrees.specs.Trees.{trees_in}

-- a tree that is found has no more nodes than all
one_of : (l : Name) (x : Expansion) (ts : List (Name × Expansion)) → find l ts ≡ Some x → nodes x ≤ nodes_in ts
one_of l x [] h = absurd (cc)
one_of l x (t ∷ ts) h = go (λ found. one_of l x ts found) (same_name l t.0) refl
  where
    go : (find l ts ≡ Some x → nodes x ≤ nodes_in ts) → (b : Bool) → same_name l t.0 ≡ b → nodes x ≤ nodes_in (t ∷ ts)
    go below true e =
        let found : Some t.1 ≡ Some x = sym (ap (λ c. if c then Some t.1 else find l ts) e) ∙ h in
        let is : t.1 ≡ x = cc in
        let same = ap nodes is in
        omega (arith, same)
    go below false e =
        let rest = below (sym (ap (λ c. if c then Some t.1 else find l ts) e) ∙ h) in
        omega (arith, rest)

within : (s : Spec) → expand_refusal s ≡ None → nodes_in (trees_of s) ≤ most_nodes
within s h = go (nat_le (nodes_in (trees_of s)) most_nodes) refl
  where
    answer : Bool → Option ExpandStop
    answer b = if b then (if nat_le (module_height s) most_height then None else Some (errors.Deep 513)) else Some (errors.Wide 1048577)

    go : (b : Bool) → nat_le (nodes_in (trees_of s)) most_nodes ≡ b → nodes_in (trees_of s) ≤ most_nodes
    go true e = leb-true (nodes_in (trees_of s)) most_nodes e
    go false e = absurd (let q : Some (errors.Wide 1048577) ≡ None = sym (ap answer e) ∙ h in cc)

pub small : (s : Spec) → expand_refusal s ≡ None → AreSmall s
small s h l x found =
    let one = one_of l x (trees_of s) found in
    let all = within s h in
    omega (arith, one, all)

all_trees : (s : Spec) (ps : List Process) → flat_map (λ q. q.trees) (map (process_of s) ps) ≡ flat_map (process_expansions s) ps
all_trees s [] = refl
all_trees s (p ∷ ps) = ap (λ ts. process_expansions s p ++ ts) (all_trees s ps)

pub trees_are : (s : Spec) → trees_in (pluscal_of s) ≡ trees_of s
trees_are s = all_trees s s.processes
