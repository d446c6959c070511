-- The trees of a specification have at least the nodes that are counted over its text.
use Rattle.std.proofs.Common.{◌≡◌, ◌<◌, ◌≤◌, ℕ, ◌+◌, ◌-◌, ◌^◌, min, Bool, true, List, [], ◌∷◌, map, None, refl, ap, sym, subst, ◌∙◌, arith}
use Rattle.std.specs.List.{flat_map}
use Rattle.pgo_base.specs.Lookup.{Name}
use Rattle.pgo_sections.specs.Code.{Code, Place}
use Rattle.pgo_sections.specs.Expand.{expansion}
use Rattle.pgo_sections.specs.Nodes.{nodes}
use Rattle.pgo_sizes.specs.Left.{left_after}
use Rattle.pgo_syntax.specs.declared.archetype.Archetype.{Archetype}
use Rattle.pgo_syntax.specs.declared.bound.Binding.{Binding}
use Rattle.pgo_syntax.specs.declared.macros.Macro.{Macro}
use Rattle.pgo_syntax.specs.declared.process.Process.{Process}
use Rattle.pgo_syntax.specs.declared.spec.Spec.{Spec}
use Rattle.pgo_meaning.specs.Expansions.{expansions_of, process_expansions}
use Rattle.pgo_meaning.specs.Parameters.{all_mapped, places_of}
use Rattle.pgo_meaning.specs.Sections.{sections_of}
use Rattle.pgo_put_sizes.specs.Leads.{all_pass}
use Rattle.pgo_put_sizes.proofs.LeadLaws.{found_passes}
use Rattle.pgo_least_nodes.specs.Counts.{Table, macro_counts, least_nodes}
use Rattle.pgo_least_nodes.proofs.SectionLaws.{section_nodes, least_law}
use Rattle.pgo_expand.specs.Limits.{nodes_in}
use Rattle.pgo_expand.proofs.Measuring.{nodes_in-append}

expanded : (vs : List Name) (ps : List (Name × Place)) (cs : List (Name × Code)) → nodes_in (map (λ c. (c.0, expansion vs ps c.1)) cs) ≡ section_nodes vs ps cs
expanded vs ps [] = refl
expanded vs ps (c ∷ cs) = ap (λ n. nodes (expansion vs ps c.1) + n) (expanded vs ps cs)

-- where each mapped parameter's blocks have a path to a `yield`
pub archetype_law : (vs : List Name) (ms : List Macro) (p : Name) (a : Archetype) (bs : List Binding) → all_pass (all_mapped bs) ≡ true
    → least_nodes (macro_counts ms) a ≤ nodes_in (expansions_of vs ms p a bs)
archetype_law vs ms p a bs h =
    let low = least_law vs ms p a bs (λ x m e. (found_passes (all_mapped bs) x m h e).0) (λ x m e. (found_passes (all_mapped bs) x m h e).1) in
    let same = expanded vs (places_of p a bs) (sections_of ms p a bs) in
    omega (arith, low, same)

-- the same of what a call finds
pub found_law : (vs : List Name) (ms : List Macro) (p : Name) (a : Archetype) (bs given : List Binding) (t : Table) (n : ℕ) (b : Bool)
    → given ≡ bs → b ≡ all_pass (all_mapped given) → b ≡ true → t ≡ macro_counts ms → n ≡ least_nodes t a → n ≤ nodes_in (expansions_of vs ms p a bs)
found_law vs ms p a bs given t n b e f h g is =
    subst (λ m. m ≤ nodes_in (expansions_of vs ms p a bs)) (sym (is ∙ ap (λ u. least_nodes u a) g))
    (archetype_law vs ms p a bs (ap (λ l. all_pass (all_mapped l)) (sym e) ∙ sym f ∙ h))

-- the processes from some place on, and one of them
pub process_more : (s : Spec) (p : Process) (ps : List Process) (l n r t : ℕ)
    → l + nodes_in (flat_map (process_expansions s) (p ∷ ps)) ≤ t → n ≤ nodes_in (process_expansions s p) → r ≡ min (l + n) (2 ^ 64 - 1)
    → r + nodes_in (flat_map (process_expansions s) ps) ≤ t
process_more s p ps l n r t h g e =
    let both = nodes_in-append (process_expansions s p) (flat_map (process_expansions s) ps) in
    omega (arith, h, g, e, both)

-- where more than the limit are counted, nothing is left of it
pub nothing_left : (l n r t : ℕ) → l < n → n + r ≤ t → left_after l t ≡ None
nothing_left l n r t h g = grind (arith, h, g)
