-- What is left of a limit on nodes, and how high all is so far, behind trees.
use Rattle.std.specs.Prelude.{ℕ, max, List, map, Option, option_map}
use Rattle.std.specs.List.{flat_map}
use Rattle.pgo_base.specs.Lookup.{Name}
use Rattle.pgo_syntax.specs.declared.process.Process.{Process}
use Rattle.pgo_syntax.specs.declared.spec.Spec.{Spec}
use Rattle.pgo_sections.specs.Expansion.{Expansion}
use Rattle.pgo_meaning.specs.Expansions.{process_expansions}
use Rattle.pgo_sizes.specs.Left.{left_after}
use Rattle.pgo_measure.specs.Heights.{capped, label_height}
use Rattle.pgo_expand.specs.Module.{call_height, highest, joined, labels_height}
use Rattle.pgo_expand.specs.Limits.{nodes_in}
use Rattle.pgo_expand.specs.declared.measure.Left.{Left}

abbrev pub left_view : Left → ℕ × ℕ
left_view l = (l.nodes, l.height)

-- l nodes are left, and h is the height so far; nothing where the trees have more nodes
abbrev pub measured_trees : (variables globals : List Name) → ℕ → ℕ → List (Name × Expansion) → Option (ℕ × ℕ)
measured_trees vs gs l h ts = option_map (λ m. (m, capped (max h (highest (map (λ t. label_height vs gs t.1) ts))))) (left_after l (nodes_in ts))

-- the same, where the calls of the trees' actions count besides
abbrev pub measured_labels : (variables globals : List Name) → ℕ → ℕ → List (Name × Expansion) → Option (ℕ × ℕ)
measured_labels vs gs l h ts =
    option_map (λ m. (m, capped (max h (max (joined (map (λ t. call_height) ts)) (highest (map (λ t. label_height vs gs t.1) ts)))))) (left_after l (nodes_in ts))

-- the trees of processes, and what is said of their labels
abbrev pub measured_processes : Spec → ℕ → ℕ → List Process → Option (ℕ × ℕ)
measured_processes s l h ps =
    option_map (λ m. (m, capped (max h (highest (map (labels_height s) ps))))) (left_after l (nodes_in (flat_map (process_expansions s) ps)))
