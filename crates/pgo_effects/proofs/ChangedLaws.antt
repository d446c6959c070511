-- A function that is changed at the end of a path, as it is made.
use Rattle.std.proofs.Common.{◌≡◌, List, [], ◌∷◌, map, refl, ap, ◌∙◌}
use Rattle.pgo_base.specs.Lookup.{Name}
use Rattle.pgo_base.specs.Tree.{Tree, name, except, paths, trees, more_paths, no_paths}
use Rattle.pgo_meaning.specs.Statements.{part_tree, changed}
use Rattle.pgo_effects.specs.declared.assign.PathPart.{PathPart}
use Rattle.pgo_effects.specs.Assigned.{part_view}

twice : (l : List PathPart) → map (λ p. part_tree (part_view p)) l ≡ map part_tree (map part_view l)
twice [] = refl
twice (p ∷ l) = ap (λ ts. part_tree (part_view p) ∷ ts) (twice l)

pub changed_made : (x n w : Name) (path : List PathPart) (f : Tree) (ts : List Tree) (rows : List (List Tree × Tree)) → f ≡ name n → n ≡ x → rows ≡ (ts, name w) ∷ [] → ts ≡ map (λ p. part_tree (part_view p)) path → except f (paths rows) ≡ changed x (map part_view path) w
changed_made x n w path f ts rows ef en er et =
    (λ i. except ((ef ∙ ap name en) i) (paths (er i)))
    ∙ ap (λ l. except (name x) (more_paths (trees l) (name w) no_paths)) (et ∙ twice path)
