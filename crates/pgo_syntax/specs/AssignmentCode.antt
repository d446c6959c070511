-- Assignments as trees of numbers, by which a proof tells them apart.
use Rattle.std.specs.Prelude.{List, refl}
use Rattle.std.specs.Coded.{Coded}
use Rattle.pgo_base.specs.Tree.{Tree}
use Rattle.pgo_syntax.specs.declared.name.PlacedName.{PlacedName}
use Rattle.pgo_syntax.specs.declared.assignment.Step.{Step}
use Rattle.pgo_syntax.specs.declared.assignment.Left.{Left}
use Rattle.pgo_syntax.specs.declared.assignment.Assignment.{Assignment}
use Rattle.pgo_syntax.specs.Packed.{Packed, packed_by, packed×, packed_tree, packed_list, coded_of}
use Rattle.pgo_syntax.specs.NameCode.{packed_placed_name}
use Rattle.pgo_syntax.specs.StepCode.{packed_path}

abbrev pub packed_left : Packed Left
packed_left =
    packed_by (PlacedName × List Step) (packed× packed_placed_name packed_path) (λ l. (l.name, l.path)) (λ t. record { name = t.0; path = t.1 }) (λ _. refl)

abbrev pub packed_assignment : Packed Assignment
packed_assignment =
    packed_by (Left × Tree) (packed× packed_left packed_tree) (λ a. (a.left, a.right)) (λ t. record { left = t.0; right = t.1 }) (λ _. refl)

abbrev pub packed_assignments : Packed (List Assignment)
packed_assignments = packed_list packed_assignment

abbrev pub coded_assignments : Coded (List Assignment)
coded_assignments = coded_of packed_assignments
