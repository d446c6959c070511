-- An action as it lies in memory, as a name and a tree.
use Rattle.std.specs.Prelude.{ℕ, List}
use Rattle.pgo_base.specs.Tree.{Tree}
use Rattle.pgo_base.specs.declared.module.Action.{Action}

abbrev pub action_pair : Action → List ℕ × Tree
action_pair a = (a.name, a.body)
