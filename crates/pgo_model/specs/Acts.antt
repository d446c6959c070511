-- What a written module says of a starting state and of a step.
use Rattle.std.specs.Prelude.{◌≡◌, true, List, [], ◌∷◌, reverse, Option, Some, None}
use Rattle.pgo_base.specs.Data.{Data, boolean}
use Rattle.pgo_base.specs.Tree.{Tree}
use Rattle.pgo_base.specs.Lookup.{Name, Names, Vars, find}
use Rattle.pgo_model.specs.Val.{Val}
use Rattle.pgo_model.specs.Module.{Module, actions_of, defs_of}
use Rattle.pgo_model.specs.Written.{self_name}

-- the expression is TRUE where these names are bound, on a state and, where there is one, the next
abbrev pub IsTrueOn : Module → List (Name × Data) → Names → Vars → Option Vars → Tree → Type 0
IsTrueOn m consts names s t e =
    Val (defs_of m consts) e names s t ≡ Some (boolean true)

-- Init is TRUE
abbrev pub Begins : Module → List (Name × Data) → Vars → Type 0
Begins m consts s = IsTrueOn m consts [] s None m.init

-- the module has the action, and its body is TRUE of the pair with `self` as this identifier; of several actions of one name
-- the last counts
abbrev pub Acts : Module → List (Name × Data) → Name → Data → Vars → Vars → Type 0
Acts m consts a id s t =
    (body : Tree) × (find a (reverse (actions_of m)) ≡ Some body) × IsTrueOn m consts ((self_name, Some id) ∷ []) s (Some t) body
