-- A module whose constants have values, with the definitions that its expressions see.
use Rattle.std.specs.Prelude.{◌≡◌, map, reverse, List, Option, None, option_map}
use Rattle.pgo_base.specs.Lookup.{Name, Vars, find}
use Rattle.pgo_base.specs.NameMaps.{found}
use Rattle.pgo_check.specs.declared.definitions.Assigned.{Assigned}
use Rattle.pgo_model.specs.Module.{actions_of, defs_of}
use Rattle.pgo_model.specs.ModuleView.{defined_view, module_view}
use Rattle.pgo_model.specs.Val.{Defined, meanings}
use Rattle.pgo_model.specs.Written.{self_name}

-- the state has no variable that the start has not
abbrev pub HasVariablesOf : Vars → Vars → Type 0
HasVariablesOf start s = (x : Name) → find x start ≡ None → find x s ≡ None

-- these definitions mean in this state what the module's expressions see
abbrev pub AreSeenIn : Assigned → Vars → List Defined → Type 0
AreSeenIn m s ds = (next : Option Vars) → meanings ds s next ≡ meanings (defs_of (module_view m.module.now) m.consts.now) s next

-- they mean it in each state that has no variable that this one has not
abbrev pub AreSeenFrom : Assigned → Vars → List Defined → Type 0
AreSeenFrom m start ds = (s : Vars) → HasVariablesOf start s → AreSeenIn m s ds

-- what it has as written are the definitions that the module's expressions see, and what it has by value means the same in
-- states with the start's variables; under the name of an action it has the body of the last of that name
pub record SeesItsDefinitions (m : Assigned) : Type 0 where
  pub written : map defined_view m.written ≡ defs_of (module_view m.module.now) m.consts.now
  pub by_value : (now : Vars) (next : Option Vars) → HasVariablesOf m.start.now now → meanings (map defined_view m.by_value) now next ≡ meanings (map defined_view m.written) now next
  pub bodies : (x : Name) → option_map (λ r. r.now) (found m.bodies x) ≡ find x (reverse (actions_of (module_view m.module.now)))
  pub named_self : m.self_name ≡ self_name
