-- What the names of the attempts of each instance are.
use Rattle.std.specs.Prelude.{◌≡◌, List, [], ◌∷◌, map}
use Rattle.std.proofs.Props.{props}
use Rattle.pgo_base.specs.Code.{coded_data}
use Rattle.pgo_base.specs.Data.{Data}
use Rattle.pgo_base.specs.View.{data_of}
use Rattle.pgo_syntax.specs.declared.bound.Instance.{Instance}
use Rattle.pgo_bound.specs.State.{id_of}
use Rattle.pgo_code.specs.declared.program.Code.{Code}
use Rattle.pgo_code.specs.declared.program.Program.{Program}
use Rattle.pgo_places.specs.declared.stand.Fixed as memory
use Rattle.pgo_places.specs.PlaceView.{fixed_view}
use Rattle.pgo_places.specs.Stands.{Fixed}
use Rattle.pgo_places.specs.FirstStands.{fixed_of}

-- the names of an instance, and its identifier
abbrev pub seen : memory.Fixed → Fixed × Data
seen x = (fixed_view x, data_of x.id)

-- those of the instances that have code
abbrev pub names_from : List Code → List Instance → List (Fixed × Data)
names_from [] is = []
names_from (c ∷ cs) [] = []
names_from (c ∷ cs) (i ∷ is) = (fixed_of c, id_of i) ∷ names_from cs is

abbrev pub AreNames : Program → List memory.Fixed → Type 0
AreNames p xs = map seen xs ≡ names_from p.codes.items p.bound.now.instances

pub are_names_prop : (p : Program) (xs : List memory.Fixed) → IsProp (AreNames p xs)
are_names_prop p xs = hlevel (props, coded_data)
