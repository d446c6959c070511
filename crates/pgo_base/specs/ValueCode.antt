-- A value as it lies in memory, as the code of the data that it stands for.
use Rattle.std.specs.Prelude.{◌≡◌, refl}
use Rattle.std.proofs.Common.{ap}
use Rattle.std.specs.Coded.{Coded, code_by}
use Rattle.pgo_base.specs.declared.value.Value.{Value}
use Rattle.pgo_base.specs.declared.value.Value.TheVariants.{Bool, Int, Str, Model, Set, Fun}
use Rattle.pgo_base.specs.Data.{Data, boolean, integer, string, model, set, function, members, graph, members-items, graph-pairs}
use Rattle.pgo_base.specs.View.{data_of}
use Rattle.pgo_base.specs.Code.{coded_data}

abbrev pub value_from : Data → Value
value_from (boolean b) = Bool b
value_from (integer z) = Int z
value_from (string t) = Str t
value_from (model t) = Model t
value_from (set xs) = Set (members xs)
value_from (function ps) = Fun (graph ps)

pub value_back : (v : Value) → value_from (data_of v) ≡ v
value_back (Bool b) = refl
value_back (Int z) = refl
value_back (Str t) = refl
value_back (Model t) = refl
value_back (Set s) = ap Set (members-items s)
value_back (Fun f) = ap Fun (graph-pairs f)

abbrev pub coded_value : Coded Value
coded_value = code_by Data coded_data data_of value_from value_back
