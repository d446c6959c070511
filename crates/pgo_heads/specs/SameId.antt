-- Rule 4: two processes have an identifier.
use Rattle.std.specs.Prelude.{if◌then◌else◌, List, [], ◌∷◌}
use Rattle.std.specs.Ordering.{match_ordering}
use Rattle.pgo_base.specs.Data.{Data}
use Rattle.pgo_base.specs.Order.{data_cmp}
use Rattle.pgo_model.specs.Operators.{same_data}
use Rattle.pgo_bound.specs.Runs.{Run, all_ids}

-- an identifier in value order, behind each that is no greater
abbrev pub put_in_order : Data → List Data → List Data
put_in_order x [] = x ∷ []
put_in_order x (y ∷ ys) = match_ordering (data_cmp x y) (x ∷ y ∷ ys) (x ∷ y ∷ ys) (y ∷ put_in_order x ys)

-- in value order, each as often as it stands
abbrev pub ordered : List Data → List Data
ordered [] = []
ordered (x ∷ xs) = put_in_order x (ordered xs)

-- those that stand directly behind one that is the same
abbrev pub repeated_behind : Data → List Data → List Data
repeated_behind x [] = []
repeated_behind x (y ∷ ys) = if same_data x y then y ∷ repeated_behind y ys else repeated_behind y ys

abbrev pub repeated : List Data → List Data
repeated [] = []
repeated (x ∷ xs) = repeated_behind x xs

-- two processes have an identifier, the least first; within a process each stands once
abbrev pub ids_shared : List Run → List Data
ids_shared rs = repeated (ordered (all_ids rs))
