-- The items of Init of value parameters and locals, up to the height that is told apart.
use Rattle.std.specs.Prelude.{ℕ, List, [], ◌∷◌, ◌++◌, map}
use Rattle.pgo_syntax.specs.declared.declaration.Declaration.{Declaration}
use Rattle.pgo_measure.specs.Heights.{capped}
use Rattle.pgo_expand.specs.Module.{own_item, start_height}

-- of processes with identifiers of these heights
abbrev pub capped_items : List ℕ → List (List Declaration) → List ℕ
capped_items [] own = []
capped_items (i ∷ is) [] = []
capped_items (i ∷ is) (ds ∷ dss) = map (λ d. capped (own_item i (start_height d.initial))) ds ++ capped_items is dss
