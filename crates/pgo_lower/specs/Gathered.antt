-- The unmapped parameters that are read before an expression, gathered name by name; and the walk over an expression, one level at a
-- time.
use Rattle.std.specs.Prelude.{ℕ, suc, if◌then◌else◌, List, [], ◌∷◌, ◌++◌, map, Option, Some, None}
use Rattle.pgo_base.specs.Lookup.{Name, find}
use Rattle.pgo_base.specs.Tree.{Tree, name}
use Rattle.pgo_model.specs.Names.{is_among}
use Rattle.pgo_sections.specs.FreeNames.{free_names}
use Rattle.pgo_code.specs.Steps.{Unmapped, Target, Resource, Own}

-- what stands for the name is read behind these, if it is a global as a whole
abbrev pub read_behind : Name → Option Target → List Unmapped → List Unmapped
read_behind x (Some (Resource r)) us = us ++ (x, r) ∷ []
read_behind x (Some (Own y)) us = us
read_behind x None us = us

module _ (ts : List (Name × Target)) where
  -- one name more, which is read once
  abbrev pub noted : List Unmapped → Name → List Unmapped
  noted us x = if is_among x (map (λ u. u.0) us) then us else read_behind x (find x ts) us

  abbrev pub gathered : List Unmapped → List Name → List Unmapped
  gathered us [] = us
  gathered us (x ∷ xs) = gathered (noted us x) xs

-- a name itself, unless it is bound around it; another expression has none of its own
abbrev pub own_names : List Name → Tree → List Name
own_names under (name x) = if is_among x under then [] else x ∷ []
own_names under _ = []

-- the free names of operands, of which the first has the number i: around number i the names `around i` are bound
abbrev pub part_names : (ℕ → List Name) → ℕ → List Tree → List Name
part_names around i [] = []
part_names around i (t ∷ ts) = free_names (around i) t ++ part_names around (suc i) ts
