-- What a name stands for now, by two ways of saying it.
use Rattle.std.proofs.Common.{◌≡◌, if◌then◌else◌, List, Option, Some, None, refl, ap}
use Rattle.std.specs.Prelude.{option_map, unwrap_or}
use Rattle.pgo_base.specs.Lookup.{Name, find}
use Rattle.pgo_base.specs.Tree.{Tree, name}
use Rattle.pgo_model.specs.Options.{on}
use Rattle.pgo_rewrite.specs.Rewritten.{replacement}
use Rattle.pgo_model.specs.Names.{is_among}
use Rattle.pgo_sections.specs.Code.{Place}
use Rattle.pgo_sections.specs.Expand.{Renames, Current, current, placed, named, current_name}

-- what stands for a name
abbrev pub stood_for : List (Name × Place) → Renames → Current → Name → Option Tree
stood_for ps ren cur x = on (option_map (current cur) (find x ps)) (find x ren) (λ y. Some (name y))

module _ (ps : List (Name × Place)) (ren : Renames) (cur : Current) where
  at_place : (x : Name) (p : Option Place) → unwrap_or (option_map (current cur) p) (name x) ≡ placed cur x p
  at_place x None = refl
  at_place x (Some p) = refl

  at_name : (x : Name) (o : Option Name) → unwrap_or (on (option_map (current cur) (find x ps)) o (λ y. Some (name y))) (name x) ≡ named ps cur x o
  at_name x None = at_place x (find x ps)
  at_name x (Some y) = refl

  pub naming_law : (under : List Name) (x : Name) → replacement (stood_for ps ren cur) under x ≡ current_name ps ren cur under x
  naming_law under x = ap (λ t. if is_among x under then name x else t) (at_name x (find x ren))
