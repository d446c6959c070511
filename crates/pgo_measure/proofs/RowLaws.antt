-- Whether a name is found in rows, by the list that they are of.
use Rattle.std.proofs.Common.{◌≡◌, ℕ, Bool, true, false, ◌||◌, List, [], ◌∷◌, Option, Some, None, refl, ap, ◌∙◌}
use Rattle.std.specs.Prelude.{if◌then◌else◌, is_some, option_map}
use Rattle.pgo_base.specs.Lookup.{Name, same_name, find}
use Rattle.pgo_model.specs.Names.{is_among}
use Rattle.pgo_uses.specs.Names.{has_row}
use Rattle.pgo_measure.specs.Heights.{assigned_height, global_change, own_change}
use Rattle.pgo_measure.specs.NameRows.{name_rows, changed_rows}

pub among_rows : (x : Name) (xs : List Name) → has_row x (name_rows xs) ≡ is_among x xs
among_rows x [] = refl
among_rows x (y ∷ ys) = go (same_name x y) (among_rows x ys)
  where
    go : (b : Bool) → has_row x (name_rows ys) ≡ is_among x ys → is_some (if b then Some 0 else find x (name_rows ys)) ≡ b || is_among x ys
    go true e = refl
    go false e = e

pub changed_there : (x : Name) (cs : List (Name × Name)) → has_row x (changed_rows cs) ≡ is_some (find x cs)
changed_there x [] = refl
changed_there x (c ∷ cs) = go (same_name x c.0) (changed_there x cs)
  where
    go : (b : Bool) → has_row x (changed_rows cs) ≡ is_some (find x cs) → is_some (if b then Some 0 else find x (changed_rows cs)) ≡ is_some (if b then Some c.1 else find x cs)
    go true e = refl
    go false e = e

-- of the assignment of a variable, by whether it is a global
pub height_by : (gs : List Name) (x : Name) (b : Bool) → b ≡ has_row x (name_rows gs) → (if b then global_change else own_change) ≡ assigned_height gs x
height_by gs x b e = ap (λ (c : Bool). if c then global_change else own_change) (e ∙ among_rows x gs)

-- of a change, by whether there is one
pub change_by : (cs : List (Name × Name)) (x : Name) (h : ℕ) (b : Bool) → b ≡ has_row x (changed_rows cs) → (if b then Some h else None) ≡ option_map (λ y. h) (find x cs)
change_by cs x h b e = ap (λ (c : Bool). if c then Some h else None) (e ∙ changed_there x cs) ∙ go (find x cs)
  where
    go : (o : Option Name) → (if is_some o then Some h else None) ≡ option_map (λ y. h) o
    go None = refl
    go (Some y) = refl
