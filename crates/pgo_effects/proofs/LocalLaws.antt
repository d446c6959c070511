-- The place of a local, by whether there is one of the name.
use Rattle.std.proofs.Common.{◌≡◌, Bool, true, false, if◌then◌else◌, List, [], ◌∷◌, Some, None, refl, ap, sym, ◌∙◌}
use Rattle.std.specs.Prelude.{is_some}
use Rattle.pgo_base.specs.Lookup.{Name, same_name, find}
use Rattle.pgo_meaning.specs.Parameters.{local_places}
use Rattle.pgo_model.specs.Names.{same_name-is}
use Rattle.pgo_model.specs.Written.{written}
use Rattle.pgo_sections.specs.Code.{Own}
use Rattle.pgo_syntax.specs.declared.declaration.Declaration.{Declaration}
use Rattle.pgo_uses.specs.Names.{has_row}
use Rattle.pgo_uses.specs.Tables.{variable_rows}

pub local_found : (p x : Name) (ds : List Declaration) (b : Bool) → has_row x (variable_rows ds) ≡ b → find x (local_places p ds) ≡ (if b then Some (Own (written p x)) else None)
local_found p x [] b e = ap (λ c. if c then Some (Own (written p x)) else None) e
local_found p x (d ∷ ds) b e = go (same_name x d.name.name) refl e (local_found p x ds b)
  where
    go : (c : Bool) → same_name x d.name.name ≡ c → is_some (if c then Some 0 else find x (variable_rows ds)) ≡ b → (has_row x (variable_rows ds) ≡ b → find x (local_places p ds) ≡ (if b then Some (Own (written p x)) else None))
        → (if c then Some (Own (written p d.name.name)) else find x (local_places p ds)) ≡ (if b then Some (Own (written p x)) else None)
    go true h k r = ap (λ (y : Name). Some (Own (written p y))) (sym (same_name-is x d.name.name h)) ∙ ap (λ c. if c then Some (Own (written p x)) else None) k
    go false h k r = r k
