-- What is looked up by the place of an archetype is what the rows of archetypes have under its name.
use Rattle.std.proofs.Common.{◌≡◌, ℕ, suc, Bool, true, false, List, [], ◌∷◌, refl, ap, ◌∙◌}
use Rattle.std.specs.Prelude.{if◌then◌else◌, Option, Some, None, option_map}
use Rattle.pgo_base.specs.Lookup.{Name, same_name, find}
use Rattle.pgo_uses.specs.Names.{first_at}
use Rattle.pgo_scope.specs.Clash.{or_none}
use Rattle.pgo_scope.specs.OwnView.{archetypes_in, lists_in, own_in}
use Rattle.pgo_scope.specs.Usage.{item_at}

pub own_found : (x : Name) (rows : List (Name × List Name)) → own_in (archetypes_in rows, lists_in rows) x ≡ or_none (find x rows)
own_found x [] = refl
own_found x (r ∷ rs) = go (same_name x r.0) (own_found x rs)
  where
    next : (o : Option ℕ) → item_at (option_map suc o) (r.1 ∷ lists_in rs) ≡ item_at o (lists_in rs)
    next None = refl
    next (Some i) = refl

    go : (b : Bool) → own_in (archetypes_in rs, lists_in rs) x ≡ or_none (find x rs) → or_none (item_at (if b then Some 0 else option_map suc (first_at x (archetypes_in rs))) (r.1 ∷ lists_in rs)) ≡ or_none (if b then Some r.1 else find x rs)
    go true h = refl
    go false h = ap or_none (next (first_at x (archetypes_in rs))) ∙ h
