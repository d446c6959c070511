-- Lists from their end.
use Rattle.std.proofs.Common.{◌≡◌, List, [], ◌∷◌, ◌++◌, map, reverse, ap, ◌∙◌}
use Rattle.std.proofs.lemmas.List.{map-append, reverse-append}

pub last_view : {A B : Type 0} (view : A → B) (xs : List A) (x : A) → reverse (map view (xs ++ x ∷ [])) ≡ view x ∷ reverse (map view xs)
last_view view xs x = ap reverse (map-append view xs (x ∷ [])) ∙ reverse-append (map view xs) (view x ∷ [])
