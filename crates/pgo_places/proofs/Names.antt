-- Names in scope, as lists.
use Rattle.std.proofs.Common.{◌≡◌, List, [], ◌∷◌, ◌++◌, refl, ap, sym, ◌∙◌, reverse, append_assoc}
use Rattle.std.proofs.lemmas.List.{reverse-append}
use Rattle.pgo_base.specs.BindingsView.{onto}

-- the last one first
pub onto_reverse : {A : Type 0} (xs ys : List A) → onto xs ys ≡ reverse xs ++ ys
onto_reverse [] ys = refl
onto_reverse (x ∷ xs) ys = onto_reverse xs (x ∷ ys) ∙ sym (append_assoc (reverse xs) (x ∷ []) ys) ∙ sym (ap (λ l. l ++ ys) (reverse-append (x ∷ []) xs))
