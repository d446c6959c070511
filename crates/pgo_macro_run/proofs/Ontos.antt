-- Names put before others.
use Rattle.std.proofs.Common.{◌≡◌, List, [], ◌∷◌, ◌++◌, refl}
use Rattle.pgo_base.specs.BindingsView.{onto}

onto_both : {A : Type 0} (xs ys zs : List A) → onto xs (ys ++ zs) ≡ onto xs ys ++ zs
onto_both [] ys zs = refl
onto_both (x ∷ xs) ys zs = onto_both xs (x ∷ ys) zs

pub onto_append : {A : Type 0} (xs ys : List A) → onto xs ys ≡ onto xs [] ++ ys
onto_append xs ys = onto_both xs [] ys
