-- What is left of a list, and codes of todos.
use Rattle.std.proofs.Common.{◌≡◌, ℕ, ◌+◌, ◌<◌, List, [], ◌∷◌, ◌++◌, drop, length, get_or, refl, ap, sym, ◌∙◌, add-one, drop-cons}
use Rattle.pgo_meaning.specs.Statements.{Setting}
use Rattle.pgo_bound.specs.StartNames.{map-append}
use Rattle.pgo_effects.specs.declared.todo.Todo.{Todo}
use Rattle.pgo_effects.specs.Todos.{code_of, codes_of}

pub first_of_rest : {A : Type 0} (xs : List A) (k j : ℕ) (x : A) → k + 1 ≡ j → k < length xs → x ≡ get_or xs k x → drop k xs ≡ x ∷ drop j xs
first_of_rest xs k j x ej h e =
    let s : drop k xs ≡ get_or xs k x ∷ drop (k + 1) xs = rw (add-one, drop-cons xs k x) refl in
    s ∙ (λ i. sym e i ∷ drop (ej i) xs)

pub codes_more : (s : Setting) (ts new : List Todo) (t : Todo) → new ≡ ts ++ t ∷ [] → codes_of s new ≡ codes_of s ts ++ code_of s t ∷ []
codes_more s ts new t e = ap (codes_of s) e ∙ map-append (code_of s) ts (t ∷ [])
