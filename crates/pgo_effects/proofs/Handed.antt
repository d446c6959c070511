-- Arguments under the names of parameters, the last one first.
use Rattle.std.proofs.Common.{◌≡◌, ℕ, ◌+◌, ◌<◌, List, [], ◌∷◌, map, drop, length, get_or, refl, ap, sym, ◌∙◌, ◌⊎◌, inl, inr}
use Rattle.std.proofs.Math.Seq.{drop-length}
use Rattle.pgo_base.specs.ExprView.{tree}
use Rattle.pgo_base.specs.Lookup.{Name}
use Rattle.pgo_base.specs.declared.expr.Expr.{Expr}
use Rattle.pgo_syntax.specs.declared.name.PlacedName.{PlacedName}
use Rattle.pgo_effects.proofs.Rests.{first_of_rest}
use Rattle.pgo_meaning.specs.MacrosPlaced.{Arguments, handed}

abbrev pub given : List PlacedName → List Expr → Arguments
given xs ts = handed (map (λ p. p.name) xs) (map tree ts)

none_given : (xs : List Name) → handed xs [] ≡ []
none_given [] = refl
none_given (x ∷ xs) = refl

-- behind the end of one of the lists there is nothing
pub handed_end : (xs : List PlacedName) (ts : List Expr) (k : ℕ) → (k ≡ length xs) ⊎ (k ≡ length ts) → given (drop k xs) (drop k ts) ≡ []
handed_end xs ts k (inl e) = let d : drop k xs ≡ [] = ap (λ n. drop n xs) e ∙ drop-length xs in ap (λ l. given l (drop k ts)) d
handed_end xs ts k (inr e) =
    let d : drop k ts ≡ [] = ap (λ n. drop n ts) e ∙ drop-length ts in
    ap (λ l. given (drop k xs) l) d ∙ none_given (map (λ p. p.name) (drop k xs))

pub handed_more : (xs : List PlacedName) (ts : List Expr) (k j : ℕ) (x : PlacedName) (t v : Expr) (n : Name) (new old : Arguments) → k + 1 ≡ j → k < length xs → k < length ts → x ≡ get_or xs k x → t ≡ get_or ts k t → n ≡ (get_or xs k x).name → tree v ≡ tree t → new ≡ (n, tree v) ∷ old → old ≡ given (drop j xs) (drop j ts) → new ≡ given (drop k xs) (drop k ts)
handed_more xs ts k j x t v n new old ej lx lt ex et en ev e inv =
    e
    ∙ (λ i. ((en ∙ ap (λ p. p.name) (sym ex)) i, ev i) ∷ inv i)
    ∙ (λ i. given (sym (first_of_rest xs k j x ej lx ex) i) (sym (first_of_rest ts k j t ej lt et) i))
