-- Names with commas between them: the first, and then each behind a comma; and parameters as they are added.
use Rattle.std.proofs.Common.{◌≡◌, ℕ, List, [], ◌∷◌, ◌++◌, refl, ap, sym, ◌∙◌}
use Rattle.std.specs.Prelude.{codes}
use Rattle.std.specs.List.{flat_map}
use Rattle.std.proofs.lemmas.List.{append_assoc, append-nil}
use Rattle.pgo_base.specs.Lookup.{Name}
use Rattle.pgo_model.specs.ExprText.{names_text}
use Rattle.pgo_model.specs.ModuleText.{parameters_text}

names_joined : (x : Name) (ys : List Name) → names_text (x ∷ ys) ≡ x ++ flat_map (λ y. codes ", " ++ y) ys
names_joined x [] = sym (append-nil x)
names_joined x (y ∷ ys) =
    ap (λ n. x ++ codes ", " ++ n) (names_joined y ys)
    ∙ append_assoc x (codes ", ") (y ++ flat_map (λ z. codes ", " ++ z) ys)
    ∙ ap (λ t. x ++ t) (sym (append_assoc (codes ", ") y (flat_map (λ z. codes ", " ++ z) ys)))

nested : (o p a f q : List ℕ) → o ++ (p ++ a) ++ f ++ q ≡ o ++ (p ++ (a ++ f) ++ q)
nested o p a f q = simp append_assoc refl

-- what was added in turn: the first behind a parenthesis, the others, and the other parenthesis
pub parameters_added : (o b c : List ℕ) (x : Name) (ys : List Name) → b ≡ o ++ (codes "(" ++ (x ++ [])) → c ≡ b ++ flat_map (λ y. codes ", " ++ y) ys → c ++ codes ")" ≡ o ++ parameters_text (x ∷ ys)
parameters_added o b c x ys e d =
    let others = flat_map (λ y. codes ", " ++ y) ys in
    ap (λ l. l ++ codes ")") (d ∙ ap (λ l. l ++ others) (e ∙ ap (λ l. o ++ (codes "(" ++ l)) (append-nil x)))
    ∙ nested o (codes "(") x others (codes ")")
    ∙ ap (λ n. o ++ (codes "(" ++ n ++ codes ")")) (sym (names_joined x ys))
