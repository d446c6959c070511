-- An expression is a conjunction, or its one item.
use Rattle.std.proofs.Common.{◌≡◌, List, [], ◌∷◌, ◌++◌, map, reverse, Option, refl, ap, sym, ◌∙◌}
use Rattle.std.proofs.lemmas.List.{reverse-append}
use Rattle.pgo_base.specs.declared.expr.Infix.TheVariants as infixs
use Rattle.pgo_base.specs.Tree.{Tree, binary}
use Rattle.pgo_model.specs.ModuleText.{conjuncts}
use Rattle.pgo_module_write.specs.Conjuncts.{sides, conjuncts_by}

pub conjuncts_split : (e : Tree) (rest : List Tree) → conjuncts e rest ≡ conjuncts_by (sides e) e rest
conjuncts_split (binary infixs.And a b) rest = refl
conjuncts_split e rest = refl

pub split_here : (e : Tree) (rest : List Tree) (o : Option (Tree × Tree)) → o ≡ sides e → conjuncts_by o e rest ≡ conjuncts e rest
split_here e rest o h = ap (λ p. conjuncts_by p e rest) h ∙ sym (conjuncts_split e rest)

pub last_first : {A B : Type 0} (f : A → B) (xs : List A) (x : A) → map f (reverse (xs ++ x ∷ [])) ≡ f x ∷ map f (reverse xs)
last_first f xs x = ap (map f) (reverse-append xs (x ∷ []))
