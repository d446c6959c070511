-- The step of a walk that keeps what is found first.
use Rattle.std.proofs.Common.{◌≡◌, ◌<◌, ◌+◌, ℕ, List, ◌++◌, length, get_or, drop, Option, ap, ◌∙◌, sym}
use Rattle.std.proofs.lemmas.List.{drop_more}
use Rattle.std.specs.Prelude.{flat_map}
use Rattle.pgo_syntax.specs.Least.{sooner_of, least}
use Rattle.pgo_syntax.proofs.Leasts.{sooner_assoc, least-append}

module _ {B : Type 0} (place : B → ℕ) where
  abbrev of : Option B → Option B → Option B
  of = sooner_of place

  pub walk_step : {A : Type 0} (f : A → List B) (xs : List A) (i : ℕ) (x : A) (found next new whole : Option B) → i < length xs → x ≡ get_or xs i x
      → next ≡ least place (f x) → new ≡ of found next → of found (least place (flat_map f (drop i xs))) ≡ whole
      → of new (least place (flat_map f (drop (i + 1) xs))) ≡ whole
  walk_step f xs i x found next new whole h e n m kept =
      let rest : List B = flat_map f (drop (i + 1) xs) in
      ap (λ o. of o (least place rest)) (m ∙ ap (of found) n)
      ∙ sym (sooner_assoc place found (least place (f x)) (least place rest))
      ∙ ap (of found) (sym (least-append place (f x) rest))
      ∙ ap (λ y. of found (least place (f y ++ rest))) e
      ∙ ap (λ l. of found (least place (flat_map f l))) (sym (drop_more xs i x h))
      ∙ kept

  pub three : (xs ys zs : List B) (a b c ab abc : Option B) → a ≡ least place xs → b ≡ least place ys → c ≡ least place zs → ab ≡ of a b → abc ≡ of ab c
      → abc ≡ least place (xs ++ ys ++ zs)
  three xs ys zs a b c ab abc p q r s t =
      t ∙ ap (λ o. of o c) s ∙ ap (λ o. of (of o b) c) p ∙ ap (λ o. of (of (least place xs) o) c) q ∙ ap (of (of (least place xs) (least place ys))) r
      ∙ ap (λ o. of o (least place zs)) (sym (least-append place xs ys)) ∙ sym (least-append place (xs ++ ys) zs)
