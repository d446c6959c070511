-- Whether a name is in scope, by the rows in which it is looked up; and what is added in three steps.
use Rattle.std.proofs.Common.{◌≡◌, ℕ, Bool, true, false, ◌||◌, List, [], ◌∷◌, ◌++◌, take, refl, ap, sym, ◌∙◌, append_assoc}
use Rattle.std.specs.Prelude.{if◌then◌else◌, Some, is_some}
use Rattle.pgo_base.specs.Lookup.{Name, same_name, find}
use Rattle.pgo_model.specs.Names.{is_among}
use Rattle.pgo_model.proofs.FirstPlaces.{below_is}
use Rattle.pgo_uses.specs.Names.{Rows, has_row, is_earlier}
use Rattle.pgo_uses.specs.Scopes.{row_names}

pub among_is : (x : Name) (rows : Rows) → has_row x rows ≡ is_among x (row_names rows)
among_is x [] = refl
among_is x (r ∷ rs) = go (same_name x r.0) (among_is x rs)
  where
    go : (b : Bool) → has_row x rs ≡ is_among x (row_names rs) → is_some (if b then Some r.1 else find x rs) ≡ (b || is_among x (row_names rs))
    go true h = refl
    go false h = h

member-append : (x : Name) (xs ys : List Name) → is_among x (xs ++ ys) ≡ is_among x xs || is_among x ys
member-append x [] ys = refl
member-append x (z ∷ zs) ys = go (same_name x z) (member-append x zs ys)
  where
    go : (b : Bool) → is_among x (zs ++ ys) ≡ is_among x zs || is_among x ys → (b || is_among x (zs ++ ys)) ≡ (b || is_among x zs) || is_among x ys
    go true h = refl
    go false h = h

or_swapped : (a b : Bool) → a || b ≡ b || a
or_swapped true true = refl
or_swapped true false = refl
or_swapped false true = refl
or_swapped false false = refl

pub within_has : (x : Name) (ns : List Name) (rows : Rows) (n : ℕ) → is_earlier n x rows || is_among x ns ≡ is_among x (ns ++ take n (row_names rows))
within_has x ns rows n =
    ap (λ b. b || is_among x ns) (below_is (λ r. r.0) x rows n) ∙ or_swapped (is_among x (take n (row_names rows))) (is_among x ns)
    ∙ sym (member-append x ns (take n (row_names rows)))

pub three_joined : {A : Type 0} (before one two p q b x y z : List A) → one ≡ before ++ x → two ≡ one ++ y → x ≡ p → y ≡ q → z ≡ b → two ++ z ≡ before ++ (p ++ q ++ b)
three_joined before one two p q b x y z f g h k l =
    (λ i. g i ++ z) ∙ (λ i. f i ++ y ++ z) ∙ (λ i. before ++ h i ++ k i ++ l i)
    ∙ append_assoc (before ++ p) q b ∙ append_assoc before p (q ++ b) ∙ ap (λ t. before ++ t) (sym (append_assoc p q b))
