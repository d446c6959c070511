-- Graphs with the same keys, each once, and the same values are one.
use Rattle.std.proofs.Common.{◌≡◌, Bool, true, false, if◌then◌else◌, List, [], ◌∷◌, Some, refl, sym, ap, ◌∙◌, subst, inl, inr}
use Rattle.std.specs.List.Sorted.{IsStrictlySortedBy}
use Rattle.std.specs.declared.cmp.Ordering.TheVariants.{Less}
use Rattle.std.proofs.lemmas.Option.{same_Some}
use Rattle.pgo_base.specs.Data.{Data, keys}
use Rattle.pgo_base.specs.Exact.{data_itself}
use Rattle.pgo_base.specs.Order.{data_cmp}
use Rattle.pgo_base.specs.Sets.{IsSorted}
use Rattle.pgo_model.specs.Operators.{same_data, lookup}
use Rattle.pgo_bound.specs.Among.{IsAmong, all_at}
use Rattle.pgo_bound.specs.Lookups.{same_of, same_itself, same_equal}
use Rattle.pgo_bound.specs.Once.{StandOnce}

pub sorted_once : (xs : List Data) → IsSorted xs → StandOnce xs
unfolding IsStrictlySortedBy
sorted_once [] s = tt
sorted_once (x ∷ xs) s = (λ h. let k = all_at (λ y. data_cmp x y ≡ Less) x xs s.0 h in let i = data_itself x in absurd (cc), sorted_once xs s.1)

pub cons_first : {A : Type 0} (x y : A) (xs ys : List A) → x ∷ xs ≡ y ∷ ys → x ≡ y
cons_first x y xs ys h = cc

pub cons_rest : {A : Type 0} (x y : A) (xs ys : List A) → x ∷ xs ≡ y ∷ ys → xs ≡ ys
cons_rest x y xs ys h = cc

pub same_graph : (as' bs : List (Data × Data)) → keys as' ≡ keys bs → StandOnce (keys as') → ((k : Data) → IsAmong k (keys as') → lookup k as' ≡ lookup k bs) → as' ≡ bs
same_graph [] [] e o f = refl
same_graph [] (b ∷ bs) e o f = absurd (cc)
same_graph (a ∷ as') [] e o f = absurd (cc)
same_graph (a ∷ as') (b ∷ bs) e o f =
    let k = cons_first a.0 b.0 (keys as') (keys bs) e in
    let v : Some a.1 ≡ Some b.1 = ap (λ c. if c then Some a.1 else lookup a.0 as') (sym (same_itself a.0)) ∙ f a.0 (inl refl) ∙ ap (λ c. if c then Some b.1 else lookup a.0 bs) (same_equal a.0 b.0 k) in
    let w = same_Some a.1 b.1 v in
    λ i. (k i, w i) ∷ same_graph as' bs (cons_rest a.0 b.0 (keys as') (keys bs) e) o.1 (λ q m. pass q m (f q (inr m))) i
  where
    pass : (q : Data) → IsAmong q (keys as') → lookup q (a ∷ as') ≡ lookup q (b ∷ bs) → lookup q as' ≡ lookup q bs
    pass q m h =
        let c : same_data q a.0 ≡ false = apart q m (same_data q a.0) refl in
        let d : same_data q b.0 ≡ false = ap (same_data q) (sym (cons_first a.0 b.0 (keys as') (keys bs) e)) ∙ c in
        ap (λ z. if z then Some a.1 else lookup q as') (sym c) ∙ h ∙ ap (λ z. if z then Some b.1 else lookup q bs) d
      where
        apart : (q : Data) → IsAmong q (keys as') → (z : Bool) → same_data q a.0 ≡ z → z ≡ false
        apart q m true g = absurd (o.0 (subst (λ y. IsAmong y (keys as')) (same_of q a.0 g) m))
        apart q m false g = refl
