-- EXCEPT as a part at a path and a part put there.
use Rattle.std.proofs.Common.{◌≡◌, List, [], ◌∷◌, refl, ap, sym, ◌∙◌}
use Rattle.std.specs.Prelude.{Option, Some, None, option_map, option_and_then}
use Rattle.pgo_base.specs.Data.{Data}
use Rattle.pgo_model.specs.Operators.{graph_of, lookup, replace_at, function_of, put_at}
use Rattle.pgo_eval.specs.Paths.{part_on}

-- f with v at a path
abbrev put_on : List Data → Data → Data → Option Data
put_on path v f = put_at path (λ part. Some v) (Some f)

-- what is put at the path, by the part that is there
abbrev put_of : List Data → (Option Data → Option Data) → Data → Option (Option Data) → Option Data
put_of path new f part = option_and_then (λ v. put_on path v f) (option_and_then new part)

one_at : (is : List Data) (new : Option Data → Option Data) → put_at is new None ≡ new None
one_at [] new = refl
one_at (i ∷ is) new = refl

-- where the index is not in the domain
put_absent : (i : Data) (is : List Data) (v f : Data) (ps : List (Data × Data)) → graph_of f ≡ Some ps → lookup i ps ≡ None → put_on (i ∷ is) v f ≡ Some f
put_absent i is v f ps e k =
    ap (option_and_then (λ qs. elim (lookup i qs) as (λ o. Option Data) [ None ↦ option_map (λ w. f) (put_at is (λ part. Some v) None) | Some part ↦ option_and_then (λ w. function_of (replace_at i w qs)) (put_on is v part) ])) e
    ∙ ap (λ o. elim o as (λ o. Option Data) [ None ↦ option_map (λ w. f) (put_at is (λ part. Some v) None) | Some part ↦ option_and_then (λ w. function_of (replace_at i w ps)) (put_on is v part) ]) k
    ∙ ap (option_map (λ w. f)) (one_at is (λ part. Some v))

-- where it is
put_present : (i : Data) (is : List Data) (v f part : Data) (ps : List (Data × Data)) → graph_of f ≡ Some ps → lookup i ps ≡ Some part → put_on (i ∷ is) v f ≡ option_and_then (λ w. function_of (replace_at i w ps)) (put_on is v part)
put_present i is v f part ps e k =
    ap (option_and_then (λ qs. elim (lookup i qs) as (λ o. Option Data) [ None ↦ option_map (λ w. f) (put_at is (λ part. Some v) None) | Some part ↦ option_and_then (λ w. function_of (replace_at i w qs)) (put_on is v part) ])) e
    ∙ ap (λ o. elim o as (λ o. Option Data) [ None ↦ option_map (λ w. f) (put_at is (λ part. Some v) None) | Some part ↦ option_and_then (λ w. function_of (replace_at i w ps)) (put_on is v part) ]) k

put_step : (i : Data) (is : List Data) (new : Option Data → Option Data) (f : Data) → ((part : Data) → put_at is new (Some part) ≡ put_of is new part (part_on is part)) → put_at (i ∷ is) new (Some f) ≡ put_of (i ∷ is) new f (part_on (i ∷ is) f)
put_step i is new f ih = by_graph (graph_of f) refl
  where
    kept : (ps : List (Data × Data)) → graph_of f ≡ Some ps → lookup i ps ≡ None → (o : Option Data) → option_map (λ v. f) o ≡ option_and_then (λ v. put_on (i ∷ is) v f) o
    kept ps e k None = refl
    kept ps e k (Some v) = sym (put_absent i is v f ps e k)

    replaced : (part : Data) (ps : List (Data × Data)) → graph_of f ≡ Some ps → lookup i ps ≡ Some part → (o : Option Data) → option_and_then (λ w. function_of (replace_at i w ps)) (option_and_then (λ v. put_on is v part) o) ≡ option_and_then (λ v. put_on (i ∷ is) v f) o
    replaced part ps e k None = refl
    replaced part ps e k (Some v) = sym (put_present i is v f part ps e k)

    by_place : (part : Data) (ps : List (Data × Data)) → graph_of f ≡ Some ps → lookup i ps ≡ Some part → (x : Option (Option Data)) → option_and_then (λ w. function_of (replace_at i w ps)) (put_of is new part x) ≡ put_of (i ∷ is) new f x
    by_place part ps e k None = refl
    by_place part ps e k (Some q) = replaced part ps e k (new q)

    by_part : (ps : List (Data × Data)) → graph_of f ≡ Some ps → (l : Option Data) → lookup i ps ≡ l → elim l as (λ o. Option Data) [ None ↦ option_map (λ v. f) (put_at is new None) | Some part ↦ option_and_then (λ v. function_of (replace_at i v ps)) (put_at is new (Some part)) ] ≡ put_of (i ∷ is) new f (elim l as (λ o. Option (Option Data)) [ None ↦ Some None | Some part ↦ part_on is part ])
    by_part ps e None k = ap (option_map (λ v. f)) (one_at is new) ∙ kept ps e k (new None)
    by_part ps e (Some part) k =
        ap (option_and_then (λ v. function_of (replace_at i v ps))) (ih part) ∙ by_place part ps e k (part_on is part)

    by_graph : (g : Option (List (Data × Data))) → graph_of f ≡ g → option_and_then (λ ps. elim (lookup i ps) as (λ o. Option Data) [ None ↦ option_map (λ v. f) (put_at is new None) | Some part ↦ option_and_then (λ v. function_of (replace_at i v ps)) (put_at is new (Some part)) ]) g ≡ put_of (i ∷ is) new f (option_and_then (λ ps. elim (lookup i ps) as (λ o. Option (Option Data)) [ None ↦ Some None | Some part ↦ part_on is part ]) g)
    by_graph None e = refl
    by_graph (Some ps) e = by_part ps e (lookup i ps) refl

-- EXCEPT at a path, by the part that is there
pub put_at_is : (path : List Data) (new : Option Data → Option Data) (f : Data) → put_at path new (Some f) ≡ put_of path new f (part_on path f)
put_at_is [] new f = go (new (Some f))
  where
    go : (o : Option Data) → o ≡ option_and_then (λ v. Some v) o
    go None = refl
    go (Some v) = refl
put_at_is (i ∷ is) new f = put_step i is new f (put_at_is is new)
