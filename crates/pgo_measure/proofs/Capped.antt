-- Heights that are told apart up to a limit.
use Rattle.std.proofs.Common.{◌≡◌, ℕ, suc, max, List, [], ◌∷◌, Option, Some, None, arith, Bool, true, ap, sym, ◌∙◌}
use Rattle.pgo_base.specs.Lookup.{Name}
use Rattle.pgo_measure.specs.Heights.{capped, join, all_joined, items_of, change_height}
use Rattle.pgo_model.specs.Options.{on}

-- a conjunction before which two heights are told apart up to the limit alone
pub all_joined_capped : (a b : ℕ) (hs : List ℕ) → capped a ≡ capped b → capped (all_joined (Some a) hs) ≡ capped (all_joined (Some b) hs)
all_joined_capped a b [] e = e
all_joined_capped a b (h ∷ hs) e = all_joined_capped (suc (max a h)) (suc (max b h)) hs (omega (arith, e))

pub one_more_item : (a : Option ℕ) (h : ℕ) (hs : List ℕ) → capped (all_joined a (h ∷ hs)) ≡ capped (all_joined (Some (capped (join a h))) hs)
one_more_item None h hs = all_joined_capped h (capped h) hs (omega arith)
one_more_item (Some a) h hs = all_joined_capped (suc (max a h)) (capped (suc (max a h))) hs (omega arith)

-- the next variable is assigned
pub assigned_next : (gs : List Name) (ch : List (Name × Name)) (kept : Bool) (a : Option ℕ) (xs : List Name) (x : Name) (rest : List Name) (h : ℕ)
    → xs ≡ x ∷ rest → Some h ≡ change_height gs ch x
    → capped (all_joined a (items_of gs ch kept xs)) ≡ capped (all_joined (Some (capped (join a h))) (items_of gs ch kept rest))
assigned_next gs ch kept a xs x rest h e q =
    ap (λ ys. capped (all_joined a (items_of gs ch kept ys))) e
    ∙ ap (λ o. capped (all_joined a (on (items_of gs ch true rest) o (λ i. i ∷ items_of gs ch kept rest)))) (sym q)
    ∙ one_more_item a h (items_of gs ch kept rest)

-- the next variable is kept
pub kept_next : (gs : List Name) (ch : List (Name × Name)) (kept : Bool) (a : Option ℕ) (xs : List Name) (x : Name) (rest : List Name)
    → xs ≡ x ∷ rest → None ≡ change_height gs ch x
    → capped (all_joined a (items_of gs ch kept xs)) ≡ capped (all_joined a (items_of gs ch true rest))
kept_next gs ch kept a xs x rest e q =
    ap (λ ys. capped (all_joined a (items_of gs ch kept ys))) e
    ∙ ap (λ o. capped (all_joined a (on (items_of gs ch true rest) o (λ i. i ∷ items_of gs ch kept rest)))) (sym q)
