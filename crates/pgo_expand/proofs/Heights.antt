-- Heights that are told apart up to a limit, in lists.
use Rattle.std.proofs.Common.{◌≡◌, ◌<◌, ◌≤◌, ℕ, zero, suc, ◌+◌, max, length, drop, get_or, List, [], ◌∷◌, ◌++◌, map, Option, Some, None, refl, arith, ap, sym, ◌∙◌}
use Rattle.pgo_syntax.specs.declared.declaration.Declaration.{Declaration}
use Rattle.pgo_measure.specs.Heights.{capped, join}
use Rattle.pgo_syntax.specs.declared.archetype.Archetype.{Archetype}
use Rattle.pgo_syntax.specs.declared.process.Process.{Process}
use Rattle.std.specs.List.{flat_map}
use Rattle.std.proofs.lemmas.List.{map-append}
use Rattle.pgo_expand.specs.Items.{capped_items}
use Rattle.pgo_expand.specs.Module.{highest, joined_behind, joined, global_item, own_in, own_item, own_items, start_height, ids_height, place_item, step_height, next_items}

-- what stands before is told apart up to the limit alone
pub joined_alike : (a b : ℕ) (hs : List ℕ) → capped a ≡ capped b → capped (joined_behind (Some a) hs) ≡ capped (joined_behind (Some b) hs)
joined_alike a b [] e = e
joined_alike a b (h ∷ hs) e = joined_alike (suc (max a h)) (suc (max b h)) hs (omega (arith, e))

pub joined_next : (a : Option ℕ) (h : ℕ) (hs : List ℕ) → capped (joined_behind a (h ∷ hs)) ≡ capped (joined_behind (Some (capped (join a h))) hs)
joined_next None h hs = joined_alike h (capped h) hs (omega arith)
joined_next (Some a) h hs = joined_alike (suc (max a h)) (capped (suc (max a h))) hs (omega arith)

joined_capped_behind : (a b : ℕ) (hs : List ℕ) → capped a ≡ capped b → capped (joined_behind (Some a) (map capped hs)) ≡ capped (joined_behind (Some b) hs)
joined_capped_behind a b [] e = e
joined_capped_behind a b (h ∷ hs) e = joined_capped_behind (suc (max a (capped h))) (suc (max b h)) hs (omega (arith, e))

pub joined_capped : (hs : List ℕ) → capped (joined (map capped hs)) ≡ capped (joined hs)
joined_capped [] = refl
joined_capped (h ∷ hs) = joined_capped_behind (capped h) h hs (omega arith)

pub highest_capped : (hs : List ℕ) → highest (map capped hs) ≡ capped (highest hs)
highest_capped [] = refl
highest_capped (h ∷ hs) = let e = highest_capped hs in omega (arith, e)

-- lists whose heights are told apart up to the limit alone
pub joined_same : (xs ys : List ℕ) → map capped xs ≡ map capped ys → capped (joined xs) ≡ capped (joined ys)
joined_same xs ys e = sym (joined_capped xs) ∙ ap (λ hs. capped (joined hs)) e ∙ joined_capped ys

pub highest-append : (xs ys : List ℕ) → highest (xs ++ ys) ≡ max (highest xs) (highest ys)
highest-append [] ys = omega arith
highest-append (x ∷ xs) ys = omega (arith, highest-append xs ys)

capped_twice : (h : ℕ) → capped (capped h) ≡ capped h
capped_twice h = omega arith

-- ---- Init

pub globals_capped : (ds : List Declaration) → map capped (map (λ d. capped (global_item d)) ds) ≡ map capped (map global_item ds)
globals_capped [] = refl
globals_capped (d ∷ ds) = (λ i. capped_twice (global_item d) i ∷ globals_capped ds i)

own_twice : (i s : ℕ) → capped (capped (own_item (capped i) s)) ≡ capped (own_item i s)
own_twice i s = omega arith

own_capped : (i : ℕ) (ds : List Declaration)
    → map capped (map (λ d. capped (own_item (capped i) (start_height d.initial))) ds) ≡ map capped (map (λ d. own_item i (start_height d.initial)) ds)
own_capped i [] = refl
own_capped i (d ∷ ds) = (λ j. own_twice i (start_height d.initial) j ∷ own_capped i ds j)

pub items_capped : (as' : List Archetype) (ps : List Process)
    → map capped (capped_items (map capped (map (λ p. ids_height p.ids) ps)) (map (own_in as') ps)) ≡ map capped (flat_map (own_items as') ps)
items_capped as' [] = refl
items_capped as' (p ∷ ps) =
    map-append capped (map (λ d. capped (own_item (capped (ids_height p.ids)) (start_height d.initial))) (own_in as' p)) (capped_items (map capped (map (λ q. ids_height q.ids) ps)) (map (own_in as') ps))
    ∙ (λ i. own_capped (ids_height p.ids) (own_in as' p) i ++ items_capped as' ps i)
    ∙ sym (map-append capped (own_items as' p) (flat_map (own_items as') ps))

pub place_capped : (hs : List ℕ) → capped (capped (place_item (map capped hs))) ≡ capped (place_item hs)
place_capped hs = let e = highest_capped hs in omega (arith, e)

pub ids_capped : (ps : List Process) → map (λ p. capped (ids_height p.ids)) ps ≡ map capped (map (λ p. ids_height p.ids) ps)
ids_capped [] = refl
ids_capped (p ∷ ps) = ap (λ hs. capped (ids_height p.ids) ∷ hs) (ids_capped ps)

pub init_same : (ds : List Declaration) (is : List ℕ) (as' : List Archetype) (ps : List Process) → is ≡ map capped (map (λ p. ids_height p.ids) ps)
    → map capped ((map (λ d. capped (global_item d)) ds ++ (capped (place_item is) ∷ [])) ++ capped_items is (map (own_in as') ps))
    ≡ map capped (map global_item ds ++ (place_item (map (λ p. ids_height p.ids) ps) ∷ []) ++ flat_map (own_items as') ps)
init_same ds is as' ps e =
    ap (λ js. map capped ((map (λ d. capped (global_item d)) ds ++ (capped (place_item js) ∷ [])) ++ capped_items js (map (own_in as') ps))) e
    ∙ map-append capped (map (λ d. capped (global_item d)) ds ++ (capped (place_item ids) ∷ [])) (capped_items ids (map (own_in as') ps))
    ∙ (λ i. (map-append capped (map (λ d. capped (global_item d)) ds) (capped (place_item ids) ∷ []) ∙ (λ j. globals_capped ds j ++ (place_capped (map (λ p. ids_height p.ids) ps) j ∷ []))) i ++ items_capped as' ps i)
    ∙ ap (λ l. l ++ map capped (flat_map (own_items as') ps)) (sym (map-append capped (map global_item ds) (place_item (map (λ p. ids_height p.ids) ps) ∷ [])))
    ∙ sym (map-append capped (map global_item ds ++ (place_item (map (λ p. ids_height p.ids) ps) ∷ [])) (flat_map (own_items as') ps))
  where
    ids : List ℕ
    ids = map capped (map (λ p. ids_height p.ids) ps)

-- ---- items one after the other

pub drop_at : {A : Type 0} (xs : List A) (i : ℕ) (d : A) → i < length xs → drop i xs ≡ get_or xs i d ∷ drop (i + 1) xs
drop_at [] i d h = absurd (omega (arith, h))
drop_at (x ∷ xs) zero d h = refl
drop_at (x ∷ xs) (suc i) d h =
    drop_at xs i d (omega (arith, h)) ∙ ap (λ k. get_or xs i d ∷ drop k (x ∷ xs)) (let q : suc (i + 1) ≡ suc i + 1 = omega arith in q)

pub drop_end : {A : Type 0} (xs : List A) (i : ℕ) → length xs ≤ i → drop i xs ≡ []
drop_end [] zero h = refl
drop_end [] (suc i) h = refl
drop_end (x ∷ xs) zero h = absurd (omega (arith, h))
drop_end (x ∷ xs) (suc i) h = drop_end xs i (omega (arith, h))

pub items_at : (is : List ℕ) (own : List (List Declaration)) (i : ℕ) (d : List Declaration) → i < length own → length is ≡ length own
    → capped_items (drop i is) (drop i own) ≡ map (λ e. capped (own_item (get_or is i 0) (start_height e.initial))) (get_or own i d) ++ capped_items (drop (i + 1) is) (drop (i + 1) own)
items_at is own i d h e =
    (λ j. capped_items (drop_at is i 0 (let q : i < length is = omega (arith, h, e) in q) j) (drop_at own i d h j))

capped_max : (a b : ℕ) → capped (max a b) ≡ max (capped a) (capped b)
capped_max a b = omega arith

outer : (x s d : ℕ) → max (max (max x s) 5) d ≡ max 5 (max s (max x d))
outer x s d = omega arith

inner : (i n d : ℕ) → max (max i n) d ≡ max i (max n d)
inner i n d = omega arith

pub all_heads : (init next sets definitions i n s : ℕ) → i ≡ capped init → n ≡ capped next → s ≡ capped sets
    → max (max (max (max i n) s) 5) (capped definitions) ≡ capped (max 5 (max sets (max init (max next definitions))))
all_heads init next sets definitions i n s a b c =
    outer (max i n) s (capped definitions)
    ∙ ap (λ x. max 5 (max s x)) (inner i n (capped definitions))
    ∙ (λ j. max 5 (max (c j) (max (a j) (max (b j) (capped definitions)))))
    ∙ ap (λ x. max 5 (max (capped sets) (max (capped init) x))) (sym (capped_max next definitions))
    ∙ ap (λ x. max 5 (max (capped sets) x)) (sym (capped_max init (max next definitions)))
    ∙ ap (λ x. max 5 x) (sym (capped_max sets (max init (max next definitions))))
    ∙ sym (capped_max 5 (max sets (max init (max next definitions))))

-- ---- Next

step_twice : (h : ℕ) → capped (capped (step_height h)) ≡ capped (step_height h)
step_twice h = omega arith

step_capped : (h : ℕ) → capped (step_height (capped h)) ≡ capped (step_height h)
step_capped h = omega arith

pub steps_twice : (hs : List ℕ) → map capped (map (λ h. capped (step_height h)) hs ++ 1 ∷ []) ≡ map capped (next_items hs)
steps_twice [] = refl
steps_twice (h ∷ hs) = (λ i. step_twice h i ∷ steps_twice hs i)

pub steps_capped : (hs : List ℕ) → map capped (next_items (map capped hs)) ≡ map capped (next_items hs)
steps_capped [] = refl
steps_capped (h ∷ hs) = (λ i. step_capped h i ∷ steps_capped hs i)

-- ---- the whole

pub more_definitions : (b x : ℕ) (hs gs : List ℕ) → x ≡ max b (capped (highest hs)) → max x (capped (highest gs)) ≡ max b (capped (highest (hs ++ gs)))
more_definitions b x hs gs e = let a = highest-append hs gs in omega (arith, a, e)
