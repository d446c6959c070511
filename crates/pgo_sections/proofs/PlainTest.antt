-- Code that passes the test has well-formed names.
use Rattle.std.proofs.Common.{◌≡◌, ℕ, zero, suc, ◌+◌, ◌/◌, ◌%◌, ◌<◌, ◌==◌, Bool, true, false, not, ◌&&◌, ◌||◌, if◌then◌else◌, nat_eq, nat_lt, is_some, is_none, List, [], ◌∷◌, ◌++◌, Option, Some, None, ◌⊎◌, refl, sym, ap, ◌∙◌, arith, inl, inr, mod-lt, append_assoc, decimal}
use Rattle.std.specs.List.{AllByRecursion}
use Rattle.std.specs.Fmt.{digit_glyph, digits_onto, digits}
use Rattle.std.proofs.lemmas.Bool.{and_parts}
use Rattle.pgo_base.specs.Lookup.{Name, same_name, find}
use Rattle.pgo_base.specs.Tree.{Tree, name, primed, number, text, truth, at, word, unary, binary, product, cond_of, case_of, case_other, let_in, quantified, choose, tuple, set_of, filter_of, image, fun_of, fun_set, record_of, record_set, except, index, field, call, unchanged, Trees, no_trees, more_trees, NamedTrees, no_named, more_named, TreePairs, no_arms, more_arms, BoundTrees, no_bound, more_bound, PathTrees, no_paths, more_paths}
use Rattle.pgo_model.specs.ValueText.{is_digit, all_digits}
use Rattle.pgo_model.specs.Names.{AreDifferent, same_name-is, is_among}
use Rattle.pgo_model.specs.Written.{made, self_name}
use Rattle.pgo_sections.specs.Code.{Place, Code, Empty, Skip, Let, Pick, Become, Set, Await, Assert, Print, If, Either, Seq, Goto, Yield, Read, Write, Codes, no_codes, more_codes, content_name, content_places, value_name}
use Rattle.pgo_sections.specs.Plain.{All, Plain, PlainAll, PlainArms, PlainFields, PlainLet, PlainBound, PlainPaths}
use Rattle.pgo_sections.specs.PlainTest.{digits_behind, looks_made, all_names, is_plain, plain_all, plain_arms, plain_fields, plain_let, plain_bound, plain_paths, is_bindable, is_alone, is_applied, plain_tree, known_index, plain_code, plain_codes, distinct_names, is_written, is_place, all_places, NamesTestIsSound}
use Rattle.pgo_sections.specs.WellFormed.{NotMade, Bindable, Alone, Applied, PlainTree, KnownIndex, PlainCode, PlainCodes}

not_true : (a : Bool) → not a ≡ true → a ≡ false
not_true true h = absurd (grind (arith, h))
not_true false h = refl

or_cases : (a b : Bool) → a || b ≡ true → (a ≡ true) ⊎ (b ≡ true)
or_cases true b h = inl refl
or_cases false b h = inr h

or_right : (a b : Bool) → b ≡ true → a || b ≡ true
or_right true b h = refl
or_right false b h = h

digit_code : (d : ℕ) → d < 10 → is_digit (digit_glyph false d) ≡ true
digit_code d h = go (nat_lt d 10) refl
  where
    go : (b : Bool) → nat_lt d 10 ≡ b → is_digit (if b then 48 + d else (if false then 55 + d else 87 + d)) ≡ true
    go true e = grind (arith, h)
    go false e = absurd (grind (arith, h, e))

onto_digits : (k n : ℕ) (acc : List ℕ) → all_digits acc ≡ true → all_digits (digits_onto k 10 false n acc) ≡ true
onto_digits zero n acc h = h
onto_digits (suc k) n acc h =
    let here : all_digits (digit_glyph false (n % 10) ∷ acc) ≡ true = (let pos : 0 < 10 = omega arith in ap (λ b. b && all_digits acc) (digit_code (n % 10) (mod-lt n pos)) ∙ h) in
    go (n / 10 == 0) here (onto_digits k (n / 10) (digit_glyph false (n % 10) ∷ acc) here)
  where
    go : (b : Bool) → all_digits (digit_glyph false (n % 10) ∷ acc) ≡ true → all_digits (digits_onto k 10 false (n / 10) (digit_glyph false (n % 10) ∷ acc)) ≡ true → all_digits (if b then digit_glyph false (n % 10) ∷ acc else digits_onto k 10 false (n / 10) (digit_glyph false (n % 10) ∷ acc)) ≡ true
    go true x y = x
    go false x y = y

decimal_digits : (n : ℕ) → all_digits (decimal n) ≡ true
unfolding digits
decimal_digits n = onto_digits 64 n [] refl

made_looks : (b ds : List ℕ) → all_digits ds ≡ true → looks_made (b ++ 95 ∷ 95 ∷ ds) ≡ true
made_looks [] ds h = ap (λ x. x || looks_made (95 ∷ ds)) h
made_looks (x ∷ b) ds h = or_right (nat_eq x 95 && digits_behind (b ++ 95 ∷ 95 ∷ ds)) (looks_made (b ++ 95 ∷ 95 ∷ ds)) (made_looks b ds h)

pub not_made : (x : Name) → looks_made x ≡ false → NotMade x
not_made x h b m = go (same_name x (made b m)) refl
  where
    go : (t : Bool) → same_name x (made b m) ≡ t → same_name x (made b m) ≡ false
    go true e =
        absurd (let p : looks_made x ≡ true = ap looks_made (same_name-is x (made b m) e ∙ append_assoc b (95 ∷ 95 ∷ []) (decimal m)) ∙ made_looks b (decimal m) (decimal_digits m) in grind (arith, p, h))
    go false e = e

all_sound : (f : Name → Bool) (F : Name → Type 0) → ((x : Name) → f x ≡ true → F x) → (xs : List Name) → all_names f xs ≡ true → All F xs
all_sound f F s [] h = tt
all_sound f F s (x ∷ xs) h = let p = and_parts (f x) (all_names f xs) h in (s x p.0, all_sound f F s xs p.1)

module _ (n c b : Name → Bool) (N C B : Name → Type 0) (sn : (x : Name) → n x ≡ true → N x) (sc : (x : Name) → c x ≡ true → C x) (sb : (x : Name) → b x ≡ true → B x) where
  mutual
    tree_sound : (e : Tree) → is_plain n c b e ≡ true → Plain N C B e
    tree_sound (name x) h = sn x h
    tree_sound (primed x) h = absurd (grind (arith, h))
    tree_sound (number z) h = tt
    tree_sound (text s) h = tt
    tree_sound (truth u) h = tt
    tree_sound at h = tt
    tree_sound (word w) h = tt
    tree_sound (unary o x) h = tree_sound x h
    tree_sound (binary o x y) h = let p = and_parts (is_plain n c b x) (is_plain n c b y) h in (tree_sound x p.0, tree_sound y p.1)
    tree_sound (product ts) h = trees_sound ts h
    tree_sound (cond_of u x y) h =
        let p = and_parts (is_plain n c b u) (is_plain n c b x && is_plain n c b y) h in let q = and_parts (is_plain n c b x) (is_plain n c b y) p.1 in (tree_sound u p.0, tree_sound x q.0, tree_sound y q.1)
    tree_sound (case_of gs) h = arms_sound gs h
    tree_sound (case_other gs e) h = let p = and_parts (plain_arms n c b gs) (is_plain n c b e) h in (arms_sound gs p.0, tree_sound e p.1)
    tree_sound (let_in ds e) h = let p = and_parts (plain_let n c b ds) (is_plain n c b e) h in (let_sound ds p.0, tree_sound e p.1)
    tree_sound (quantified q bs e) h = let p = and_parts (plain_bound n c b bs) (is_plain n c b e) h in (bound_sound bs p.0, tree_sound e p.1)
    tree_sound (choose x r e) h =
        let p = and_parts (b x) (is_plain n c b r && is_plain n c b e) h in let q = and_parts (is_plain n c b r) (is_plain n c b e) p.1 in (sb x p.0, tree_sound r q.0, tree_sound e q.1)
    tree_sound (tuple ts) h = trees_sound ts h
    tree_sound (set_of ts) h = trees_sound ts h
    tree_sound (filter_of x r e) h =
        let p = and_parts (b x) (is_plain n c b r && is_plain n c b e) h in let q = and_parts (is_plain n c b r) (is_plain n c b e) p.1 in (sb x p.0, tree_sound r q.0, tree_sound e q.1)
    tree_sound (image e x r) h =
        let p = and_parts (b x) (is_plain n c b r && is_plain n c b e) h in let q = and_parts (is_plain n c b r) (is_plain n c b e) p.1 in (sb x p.0, tree_sound r q.0, tree_sound e q.1)
    tree_sound (fun_of bs e) h = let p = and_parts (plain_bound n c b bs) (is_plain n c b e) h in (bound_sound bs p.0, tree_sound e p.1)
    tree_sound (fun_set x y) h = let p = and_parts (is_plain n c b x) (is_plain n c b y) h in (tree_sound x p.0, tree_sound y p.1)
    tree_sound (record_of ds) h = fields_sound ds h
    tree_sound (record_set ds) h = fields_sound ds h
    tree_sound (except f us) h = let p = and_parts (is_plain n c b f) (plain_paths n c b us) h in (tree_sound f p.0, paths_sound us p.1)
    tree_sound (index f ts) h = let p = and_parts (is_plain n c b f) (plain_all n c b ts) h in (tree_sound f p.0, trees_sound ts p.1)
    tree_sound (field r x) h = tree_sound r h
    tree_sound (call x ts) h = let p = and_parts (c x) (plain_all n c b ts) h in (sc x p.0, trees_sound ts p.1)
    tree_sound (unchanged xs) h = absurd (grind (arith, h))

    trees_sound : (ts : Trees) → plain_all n c b ts ≡ true → PlainAll N C B ts
    trees_sound no_trees h = tt
    trees_sound (more_trees t ts) h = let p = and_parts (is_plain n c b t) (plain_all n c b ts) h in (tree_sound t p.0, trees_sound ts p.1)

    arms_sound : (gs : TreePairs) → plain_arms n c b gs ≡ true → PlainArms N C B gs
    arms_sound no_arms h = tt
    arms_sound (more_arms g e gs) h =
        let p = and_parts (is_plain n c b g) (is_plain n c b e && plain_arms n c b gs) h in let q = and_parts (is_plain n c b e) (plain_arms n c b gs) p.1 in (tree_sound g p.0, tree_sound e q.0, arms_sound gs q.1)

    fields_sound : (ds : NamedTrees) → plain_fields n c b ds ≡ true → PlainFields N C B ds
    fields_sound no_named h = tt
    fields_sound (more_named x t ts) h = let p = and_parts (is_plain n c b t) (plain_fields n c b ts) h in (tree_sound t p.0, fields_sound ts p.1)

    let_sound : (ds : NamedTrees) → plain_let n c b ds ≡ true → PlainLet N C B ds
    let_sound no_named h = tt
    let_sound (more_named x t ts) h =
        let p = and_parts (b x) (is_plain n c b t && plain_let n c b ts) h in let q = and_parts (is_plain n c b t) (plain_let n c b ts) p.1 in (sb x p.0, tree_sound t q.0, let_sound ts q.1)

    bound_sound : (bs : BoundTrees) → plain_bound n c b bs ≡ true → PlainBound N C B bs
    bound_sound no_bound h = tt
    bound_sound (more_bound xs r bs) h =
        let p = and_parts (all_names b xs) (is_plain n c b r && plain_bound n c b bs) h in let q = and_parts (is_plain n c b r) (plain_bound n c b bs) p.1 in (all_sound b B sb xs p.0, tree_sound r q.0, bound_sound bs q.1)

    paths_sound : (us : PathTrees) → plain_paths n c b us ≡ true → PlainPaths N C B us
    paths_sound no_paths h = tt
    paths_sound (more_paths ps e us) h =
        let p = and_parts (plain_all n c b ps) (is_plain n c b e && plain_paths n c b us) h in let q = and_parts (is_plain n c b e) (plain_paths n c b us) p.1 in (trees_sound ps p.0, tree_sound e q.0, paths_sound us q.1)

module _ (vs : List Name) where
  bindable_sound : (x : Name) → is_bindable vs x ≡ true → Bindable vs x
  bindable_sound x h =
      let p = and_parts (not (looks_made x)) (not (is_among x vs) && not (same_name x self_name)) h in
      let q = and_parts (not (is_among x vs)) (not (same_name x self_name)) p.1 in
      (not_made x (not_true (looks_made x) p.0), not_true (is_among x vs) q.0, not_true (same_name x self_name) q.1)

  some_place : (o : Option Place) → is_some o ≡ true → (p : Place) × (o ≡ Some p)
  some_place None h = absurd (grind (arith, h))
  some_place (Some p) h = (p, refl)

  none_place : (o : Option Place) → is_none o ≡ true → o ≡ None
  none_place None h = refl
  none_place (Some p) h = absurd (grind (arith, h))

  alone_sound : (ps : List (Name × Place)) (ws : List Name) (x : Name) → is_alone vs ps ws x ≡ true → Alone vs ps ws x
  alone_sound ps ws x h =
      let p = and_parts (not (looks_made x)) (is_among x ws || (is_some (find x ps) || not (is_among x vs))) h in
      (not_made x (not_true (looks_made x) p.0), known (or_cases (is_among x ws) (is_some (find x ps) || not (is_among x vs)) p.1))
    where
      place : (is_some (find x ps) ≡ true) ⊎ (not (is_among x vs) ≡ true) → ((p : Place) × (find x ps ≡ Some p)) ⊎ (is_among x vs ≡ false)
      place (inl s) = inl (some_place (find x ps) s)
      place (inr s) = inr (not_true (is_among x vs) s)

      known : (is_among x ws ≡ true) ⊎ (is_some (find x ps) || not (is_among x vs) ≡ true) → (is_among x ws ≡ true) ⊎ (((p : Place) × (find x ps ≡ Some p)) ⊎ (is_among x vs ≡ false))
      known (inl s) = inl s
      known (inr s) = inr (place (or_cases (is_some (find x ps)) (not (is_among x vs)) s))

  applied_sound : (ps : List (Name × Place)) (ws : List Name) (x : Name) → is_applied vs ps ws x ≡ true → Applied vs ps ws x
  applied_sound ps ws x h =
      let p = and_parts (not (looks_made x)) (not (is_among x vs) && (is_none (find x ps) && (not (is_among x ws) && not (same_name x self_name)))) h in
      let q = and_parts (not (is_among x vs)) (is_none (find x ps) && (not (is_among x ws) && not (same_name x self_name))) p.1 in
      let r = and_parts (is_none (find x ps)) (not (is_among x ws) && not (same_name x self_name)) q.1 in
      let u = and_parts (not (is_among x ws)) (not (same_name x self_name)) r.1 in
      (not_made x (not_true (looks_made x) p.0), not_true (is_among x vs) q.0, none_place (find x ps) r.0, not_true (is_among x ws) u.0, not_true (same_name x self_name) u.1)

  plain_sound : (ps : List (Name × Place)) (ws : List Name) (e : Tree) → plain_tree vs ps ws e ≡ true → PlainTree vs ps ws e
  plain_sound ps ws e h =
      tree_sound (is_alone vs ps ws) (is_applied vs ps ws) (is_bindable vs) (Alone vs ps ws) (Applied vs ps ws) (Bindable vs) (λ x k. alone_sound ps ws x k) (λ x k. applied_sound ps ws x k) bindable_sound e h

  index_sound : (ws : List Name) (i : Option Name) → known_index vs ws i ≡ true → KnownIndex ws i
  index_sound ws None h = tt
  index_sound ws (Some i) h = h

  mutual
    pub code_sound : (gs : List Name) (ps : List (Name × Place)) (ws : List Name) (c : Code) → plain_code vs gs ps ws c ≡ true → PlainCode vs gs ps ws c
    code_sound gs ps ws Empty h = tt
    code_sound gs ps ws Skip h = tt
    code_sound gs ps ws (Let b w e c) h =
        let p = and_parts (plain_tree vs ps ws e) (plain_code vs gs ps (w ∷ ws) c) h in (plain_sound ps ws e p.0, code_sound gs ps (w ∷ ws) c p.1)
    code_sound gs ps ws (Pick b w e c) h =
        let p = and_parts (plain_tree vs ps ws e) (plain_code vs gs ps (w ∷ ws) c) h in (plain_sound ps ws e p.0, code_sound gs ps (w ∷ ws) c p.1)
    code_sound gs ps ws (Become p w) h = h
    code_sound gs ps ws (Set b p e) h = plain_sound ps ws e h
    code_sound gs ps ws (Await e) h = plain_sound ps ws e h
    code_sound gs ps ws (Assert e) h = plain_sound ps ws e h
    code_sound gs ps ws (Print e) h = plain_sound ps ws e h
    code_sound gs ps ws (If e x y) h =
        let p = and_parts (plain_tree vs ps ws e) (plain_code vs gs ps ws x && plain_code vs gs ps ws y) h in
        let q = and_parts (plain_code vs gs ps ws x) (plain_code vs gs ps ws y) p.1 in
        (plain_sound ps ws e p.0, code_sound gs ps ws x q.0, code_sound gs ps ws y q.1)
    code_sound gs ps ws (Either cs) h = codes_sound gs ps ws cs h
    code_sound gs ps ws (Seq x y) h =
        let p = and_parts (plain_code vs gs ps ws x) (plain_code vs gs ps ws y) h in (code_sound gs ps ws x p.0, code_sound gs ps ws y p.1)
    code_sound gs ps ws (Goto l) h = tt
    code_sound gs ps ws (Yield e) h = plain_sound ps ws e h
    code_sound gs ps ws (Read w g i m c) h =
        let p = and_parts (is_among g gs) (known_index vs ws i && (plain_code vs (content_name ∷ []) content_places [] m && plain_code vs gs ps (w ∷ ws) c)) h in
        let q = and_parts (known_index vs ws i) (plain_code vs (content_name ∷ []) content_places [] m && plain_code vs gs ps (w ∷ ws) c) p.1 in
        let r = and_parts (plain_code vs (content_name ∷ []) content_places [] m) (plain_code vs gs ps (w ∷ ws) c) q.1 in
        (p.0, index_sound ws i q.0, code_sound (content_name ∷ []) content_places [] m r.0, code_sound gs ps (w ∷ ws) c r.1)
    code_sound gs ps ws (Write g i w m) h =
        let p = and_parts (is_among g gs) (known_index vs ws i && (is_among w ws && plain_code vs (content_name ∷ []) content_places (value_name ∷ []) m)) h in
        let q = and_parts (known_index vs ws i) (is_among w ws && plain_code vs (content_name ∷ []) content_places (value_name ∷ []) m) p.1 in
        let r = and_parts (is_among w ws) (plain_code vs (content_name ∷ []) content_places (value_name ∷ []) m) q.1 in
        (p.0, index_sound ws i q.0, r.0, code_sound (content_name ∷ []) content_places (value_name ∷ []) m r.1)

    codes_sound : (gs : List Name) (ps : List (Name × Place)) (ws : List Name) (cs : Codes) → plain_codes vs gs ps ws cs ≡ true → PlainCodes vs gs ps ws cs
    codes_sound gs ps ws no_codes h = tt
    codes_sound gs ps ws (more_codes c cs) h =
        let p = and_parts (plain_code vs gs ps ws c) (plain_codes vs gs ps ws cs) h in (code_sound gs ps ws c p.0, codes_sound gs ps ws cs p.1)

all_among : (f : Name → Bool) (vs : List Name) → all_names f vs ≡ true → (x : Name) → is_among x vs ≡ true → f x ≡ true
all_among f [] h x is = absurd (grind (arith, is))
all_among f (y ∷ vs) h x is = let p = and_parts (f y) (all_names f vs) h in go (same_name x y) refl is p.0 (λ k. all_among f vs p.1 x k)
  where
    go : (b : Bool) → same_name x y ≡ b → b || is_among x vs ≡ true → f y ≡ true → (is_among x vs ≡ true → f x ≡ true) → f x ≡ true
    go true e k fy more = ap f (same_name-is x y e) ∙ fy
    go false e k fy more = more k

all_apart : (x : Name) (ys : List Name) → is_among x ys ≡ false → AllByRecursion (λ y. same_name x y ≡ false) ys
all_apart x [] h = tt
all_apart x (y ∷ ys) h = go (same_name x y) refl h (all_apart x ys)
  where
    go : (b : Bool) → same_name x y ≡ b → b || is_among x ys ≡ false → (is_among x ys ≡ false → AllByRecursion (λ y. same_name x y ≡ false) ys) → AllByRecursion (λ y. same_name x y ≡ false) (y ∷ ys)
    go true e k more = absurd (grind (arith, k))
    go false e k more = (e, more k)

distinct_sound : (vs : List Name) → distinct_names vs ≡ true → AreDifferent vs
distinct_sound [] h = tt
distinct_sound (x ∷ xs) h = let p = and_parts (not (is_among x xs)) (distinct_names xs) h in (all_apart x xs (not_true (is_among x xs) p.0), distinct_sound xs p.1)

places_sound : (gs os : List Name) (ps : List (Name × Place)) → all_places gs os ps ≡ true → (x : Name) (p : Place) → find x ps ≡ Some p → is_place gs os p ≡ true
places_sound gs os [] h x p e = absurd (grind (arith, e))
places_sound gs os (q ∷ ps) h x p e = let r = and_parts (is_place gs os q.1) (all_places gs os ps) h in go (same_name x q.0) e r.0 (λ k. places_sound gs os ps r.1 x p k)
  where
    place_or : Place → Option Place → Place
    place_or d None = d
    place_or d (Some z) = z

    go : (b : Bool) → (if b then Some q.1 else find x ps) ≡ Some p → is_place gs os q.1 ≡ true → (find x ps ≡ Some p → is_place gs os p ≡ true) → is_place gs os p ≡ true
    go true e here more = ap (λ o. elim o as (λ o. Bool) [ None ↦ true | Some z ↦ is_place gs os z ]) (sym e) ∙ here
    go false e here more = more e

pub names_sound : NamesTestIsSound
names_sound vs gs os ps h =
    let a = and_parts (distinct_names vs) (all_names is_written vs && (all_names (λ x. is_among x vs) gs && (all_names (λ x. is_among x vs) os && all_places gs os ps))) h in
    let b = and_parts (all_names is_written vs) (all_names (λ x. is_among x vs) gs && (all_names (λ x. is_among x vs) os && all_places gs os ps)) a.1 in
    let c = and_parts (all_names (λ x. is_among x vs) gs) (all_names (λ x. is_among x vs) os && all_places gs os ps) b.1 in
    let d = and_parts (all_names (λ x. is_among x vs) os) (all_places gs os ps) c.1 in
    record {
      distinct = distinct_sound vs a.0;
      written = λ x is. (let w = and_parts (not (looks_made x)) (not (same_name x self_name)) (all_among is_written vs b.0 x is) in
          (not_made x (not_true (looks_made x) w.0), not_true (same_name x self_name) w.1));
      globals = λ x is. all_among (λ x. is_among x vs) gs c.0 x is;
      owns = λ x is. all_among (λ x. is_among x vs) os d.0 x is;
      places = places_sound gs os ps d.1;
    }
