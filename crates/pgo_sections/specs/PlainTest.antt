-- A test for code whose names are well formed.
use Rattle.std.specs.Prelude.{◌≡◌, ℕ, Bool, true, false, not, ◌&&◌, ◌||◌, nat_eq, is_some, is_none, List, [], ◌∷◌, Option, Some, None}
use Rattle.pgo_base.specs.Lookup.{Name, same_name, find}
use Rattle.pgo_base.specs.Tree.{Tree, name, primed, number, text, truth, at, word, unary, binary, product, cond_of, case_of, case_other, let_in, quantified, choose, tuple, set_of, filter_of, image, fun_of, fun_set, record_of, record_set, except, index, field, call, unchanged, Trees, no_trees, more_trees, NamedTrees, no_named, more_named, TreePairs, no_arms, more_arms, BoundTrees, no_bound, more_bound, PathTrees, no_paths, more_paths}
use Rattle.pgo_model.specs.Names.{AreDifferent, is_among}
use Rattle.pgo_model.specs.ValueText.{all_digits}
use Rattle.pgo_model.specs.Written.{self_name}
use Rattle.pgo_sections.specs.Code.{Place, Whole, Own, Code, Empty, Skip, Let, Pick, Become, Set, Await, Assert, Print, If, Either, Seq, Goto, Yield, Read, Write, Codes, no_codes, more_codes, content_name, content_places, value_name}
use Rattle.pgo_sections.specs.WellFormed.{NotMade, PlainCode}

abbrev pub digits_behind : List ℕ → Bool
digits_behind [] = false
digits_behind (c ∷ cs) = nat_eq c 95 && all_digits cs

-- two underscores and digits at the end
abbrev pub looks_made : List ℕ → Bool
looks_made [] = false
looks_made (b ∷ bs) = (nat_eq b 95 && digits_behind bs) || looks_made bs

abbrev pub all_names : (Name → Bool) → List Name → Bool
all_names f [] = true
all_names f (x ∷ xs) = f x && all_names f xs

module _ (n c b : Name → Bool) where
  abbrev mutual
    pub is_plain : Tree → Bool
    is_plain (name x) = n x
    is_plain (primed x) = false
    is_plain (number z) = true
    is_plain (text s) = true
    is_plain (truth t) = true
    is_plain at = true
    is_plain (word w) = true
    is_plain (unary o x) = is_plain x
    is_plain (binary o x y) = is_plain x && is_plain y
    is_plain (product ts) = plain_all ts
    is_plain (cond_of p x y) = is_plain p && (is_plain x && is_plain y)
    is_plain (case_of gs) = plain_arms gs
    is_plain (case_other gs e) = plain_arms gs && is_plain e
    is_plain (let_in ds e) = plain_let ds && is_plain e
    is_plain (quantified q bs p) = plain_bound bs && is_plain p
    is_plain (choose x r p) = b x && (is_plain r && is_plain p)
    is_plain (tuple ts) = plain_all ts
    is_plain (set_of ts) = plain_all ts
    is_plain (filter_of x r p) = b x && (is_plain r && is_plain p)
    is_plain (image e x r) = b x && (is_plain r && is_plain e)
    is_plain (fun_of bs e) = plain_bound bs && is_plain e
    is_plain (fun_set x y) = is_plain x && is_plain y
    is_plain (record_of ds) = plain_fields ds
    is_plain (record_set ds) = plain_fields ds
    is_plain (except f us) = is_plain f && plain_paths us
    is_plain (index f ts) = is_plain f && plain_all ts
    is_plain (field r x) = is_plain r
    is_plain (call x ts) = c x && plain_all ts
    is_plain (unchanged xs) = false

    pub plain_all : Trees → Bool
    plain_all no_trees = true
    plain_all (more_trees t ts) = is_plain t && plain_all ts

    pub plain_arms : TreePairs → Bool
    plain_arms no_arms = true
    plain_arms (more_arms g e gs) = is_plain g && (is_plain e && plain_arms gs)

    pub plain_fields : NamedTrees → Bool
    plain_fields no_named = true
    plain_fields (more_named x t ts) = is_plain t && plain_fields ts

    pub plain_let : NamedTrees → Bool
    plain_let no_named = true
    plain_let (more_named x t ts) = b x && (is_plain t && plain_let ts)

    pub plain_bound : BoundTrees → Bool
    plain_bound no_bound = true
    plain_bound (more_bound xs r bs) = all_names b xs && (is_plain r && plain_bound bs)

    pub plain_paths : PathTrees → Bool
    plain_paths no_paths = true
    plain_paths (more_paths ps e us) = plain_all ps && (is_plain e && plain_paths us)

module _ (vs : List Name) where
  abbrev pub is_bindable : Name → Bool
  is_bindable x = not (looks_made x) && (not (is_among x vs) && not (same_name x self_name))

  abbrev pub is_alone : List (Name × Place) → List Name → Name → Bool
  is_alone ps ws x = not (looks_made x) && (is_among x ws || (is_some (find x ps) || not (is_among x vs)))

  abbrev pub is_applied : List (Name × Place) → List Name → Name → Bool
  is_applied ps ws x =
      not (looks_made x) && (not (is_among x vs) && (is_none (find x ps) && (not (is_among x ws) && not (same_name x self_name))))

  abbrev pub plain_tree : List (Name × Place) → List Name → Tree → Bool
  plain_tree ps ws e = is_plain (is_alone ps ws) (is_applied ps ws) is_bindable e

  abbrev pub known_index : List Name → Option Name → Bool
  known_index ws None = true
  known_index ws (Some i) = is_among i ws

  abbrev mutual
    pub plain_code : List Name → List (Name × Place) → List Name → Code → Bool
    plain_code gs ps ws Empty = true
    plain_code gs ps ws Skip = true
    plain_code gs ps ws (Let b w e c) = plain_tree ps ws e && plain_code gs ps (w ∷ ws) c
    plain_code gs ps ws (Pick b w e c) = plain_tree ps ws e && plain_code gs ps (w ∷ ws) c
    plain_code gs ps ws (Become p w) = is_among w ws
    plain_code gs ps ws (Set b p e) = plain_tree ps ws e
    plain_code gs ps ws (Await e) = plain_tree ps ws e
    plain_code gs ps ws (Assert e) = plain_tree ps ws e
    plain_code gs ps ws (Print e) = plain_tree ps ws e
    plain_code gs ps ws (If e x y) = plain_tree ps ws e && (plain_code gs ps ws x && plain_code gs ps ws y)
    plain_code gs ps ws (Either cs) = plain_codes gs ps ws cs
    plain_code gs ps ws (Seq x y) = plain_code gs ps ws x && plain_code gs ps ws y
    plain_code gs ps ws (Goto l) = true
    plain_code gs ps ws (Yield e) = plain_tree ps ws e
    plain_code gs ps ws (Read w g i m c) =
        is_among g gs && (known_index ws i && (plain_code (content_name ∷ []) content_places [] m && plain_code gs ps (w ∷ ws) c))
    plain_code gs ps ws (Write g i w m) =
        is_among g gs && (known_index ws i && (is_among w ws && plain_code (content_name ∷ []) content_places (value_name ∷ []) m))

    pub plain_codes : List Name → List (Name × Place) → List Name → Codes → Bool
    plain_codes gs ps ws no_codes = true
    plain_codes gs ps ws (more_codes c cs) = plain_code gs ps ws c && plain_codes gs ps ws cs

-- code that passes the test has well-formed names
abbrev pub TestIsSound : Type 0
TestIsSound = (vs gs : List Name) (ps : List (Name × Place)) (ws : List Name) (c : Code) → plain_code vs gs ps ws c ≡ true → PlainCode vs gs ps ws c

-- ---- the names of the variables

abbrev pub distinct_names : List Name → Bool
distinct_names [] = true
distinct_names (x ∷ xs) = not (is_among x xs) && distinct_names xs

-- a variable's written name
abbrev pub is_written : Name → Bool
is_written x = not (looks_made x) && not (same_name x self_name)

abbrev pub is_place : List Name → List Name → Place → Bool
is_place gs os (Whole x) = is_among x gs
is_place gs os (Own x) = is_among x os

abbrev pub all_places : List Name → List Name → List (Name × Place) → Bool
all_places gs os [] = true
all_places gs os (p ∷ ps) = is_place gs os p.1 && all_places gs os ps

-- the variables are vs, the globals gs, the instance's own variables os
abbrev pub names_pass : List Name → List Name → List Name → List (Name × Place) → Bool
names_pass vs gs os ps =
    distinct_names vs && (all_names is_written vs && (all_names (λ x. is_among x vs) gs && (all_names (λ x. is_among x vs) os && all_places gs os ps)))

-- what `Fit` asks of these names
pub record NamesFit (vs gs os : List Name) (ps : List (Name × Place)) : Type 0 where
  pub distinct : AreDifferent vs
  pub written : (x : Name) → is_among x vs ≡ true → NotMade x × (same_name x self_name ≡ false)
  pub globals : (x : Name) → is_among x gs ≡ true → is_among x vs ≡ true
  pub owns : (x : Name) → is_among x os ≡ true → is_among x vs ≡ true
  pub places : (x : Name) (p : Place) → find x ps ≡ Some p → is_place gs os p ≡ true

abbrev pub NamesTestIsSound : Type 0
NamesTestIsSound = (vs gs os : List Name) (ps : List (Name × Place)) → names_pass vs gs os ps ≡ true → NamesFit vs gs os ps
