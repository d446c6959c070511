-- Gathering reads name by name gives what is read of the first occurrences.
use Rattle.std.proofs.Common.{◌≡◌, ◌∙◌, ℕ, suc, Bool, true, false, List, [], ◌∷◌, ◌++◌, map, Option, Some, None, refl, ap, sym, append_assoc}
use Rattle.std.specs.Prelude.{if◌then◌else◌, ◌||◌}
use Rattle.std.proofs.lemmas.List.{append-nil, map-append}
use Rattle.pgo_base.specs.Lookup.{Name, same_name, find}
use Rattle.pgo_model.specs.Names.{same_name-is, is_among, same_name_back}
use Rattle.pgo_model.specs.Occurrences.{first_occurrences, without}
use Rattle.pgo_code.specs.Steps.{Unmapped, Target, Resource, Own}
use Rattle.pgo_lower.specs.Lowered.{read_before, reads_among}
use Rattle.pgo_lower.specs.Gathered.{read_behind, noted, gathered, own_names, part_names}
use Rattle.pgo_lower.proofs.FreeLaws.{all_walked}
use Rattle.pgo_base.specs.Tree.{Tree}
use Rattle.pgo_operands.specs.Operands.{operands}
use Rattle.pgo_rewrite.specs.Scoped.{names_by, under_at}
use Rattle.pgo_sections.specs.FreeNames.{free_names}

abbrev read_names : List Unmapped → List Name
read_names us = map (λ u. u.0) us

-- the names that aren't read yet
abbrev others : List Name → List Name → List Name
others rs [] = []
others rs (y ∷ ys) = if is_among y rs then others rs ys else y ∷ others rs ys

-- a choice of which both cases are told
by : {C : Type 0} (b : Bool) → (b ≡ true → C) → (b ≡ false → C) → C
by true f g = f refl
by false f g = g refl

-- one that is read already may be left out
left_out : (rs : List Name) (x : Name) (ys : List Name) → is_among x rs ≡ true → others rs (without x ys) ≡ others rs ys
left_out rs x [] h = refl
left_out rs x (y ∷ ys) h =
    by (same_name x y)
    (λ e. ap (λ b. others rs (if b then without x ys else y ∷ without x ys)) e
    ∙ left_out rs x ys h
    ∙ sym (ap (λ b. if b then others rs ys else y ∷ others rs ys) (sym (ap (λ z. is_among z rs) (same_name-is x y e)) ∙ h)))
    (λ e. ap (λ b. others rs (if b then without x ys else y ∷ without x ys)) e
    ∙ (λ i. if is_among y rs then left_out rs x ys h i else y ∷ left_out rs x ys h i))

among_more : (y : Name) (rs : List Name) (x : Name) → is_among y (rs ++ x ∷ []) ≡ (if same_name y x then true else is_among y rs)
among_more y [] x = go (same_name y x)
  where
    go : (b : Bool) → b || false ≡ (if b then true else false)
    go true = refl
    go false = refl
among_more y (r ∷ rs) x = ap (λ b. same_name y r || b) (among_more y rs x) ∙ go (same_name y r) (same_name y x) (is_among y rs)
  where
    go : (a b c : Bool) → a || (if b then true else c) ≡ (if b then true else a || c)
    go true true c = refl
    go true false c = refl
    go false true c = refl
    go false false c = refl

-- one that is read now is left out from now on
one_more : (rs : List Name) (x : Name) (ys : List Name) → others (rs ++ x ∷ []) ys ≡ others rs (without x ys)
one_more rs x [] = refl
one_more rs x (y ∷ ys) =
    ap (λ b. if b then others (rs ++ x ∷ []) ys else y ∷ others (rs ++ x ∷ []) ys) (among_more y rs x ∙ ap (λ b. if b then true else is_among y rs) (same_name_back y x))
    ∙ go (same_name x y) (one_more rs x ys)
  where
    go : (b : Bool) → others (rs ++ x ∷ []) ys ≡ others rs (without x ys)
        → (if (if b then true else is_among y rs) then others (rs ++ x ∷ []) ys else y ∷ others (rs ++ x ∷ []) ys) ≡ others rs (if b then without x ys else y ∷ without x ys)
    go true h = h
    go false h = λ i. if is_among y rs then h i else y ∷ h i

module _ (ts : List (Name × Target)) where
  -- nothing is read for it
  abbrev IsNone : Option Target → Type 0
  IsNone o = (x : Name) (us : List Unmapped) → read_before x o us ≡ us

  not_read : (rs : List Name) (x : Name) (ys : List Name) → IsNone (find x ts) → reads_among ts (others rs (without x ys)) ≡ reads_among ts (others rs ys)
  not_read rs x [] h = refl
  not_read rs x (y ∷ ys) h =
      by (same_name x y)
      (λ e. ap (λ b. reads_among ts (others rs (if b then without x ys else y ∷ without x ys))) e
      ∙ not_read rs x ys h
      ∙ go (is_among y rs) (sym (ap (λ z. read_before y (find z ts) (reads_among ts (others rs ys))) (sym (same_name-is x y e)) ∙ h y (reads_among ts (others rs ys)))))
      (λ e. ap (λ b. reads_among ts (others rs (if b then without x ys else y ∷ without x ys))) e
      ∙ on_both (is_among y rs) (not_read rs x ys h))
    where
      go : (b : Bool) → reads_among ts (others rs ys) ≡ reads_among ts (y ∷ others rs ys) → reads_among ts (others rs ys) ≡ reads_among ts (if b then others rs ys else y ∷ others rs ys)
      go true k = refl
      go false k = k

      on_both : (b : Bool) → reads_among ts (others rs (without x ys)) ≡ reads_among ts (others rs ys)
          → reads_among ts (if b then others rs (without x ys) else y ∷ others rs (without x ys)) ≡ reads_among ts (if b then others rs ys else y ∷ others rs ys)
      on_both true k = k
      on_both false k = ap (read_before y (find y ts)) k

  -- names are gathered one list after another
  pub gathered_more : (us : List Unmapped) (xs ys : List Name) → gathered ts us (xs ++ ys) ≡ gathered ts (gathered ts us xs) ys
  gathered_more us [] ys = refl
  gathered_more us (x ∷ xs) ys = gathered_more (noted ts us x) xs ys

  names_behind : (us : List Unmapped) (x : Name) (r : Option ℕ) → read_names (us ++ (x, r) ∷ []) ≡ read_names us ++ x ∷ []
  names_behind us x r = map-append (λ u. u.0) us ((x, r) ∷ [])

  -- what is gathered are the first occurrences, but for those that are read already
  pub gathered_others : (us : List Unmapped) (xs : List Name) → gathered ts us xs ≡ us ++ reads_among ts (others (read_names us) (first_occurrences xs))
  gathered_others us [] = sym (append-nil us)
  gathered_others us (x ∷ xs) =
      let f = first_occurrences xs in
      by (is_among x (read_names us))
      (λ e. ap (λ b. gathered ts (if b then us else read_behind x (find x ts) us) xs) e
      ∙ gathered_others us xs
      ∙ ap (λ l. us ++ reads_among ts l) (sym (left_out (read_names us) x f e))
      ∙ ap (λ b. us ++ reads_among ts (if b then others (read_names us) (without x f) else x ∷ others (read_names us) (without x f))) (sym e))
      (λ e. ap (λ b. gathered ts (if b then us else read_behind x (find x ts) us) xs) e
      ∙ go (find x ts) refl (λ vs. gathered_others vs xs)
      ∙ ap (λ b. us ++ reads_among ts (if b then others (read_names us) (without x f) else x ∷ others (read_names us) (without x f))) (sym e))
    where
      go : (o : Option Target) → find x ts ≡ o → ((vs : List Unmapped) → gathered ts vs xs ≡ vs ++ reads_among ts (others (read_names vs) (first_occurrences xs)))
          → gathered ts (read_behind x o us) xs ≡ us ++ read_before x o (reads_among ts (others (read_names us) (without x (first_occurrences xs))))
      go None e h = h us ∙ ap (λ l. us ++ l) (sym (not_read (read_names us) x (first_occurrences xs) (none e)))
        where
          none : find x ts ≡ None → IsNone (find x ts)
          none q y vs = ap (λ o. read_before y o vs) q
      go (Some (Own z)) e h = h us ∙ ap (λ l. us ++ l) (sym (not_read (read_names us) x (first_occurrences xs) (own e)))
        where
          own : find x ts ≡ Some (Own z) → IsNone (find x ts)
          own q y vs = ap (λ o. read_before y o vs) q
      go (Some (Resource r)) e h =
          h (us ++ (x, r) ∷ [])
          ∙ append_assoc us ((x, r) ∷ []) (reads_among ts (others (read_names (us ++ (x, r) ∷ [])) (first_occurrences xs)))
          ∙ ap (λ l. us ++ (x, r) ∷ reads_among ts l) (ap (λ n. others n (first_occurrences xs)) (names_behind us x r) ∙ one_more (read_names us) x (first_occurrences xs))

  none_read : (ys : List Name) → others [] ys ≡ ys
  none_read [] = refl
  none_read (y ∷ ys) = ap (λ l. y ∷ l) (none_read ys)

  pub gathered_law : (xs : List Name) → gathered ts [] xs ≡ reads_among ts (first_occurrences xs)
  gathered_law xs = gathered_others [] xs ∙ ap (reads_among ts) (none_read (first_occurrences xs))

-- an expression's own name, and then the names of its operands
pub all_gathered : (ts : List (Name × Target)) (us vs : List Unmapped) (under ns : List Name) (t : Tree) (ls : List Tree)
    → vs ≡ gathered ts us (own_names under t) → ns ≡ names_by t → ls ≡ operands t
    → gathered ts vs (part_names (under_at t ns under) 0 ls) ≡ gathered ts us (free_names under t)
all_gathered ts us vs under ns t ls e n h =
    ap (λ ws. gathered ts ws (part_names (under_at t ns under) 0 ls)) e
    ∙ sym (gathered_more ts us (own_names under t) (part_names (under_at t ns under) 0 ls))
    ∙ ap (gathered ts us) (sym (all_walked under ns t ls n h))

-- the names of an operand are gathered
pub part_step : (ts : List (Name × Target)) (us vs : List Unmapped) (around : ℕ → List Name) (under : List Name) (i j : ℕ) (t : Tree) (ls rest : List Tree)
    → vs ≡ gathered ts us (free_names under t) → under ≡ around i → j ≡ suc i → ls ≡ t ∷ rest
    → gathered ts vs (part_names around j rest) ≡ gathered ts us (part_names around i ls)
part_step ts us vs around under i j t ls rest e w n h =
    (λ z. gathered ts (e z) (part_names around (n z) rest))
    ∙ sym (gathered_more ts us (free_names under t) (part_names around (suc i) rest))
    ∙ (λ z. gathered ts us (free_names (w z) t ++ part_names around (suc i) rest))
    ∙ sym (λ z. gathered ts us (part_names around i (h z)))
