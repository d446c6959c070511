-- What lowered code does is what the code accesses.
use Rattle.std.proofs.Common.{◌≡◌, ◌∙◌, ◌<◌, ◌+◌, ℕ, zero, suc, Bool, true, false, List, [], ◌∷◌, ◌++◌, length, drop, get_or, Option, Some, None, refl, ap, sym, append_assoc, arith}
use Rattle.std.specs.Prelude.{if◌then◌else◌, option_map, option_and_then, map}
use Rattle.std.proofs.lemmas.List.{append-nil, drop-map, length-append, length-drop, length-map}
use Rattle.pgo_base.specs.Data.{Data}
use Rattle.pgo_base.specs.Lookup.{Name, Names, Vars, same_name, find}
use Rattle.pgo_base.specs.Tree.{Tree}
use Rattle.pgo_model.specs.Choice.{pick}
use Rattle.pgo_model.specs.Core.{number_among}
use Rattle.pgo_model.specs.Occurrences.{first_occurrences}
use Rattle.pgo_model.specs.Operators.{members_of, truth_of}
use Rattle.pgo_sections.specs.BoundValues.{bindable, value_under}
use Rattle.pgo_sections.specs.Code as codes
use Rattle.pgo_sections.specs.Code.{Place, Code, Codes, no_codes, more_codes}
use Rattle.pgo_sections.specs.Context.{index_value}
use Rattle.pgo_sections.specs.Exec.{count}
use Rattle.pgo_sections.specs.FreeNames.{free_names}
use Rattle.pgo_workers.specs.Tried.{LeafTree}
use Rattle.pgo_workers.specs.Walk.{Touch}
use Rattle.pgo_accesses.specs.Accesses as trees
use Rattle.pgo_accesses.specs.Accesses.{Attempt, Progress, begun, printing, picked_number, choosing, waits, fails, with_value, if_true, value_of, with_member, accesses, accesses_of, accesses_of_arm}
use Rattle.pgo_code.specs.Steps.{Target, Step, Bind, Pick, Unbind, Assign, Set, Await, Assert, Print, Branch, Choose, Jump, End, Read, Write, Fail, evaluating, reads_then, putting, reading, writing, unbound, steps, steps_of}
use Rattle.pgo_lower.specs.Lowered.{target_of, read_before, reads_among, bare, evaluation, lowered, arms_lowered, arm_starts}
use Rattle.pgo_lower.specs.Attempts.{tables_at}

one_less : (l n : ℕ) → suc l < suc n → l < n
one_less l n h = omega (arith, h)

fewer : (k : ℕ) (is : List Step) (n : ℕ) → suc (length is) < suc n → length (drop k is) < n
fewer k is n h = omega (arith, h, length-drop k is)

-- what stands behind others, where so many are passed over
dropped : (xs ys : List Step) → drop (length xs) (xs ++ ys) ≡ ys
dropped [] ys = refl
dropped (x ∷ xs) ys = dropped xs ys

other_arm : (xs ys is : List Step) (k : ℕ) → drop (suc (length xs)) ((xs ++ Jump k ∷ ys) ++ is) ≡ ys ++ is
other_arm [] ys is k = refl
other_arm (x ∷ xs) ys is k = other_arm xs ys is k

other_short : (xs ys is : List Step) (k : ℕ) → length (ys ++ is) < suc (length ((xs ++ Jump k ∷ ys) ++ is))
other_short xs ys is k = omega (arith, length-append (xs ++ Jump k ∷ ys) is, length-append xs (Jump k ∷ ys), length-append ys is)

never_longer : (k : ℕ) (is : List Step) → length (drop k is) < suc (length is)
never_longer k is = omega (arith, length-drop k is)

module _ (a : Attempt) where
  -- where there are more turns than steps, it doesn't matter how many
  pub enough : (n m : ℕ) (is : List Step) (env : Names) (p : Progress) → length is < n → length is < m → steps n a is env p ≡ steps m a is env p
  enough zero m is env p h k = absurd (omega (arith, h))
  enough (suc n) zero is env p h k = absurd (omega (arith, k))
  enough (suc n) (suc m) [] env p h k = refl
  enough (suc n) (suc m) (Bind w e ∷ is) env p h k =
      λ i. evaluating a e env p (λ o. with_value (bindable o) (λ v. enough n m is ((w, Some v) ∷ env) p (one_less _ _ h) (one_less _ _ k) i))
  enough (suc n) (suc m) (Pick w e ∷ is) env p h k =
      λ i. evaluating a e env p (λ o. with_value (option_and_then members_of o) (λ ms. with_member a ms p (λ v q. enough n m is ((w, Some v) ∷ env) q (one_less _ _ h) (one_less _ _ k) i)))
  enough (suc n) (suc m) (Unbind ∷ is) env p h k = enough n m is (unbound env) p (one_less _ _ h) (one_less _ _ k)
  enough (suc n) (suc m) (Assign t w ∷ is) env p h k =
      λ i. with_value (value_under w env) (λ v. putting t v p (λ q. enough n m is env q (one_less _ _ h) (one_less _ _ k) i))
  enough (suc n) (suc m) (Set t e ∷ is) env p h k =
      λ i. evaluating a e env p (λ o. with_value (bindable o) (λ v. putting t v p (λ q. enough n m is env q (one_less _ _ h) (one_less _ _ k) i)))
  enough (suc n) (suc m) (Await e ∷ is) env p h k =
      λ i. evaluating a e env p (λ o. if_true (truth_of o) (enough n m is env p (one_less _ _ h) (one_less _ _ k) i) (waits p))
  enough (suc n) (suc m) (Assert e ∷ is) env p h k =
      λ i. evaluating a e env p (λ o. if_true (truth_of o) (enough n m is env p (one_less _ _ h) (one_less _ _ k) i) fails)
  enough (suc n) (suc m) (Print e ∷ is) env p h k =
      λ i. evaluating a e env p (λ o. with_value o (λ v. enough n m is env (printing v p) (one_less _ _ h) (one_less _ _ k) i))
  enough (suc n) (suc m) (Branch e j ∷ is) env p h k =
      λ i. evaluating a e env p (λ o. if_true (truth_of o) (enough n m is env p (one_less _ _ h) (one_less _ _ k) i) (enough n m (drop j is) env p (fewer j is n h) (fewer j is m k) i))
  enough (suc n) (suc m) (Choose ks ∷ is) env p h k =
      let l = length ks in let i = picked_number a p l in let j = get_or ks i 0 in
      enough n m (drop j is) env (choosing l i p) (fewer j is n h) (fewer j is m k)
  enough (suc n) (suc m) (Jump j ∷ is) env p h k = enough n m (drop j is) env p (fewer j is n h) (fewer j is m k)
  enough (suc n) (suc m) (End l ∷ is) env p h k = refl
  enough (suc n) (suc m) (Read w c j ∷ is) env p h k =
      λ i. with_value (index_value j env) (λ x. reading a c x p (λ v q. enough n m is ((w, Some v) ∷ env) q (one_less _ _ h) (one_less _ _ k) i))
  enough (suc n) (suc m) (Write c j w ∷ is) env p h k =
      λ i. with_value (index_value j env) (λ x. writing a c x (value_under w env) p (λ q. enough n m is env q (one_less _ _ h) (one_less _ _ k) i))
  enough (suc n) (suc m) (Fail ∷ is) env p h k = refl

  -- with turns enough
  abbrev pub full : List Step → Names → Progress → LeafTree
  full is env p = steps (suc (length is)) a is env p

  -- where steps were passed over
  passed : (n : ℕ) (ys zs : List Step) (env : Names) (p : Progress) → ys ≡ zs → length zs < n → steps n a ys env p ≡ full zs env p
  passed n ys zs env p e h = ap (λ l. steps n a l env p) e ∙ enough n (suc (length zs)) zs env p h (omega arith)

  jumped : (xs is : List Step) (env : Names) (p : Progress) → full (Jump (length xs) ∷ (xs ++ is)) env p ≡ full is env p
  jumped xs is env p = passed (suc (length (xs ++ is))) (drop (length xs) (xs ++ is)) is env p (dropped xs is) (omega (arith, length-append xs is))

  -- ---- expressions

  found : (x : Name) (ps : List (Name × Place)) (f : Place → Target) → find x (map (λ p. (p.0, f p.1)) ps) ≡ option_map f (find x ps)
  found x [] f = refl
  found x (p ∷ ps) f = go (same_name x p.0) (found x ps f)
    where
      go : (b : Bool) → find x (map (λ q. (q.0, f q.1)) ps) ≡ option_map f (find x ps)
          → (if b then Some (f p.1) else find x (map (λ q. (q.0, f q.1)) ps)) ≡ option_map f (if b then Some p.1 else find x ps)
      go true h = refl
      go false h = h

  abbrev whole : Name → Option ℕ
  whole g = number_among a.resources (g, None)

  reads_law : (xs : List Name) (seen : Vars) (f : Vars → LeafTree) → reads_then (reads_among (tables_at a).targets xs) seen f ≡ trees.reads_then a xs seen f
  reads_law [] seen f = refl
  reads_law (x ∷ xs) seen f =
      ap (λ o. reads_then (read_before x o (reads_among (tables_at a).targets xs)) seen f) (found x a.places (target_of whole))
      ∙ go (find x a.places) (λ s. reads_law xs s f)
    where
      go : (o : Option Place) → ((s : Vars) → reads_then (reads_among (tables_at a).targets xs) s f ≡ trees.reads_then a xs s f)
          → reads_then (read_before x (option_map (target_of whole) o) (reads_among (tables_at a).targets xs)) seen f
          ≡ (elim o as (λ o. LeafTree) [
            | None ↦ trees.reads_then a xs seen f
            | Some (codes.Whole g) ↦ trees.with_whole a g (λ r. Touch r (λ v. v) (λ v. trees.reads_then a xs ((x, v) ∷ seen) f))
            | Some (codes.Own y) ↦ trees.reads_then a xs seen f
          ])
      go None h = h seen
      go (Some (codes.Whole g)) h = λ i. with_value (whole g) (λ r. Touch r (λ v. v) (λ v. h ((x, v) ∷ seen) i))
      go (Some (codes.Own y)) h = h seen

  evaluated : (e : Tree) (env : Names) (p : Progress) (f : Option Data → LeafTree) → evaluating a (evaluation (tables_at a).targets e) env p f ≡ trees.evaluating a e env p f
  evaluated e env p f = reads_law (first_occurrences (free_names [] e)) [] (λ seen. f (value_of a e env seen p.changes))

  put : (s : Place) (v : Data) (p : Progress) (f : Progress → LeafTree) → putting (target_of whole s) v p f ≡ trees.putting a s v p f
  put (codes.Whole g) v p f = refl
  put (codes.Own y) v p f = refl

  -- ---- code

  abbrev made : Code → List Step
  made c = lowered (tables_at a) c

  abbrev made_arms : Codes → List Step
  made_arms cs = arms_lowered (tables_at a) cs

  abbrev starts : ℕ → Codes → List ℕ
  starts n cs = arm_starts (tables_at a) n cs

  abbrev then_full : List Step → Names → Progress → LeafTree
  then_full is env q = full is env q

  as_many : (n : ℕ) (cs : Codes) → length (starts n cs) ≡ count cs
  as_many n no_codes = refl
  as_many n (more_codes c cs) = ap suc (as_many (n + suc (length (made c))) cs)

  below_count : (w n : ℕ) → pick w (suc n) < suc n
  below_count w n = omega arith

  -- the arm that begins behind what stands before it
  arm_behind : (pre xs ys is : List Step) (k : ℕ) → pre ++ ((xs ++ Jump k ∷ ys) ++ is) ≡ (pre ++ (xs ++ Jump k ∷ [])) ++ (ys ++ is)
  arm_behind pre xs ys is k =
      ap (λ l. pre ++ l) (append_assoc xs (Jump k ∷ ys) is)
      ∙ sym (append_assoc pre (xs ++ Jump k ∷ []) (ys ++ is) ∙ ap (λ l. pre ++ l) (append_assoc xs (Jump k ∷ []) (ys ++ is)))

  longer : (pre xs : List Step) (k : ℕ) → length (pre ++ (xs ++ Jump k ∷ [])) ≡ length pre + suc (length xs)
  longer pre xs k = omega (arith, length-append pre (xs ++ Jump k ∷ []), length-append xs (Jump k ∷ []))

  either_law : (cs : Codes) (is : List Step) (env : Names) (p : Progress)
      → ((j : ℕ) → j < count cs → full (drop (get_or (starts 0 cs) j 0) (made_arms cs ++ is)) env (choosing (count cs) j p) ≡ accesses_of_arm a cs j env (choosing (count cs) j p) (then_full is env))
      → full (made (codes.Either cs) ++ is) env p ≡ accesses a (codes.Either cs) env p (then_full is env)
  either_law no_codes is env p h = refl
  either_law (more_codes c cs) is env p h =
      let all = more_codes c cs in
      let rest = made_arms all ++ is in
      let n = length (starts 0 all) in
      let i = picked_number a p n in
      let j = get_or (starts 0 all) i 0 in
      passed (suc (length rest)) (drop j rest) (drop j rest) env (choosing n i p) refl (never_longer j rest)
      ∙ ap (λ k. let i = picked_number a p k in full (drop (get_or (starts 0 all) i 0) rest) env (choosing k i p)) (as_many 0 all)
      ∙ h (picked_number a p (count all)) (below_count (a.words (length p.points)) (count cs))

  mutual
    pub law : (c : Code) (is : List Step) (env : Names) (p : Progress) → full (made c ++ is) env p ≡ accesses a c env p (then_full is env)
    law codes.Empty is env p = refl
    law codes.Skip is env p = refl
    law (codes.Let b w e c) is env p =
        evaluated e env p (λ o. with_value (bindable o) (λ v. full ((made c ++ Unbind ∷ []) ++ is) ((w, Some v) ∷ env) p))
        ∙ (λ i. trees.evaluating a e env p (λ o. with_value (bindable o) (λ v. (ap (λ l. full l ((w, Some v) ∷ env) p) (append_assoc (made c) (Unbind ∷ []) is) ∙ law c (Unbind ∷ is) ((w, Some v) ∷ env) p) i)))
    law (codes.Pick b w e c) is env p =
        evaluated e env p (λ o. with_value (option_and_then members_of o) (λ ms. with_member a ms p (λ v q. full ((made c ++ Unbind ∷ []) ++ is) ((w, Some v) ∷ env) q)))
        ∙ (λ i. trees.evaluating a e env p (λ o. with_value (option_and_then members_of o) (λ ms. with_member a ms p (λ v q. (ap (λ l. full l ((w, Some v) ∷ env) q) (append_assoc (made c) (Unbind ∷ []) is) ∙ law c (Unbind ∷ is) ((w, Some v) ∷ env) q) i))))
    law (codes.Become s w) is env p = λ i. with_value (value_under w env) (λ v. put s v p (then_full is env) i)
    law (codes.Set b s e) is env p =
        evaluated e env p (λ o. with_value (bindable o) (λ v. putting (target_of whole s) v p (then_full is env)))
        ∙ (λ i. trees.evaluating a e env p (λ o. with_value (bindable o) (λ v. put s v p (then_full is env) i)))
    law (codes.Await e) is env p = evaluated e env p (λ o. if_true (truth_of o) (full is env p) (waits p))
    law (codes.Assert e) is env p = evaluated e env p (λ o. if_true (truth_of o) (full is env p) fails)
    law (codes.Print e) is env p = evaluated e env p (λ o. with_value o (λ v. full is env (printing v p)))
    law (codes.If e c d) is env p =
        let rest = (made c ++ Jump (length (made d)) ∷ made d) ++ is in
        evaluated e env p (λ o. if_true (truth_of o) (full rest env p) (steps (suc (length rest)) a (drop (suc (length (made c))) rest) env p))
        ∙ (λ i. trees.evaluating a e env p (λ o. if_true (truth_of o)
        ((ap (λ l. full l env p) (append_assoc (made c) (Jump (length (made d)) ∷ made d) is)
        ∙ law c (Jump (length (made d)) ∷ (made d ++ is)) env p
        ∙ (λ j. accesses a c env p (λ q. jumped (made d) is env q j))) i)
        ((passed (suc (length rest)) (drop (suc (length (made c))) rest) (made d ++ is) env p (other_arm (made c) (made d) is (length (made d))) (other_short (made c) (made d) is (length (made d)))
        ∙ law d is env p) i)))
    law (codes.Either cs) is env p = either_law cs is env p (λ k h. arms_law cs k [] is env (choosing (count cs) k p) h)
    law (codes.Seq c d) is env p =
        ap (λ l. full l env p) (append_assoc (made c) (made d) is)
        ∙ law c (made d ++ is) env p
        ∙ (λ i. accesses a c env p (λ q. law d is env q i))
    law (codes.Goto l) is env p = refl
    law (codes.Yield e) is env p = refl
    law (codes.Read w g j block c) is env p =
        λ i. with_value (index_value j env) (λ x. trees.reading a g x block p (λ v q. (ap (λ l. full l ((w, Some v) ∷ env) q) (append_assoc (made c) (Unbind ∷ []) is) ∙ law c (Unbind ∷ is) ((w, Some v) ∷ env) q) i))
    law (codes.Write g j w block) is env p = refl

    -- an arm, where these arms begin behind some steps
    arms_law : (cs : Codes) (j : ℕ) (pre is : List Step) (env : Names) (p : Progress) → j < count cs
        → full (drop (get_or (starts (length pre) cs) j 0) (pre ++ (made_arms cs ++ is))) env p ≡ accesses_of_arm a cs j env p (then_full is env)
    arms_law no_codes j pre is env p h = absurd (omega (arith, h))
    arms_law (more_codes c cs) zero pre is env p h =
        ap (λ l. full l env p) (dropped pre (made_arms (more_codes c cs) ++ is) ∙ append_assoc (made c) (Jump (length (made_arms cs)) ∷ made_arms cs) is)
        ∙ law c (Jump (length (made_arms cs)) ∷ (made_arms cs ++ is)) env p
        ∙ (λ i. accesses a c env p (λ q. jumped (made_arms cs) is env q i))
    arms_law (more_codes c cs) (suc j) pre is env p h =
        let k = length (made_arms cs) in
        (λ i. full (drop (get_or (starts (sym (longer pre (made c) k) i) cs) j 0) (arm_behind pre (made c) (made_arms cs) is k i)) env p)
        ∙ arms_law cs j (pre ++ (made c ++ Jump k ∷ [])) is env p (one_less _ _ h)

  -- a section
  pub section_law : (c : Code) → steps_of a (made c) ≡ accesses_of a c
  section_law c = ap (λ l. full l [] begun) (sym (append-nil (made c))) ∙ law c [] [] begun

  -- ---- the blocks that steps don't run

  pub bare_law : (n : ℕ) (is : List Step) (env : Names) (p : Progress) → steps n a (map bare is) env p ≡ steps n a is env p
  bare_law zero is env p = refl
  bare_law (suc n) [] env p = refl
  bare_law (suc n) (Bind w e ∷ is) env p = λ i. evaluating a e env p (λ o. with_value (bindable o) (λ v. bare_law n is ((w, Some v) ∷ env) p i))
  bare_law (suc n) (Pick w e ∷ is) env p =
      λ i. evaluating a e env p (λ o. with_value (option_and_then members_of o) (λ ms. with_member a ms p (λ v q. bare_law n is ((w, Some v) ∷ env) q i)))
  bare_law (suc n) (Unbind ∷ is) env p = bare_law n is (unbound env) p
  bare_law (suc n) (Assign t w ∷ is) env p = λ i. with_value (value_under w env) (λ v. putting t v p (λ q. bare_law n is env q i))
  bare_law (suc n) (Set t e ∷ is) env p = λ i. evaluating a e env p (λ o. with_value (bindable o) (λ v. putting t v p (λ q. bare_law n is env q i)))
  bare_law (suc n) (Await e ∷ is) env p = λ i. evaluating a e env p (λ o. if_true (truth_of o) (bare_law n is env p i) (waits p))
  bare_law (suc n) (Assert e ∷ is) env p = λ i. evaluating a e env p (λ o. if_true (truth_of o) (bare_law n is env p i) fails)
  bare_law (suc n) (Print e ∷ is) env p = λ i. evaluating a e env p (λ o. with_value o (λ v. bare_law n is env (printing v p) i))
  bare_law (suc n) (Branch e j ∷ is) env p =
      λ i. evaluating a e env p (λ o. if_true (truth_of o) (bare_law n is env p i) ((ap (λ l. steps n a l env p) (drop-map bare j is) ∙ bare_law n (drop j is) env p) i))
  bare_law (suc n) (Choose ks ∷ is) env p =
      let l = length ks in let i = picked_number a p l in let j = get_or ks i 0 in
      ap (λ xs. steps n a xs env (choosing l i p)) (drop-map bare j is) ∙ bare_law n (drop j is) env (choosing l i p)
  bare_law (suc n) (Jump j ∷ is) env p = ap (λ l. steps n a l env p) (drop-map bare j is) ∙ bare_law n (drop j is) env p
  bare_law (suc n) (End l ∷ is) env p = refl
  bare_law (suc n) (Read w c j ∷ is) env p = λ i. with_value (index_value j env) (λ x. reading a c x p (λ v q. bare_law n is ((w, Some v) ∷ env) q i))
  bare_law (suc n) (Write c j w ∷ is) env p = λ i. with_value (index_value j env) (λ x. writing a c x (value_under w env) p (λ q. bare_law n is env q i))
  bare_law (suc n) (Fail ∷ is) env p = refl

  -- a section whose steps are those of the code, but for blocks that they don't run
  pub lowered_law : (is : List Step) (c : Code) → map bare is ≡ lowered (tables_at a) c → steps_of a is ≡ accesses_of a c
  lowered_law is c e =
      sym (bare_law (suc (length is)) is [] begun)
      ∙ ap (λ n. steps (suc n) a (map bare is) [] begun) (sym (length-map is bare))
      ∙ ap (steps_of a) e
      ∙ section_law c
