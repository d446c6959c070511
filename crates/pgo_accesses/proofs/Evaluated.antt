-- An expression has the value that it has in the section, once its unmapped parameters are read.
use Rattle.std.proofs.Common.{◌≡◌, ℕ, Bool, true, false, ◌||◌, List, [], ◌∷◌, ◌++◌, Option, Some, None, ◌⊎◌, inl, inr, refl, sym, ap, ◌∙◌, subst, arith}
use Rattle.std.specs.Prelude.{if◌then◌else◌}
use Rattle.pgo_base.specs.Data.{Data}
use Rattle.pgo_base.specs.Lookup.{Name, Names, Vars, same_name, find}
use Rattle.pgo_base.specs.Tree.{Tree}
use Rattle.pgo_model.specs.Core.{number_among, numbers_of}
use Rattle.pgo_model.specs.Names.{same_name-self, same_name-is, is_among}
use Rattle.pgo_model.specs.Occurrences as occurrences
use Rattle.pgo_model.specs.Occurrences.{first_occurrences}
use Rattle.pgo_model.specs.Options.{on}
use Rattle.pgo_model.specs.System.{Words, Resource, Touched}
use Rattle.pgo_sections.specs.Access.{reads_among, unmapped_reads, touched_whole}
use Rattle.pgo_sections.specs.Code.{Place, Whole, Own}
use Rattle.pgo_sections.specs.Context as sections
use Rattle.pgo_sections.specs.Context.{Context, value_now}
use Rattle.pgo_sections.specs.FreeNames.{free_names}
use Rattle.pgo_sections.specs.Plain.{All}
use Rattle.pgo_sections.specs.SectionRun.{ChoiceMade}
use Rattle.pgo_workers.specs.Walk as walks
use Rattle.pgo_workers.specs.Tried.{LeafTree}
use Rattle.pgo_workers.specs.Walk.{Touch, Ahead, append_assoc}
use Rattle.pgo_accesses.specs.Accesses as accesses
use Rattle.pgo_accesses.specs.Accesses.{Attempt, Progress, with_value, with_whole, reads_then, evaluating}
use Rattle.pgo_accesses.proofs.FreeValues.{there, same_value}
use Rattle.pgo_accesses.proofs.Related.{accessed, numbers_append, put_same, attempt, AsBound, Related}

or_true : (b : Bool) → b || true ≡ true
or_true true = refl
or_true false = refl

among_more : (x y : Name) (xs : List Name) → is_among x xs ≡ true → is_among x (y ∷ xs) ≡ true
among_more x y xs h = ap (λ b. same_name x y || b) h ∙ or_true (same_name x y)

pub all_of : (P : Name → Type 0) (xs : List Name) → ((x : Name) → is_among x xs ≡ true → P x) → All P xs
all_of P [] h = tt
all_of P (x ∷ xs) h = (h x (ap (λ b. b || is_among x xs) (same_name-self x)), all_of P xs (λ y e. h y (among_more y x xs e)))

among_without : (x y : Name) (xs : List Name) → same_name x y ≡ false → is_among x xs ≡ true → is_among x (occurrences.without y xs) ≡ true
among_without x y [] n h = h
among_without x y (z ∷ xs) n h = go (same_name y z) refl h (λ e. among_without x y xs n e)
  where
    past : (b : Bool) → same_name x z ≡ b → same_name y z ≡ true → b || is_among x xs ≡ true → is_among x xs ≡ true
    past true e f h = absurd (let a = same_name-is x z e in let c = same_name-is y z f in let q : true ≡ false = sym (same_name-self x) ∙ ap (same_name x) (a ∙ sym c) ∙ n in grind (arith, q))
    past false e f h = h

    more : (b : Bool) → b || is_among x xs ≡ true → (is_among x xs ≡ true → is_among x (occurrences.without y xs) ≡ true) → b || is_among x (occurrences.without y xs) ≡ true
    more true h ih = refl
    more false h ih = ih h

    go : (b : Bool) → same_name y z ≡ b → is_among x (z ∷ xs) ≡ true → (is_among x xs ≡ true → is_among x (occurrences.without y xs) ≡ true) → is_among x (if b then occurrences.without y xs else z ∷ occurrences.without y xs) ≡ true
    go true e h ih = ih (past (same_name x z) refl e h)
    go false e h ih = more (same_name x z) h ih

pub among_first : (x : Name) (xs : List Name) → is_among x xs ≡ true → is_among x (first_occurrences xs) ≡ true
among_first x [] h = h
among_first x (y ∷ xs) h = go (same_name x y) refl h (λ e. among_first x xs e)
  where
    go : (b : Bool) → same_name x y ≡ b → b || is_among x xs ≡ true → (is_among x xs ≡ true → is_among x (first_occurrences xs) ≡ true) → b || is_among x (occurrences.without y (first_occurrences xs)) ≡ true
    go true e h ih = refl
    go false e h ih = among_without x y (first_occurrences xs) e (ih h)

find_more : (env l m : Names) (x : Name) → find x l ≡ find x m → find x (env ++ l) ≡ find x (env ++ m)
find_more [] l m x h = h
find_more (p ∷ env) l m x h = ap (λ o. if same_name x p.0 then Some p.1 else o) (find_more env l m x h)

known_more : (env l m : Names) (x : Name) → there (find x l) ≡ there (find x m) → there (find x (env ++ l)) ≡ there (find x (env ++ m))
known_more [] l m x h = h
known_more (p ∷ env) l m x h = go (same_name x p.0) (known_more env l m x h)
  where
    go : (b : Bool) → there (find x (env ++ l)) ≡ there (find x (env ++ m)) → there (if b then Some p.1 else find x (env ++ l)) ≡ there (if b then Some p.1 else find x (env ++ m))
    go true ih = refl
    go false ih = ih

module _ (K : Context) (rs : List Resource) (at_start : walks.Own) (d : Words) where
  abbrev a : Attempt
  a = attempt K rs at_start d

  pub numbers_one : (c : Touched) (r : ℕ) (ts : List Touched) → number_among rs c ≡ Some r → numbers_of rs (ts ++ (c ∷ [])) ≡ numbers_of rs ts ++ (r ∷ [])
  numbers_one c r ts e = numbers_append rs ts (c ∷ []) ∙ ap (λ o. numbers_of rs ts ++ on [] o (λ n. n ∷ [])) e

  -- what a place has in the tree's view
  abbrev here : Vars → Vars → Name → Place → Option Data
  here seen pch x q = elim q as (λ o. Option Data) [ Whole g ↦ find x seen | Own y ↦ on (find y at_start) (find y pch) (λ v. Some v) ]

  view_known : (ps : List (Name × Place)) (seen pch ch : Vars) (x : Name) → there (find x (accesses.view a seen pch ps)) ≡ there (find x (sections.view K ps ch))
  view_known [] seen pch ch x = refl
  view_known (q ∷ ps) seen pch ch x = go (same_name x q.0) (view_known ps seen pch ch x)
    where
      go : (b : Bool) → there (find x (accesses.view a seen pch ps)) ≡ there (find x (sections.view K ps ch))
          → there (if b then Some (here seen pch q.0 q.1) else find x (accesses.view a seen pch ps)) ≡ there (if b then Some (value_now K q.1 ch) else find x (sections.view K ps ch))
      go true ih = refl
      go false ih = ih

  view_same : (ps : List (Name × Place)) (seen pch ch : Vars) (x : Name) → ((q : Place) → find x ps ≡ Some q → here seen pch x q ≡ value_now K q ch) → find x (accesses.view a seen pch ps) ≡ find x (sections.view K ps ch)
  view_same [] seen pch ch x h = refl
  view_same (q ∷ ps) seen pch ch x h = go (same_name x q.0) refl h (λ k. view_same ps seen pch ch x k)
    where
      go : (b : Bool) → same_name x q.0 ≡ b → ((p : Place) → (if b then Some q.1 else find x ps) ≡ Some p → here seen pch x p ≡ value_now K p ch)
          → (((p : Place) → find x ps ≡ Some p → here seen pch x p ≡ value_now K p ch) → find x (accesses.view a seen pch ps) ≡ find x (sections.view K ps ch))
          → (if b then Some (here seen pch q.0 q.1) else find x (accesses.view a seen pch ps)) ≡ (if b then Some (value_now K q.1 ch) else find x (sections.view K ps ch))
      go true e h ih = ap Some (ap (λ y. here seen pch y q.1) (sym (same_name-is x q.0 e)) ∙ h q.1 refl)
      go false e h ih = ih h

  module _ (G : AsBound K rs at_start d) (w0 : LeafTree) (f0 : ℕ → Data) where
    -- what the seen values have to be
    abbrev IsSeen : List Name → Vars → Vars → Vars → Type 0
    IsSeen xs seen seen' ch =
        (x y : Name) → find x K.places ≡ Some (Whole y) → (is_among x xs ≡ true) ⊎ (find x seen ≡ value_now K (Whole y) ch) → find x seen' ≡ value_now K (Whole y) ch

    not_whole : (x : Name) (xs : List Name) (seen seen' ch : Vars) → ((y : Name) → find x K.places ≡ Some (Whole y) → ⊥) → IsSeen xs seen seen' ch → IsSeen (x ∷ xs) seen seen' ch
    not_whole x xs seen seen' ch n h z y at (inr s) = h z y at (inr s)
    not_whole x xs seen seen' ch n h z y at (inl m) = go (same_name z x) refl m
      where
        go : (b : Bool) → same_name z x ≡ b → b || is_among z xs ≡ true → find z seen' ≡ value_now K (Whole y) ch
        go true e m = absurd (n y (subst (λ k. find k K.places ≡ Some (Whole y)) (same_name-is z x e) at))
        go false e m = h z y at (inl m)

    one_whole : (y z : Name) → Some (Whole y) ≡ Some (Whole z) → y ≡ z
    one_whole y z e = cc

    pub reads_at : (xs : List Name) (seen : Vars) (F : Vars → LeafTree) (ts : List Touched) (ch : Vars) (cs : List ChoiceMade) (ps : List Data) (p : Progress) (g : ℕ → Data) → Related K rs at_start d ch cs ps p g
        → Ahead w0 f0 (numbers_of rs ts) (reads_then a xs seen F) g → (seen' : Vars) × Ahead w0 f0 (numbers_of rs (ts ++ reads_among K.places xs)) (F seen') g × IsSeen xs seen seen' ch
    reads_at [] seen F ts ch cs ps p g R h =
        (seen, subst (λ l. Ahead w0 f0 (numbers_of rs l) (F seen) g) (sym (append_none ts)) h, λ x y at k. elim k [ inl m ↦ absurd (let z : false ≡ true = m in grind (arith, z)) | inr s ↦ s ])
      where
        append_none : (l : List Touched) → l ++ [] ≡ l
        append_none [] = refl
        append_none (t ∷ l) = ap (λ k. t ∷ k) (append_none l)
    reads_at (x ∷ xs) seen F ts ch cs ps p g R h = go (find x K.places) refl h (λ seen ts k. reads_at xs seen F ts ch cs ps p g R k)
      where
        Rest : Vars → List Touched → Type 0
        Rest seen ts = Ahead w0 f0 (numbers_of rs ts) (reads_then a xs seen F) g → (seen' : Vars) × Ahead w0 f0 (numbers_of rs (ts ++ reads_among K.places xs)) (F seen') g × IsSeen xs seen seen' ch

        go : (o : Option Place) → find x K.places ≡ o
            → Ahead w0 f0 (numbers_of rs ts) (elim o as (λ o. LeafTree) [ None ↦ reads_then a xs seen F | Some (Whole g) ↦ with_whole a g (λ r. Touch r (λ v. v) (λ v. reads_then a xs ((x, v) ∷ seen) F)) | Some (Own y) ↦ reads_then a xs seen F ]) g
            → ((seen : Vars) (ts : List Touched) → Ahead w0 f0 (numbers_of rs ts) (reads_then a xs seen F) g → (seen' : Vars) × Ahead w0 f0 (numbers_of rs (ts ++ reads_among K.places xs)) (F seen') g × IsSeen xs seen seen' ch)
            → (seen' : Vars) × Ahead w0 f0 (numbers_of rs (ts ++ touched_whole o (reads_among K.places xs))) (F seen') g × IsSeen (x ∷ xs) seen seen' ch
        go None e h ih = let r = ih seen ts h in (r.0, r.1, not_whole x xs seen r.0 ch (λ y f. let z : None ≡ Some (Whole y) = sym e ∙ f in grind (arith, z)) r.2)
        go (Some (Own q)) e h ih = let r = ih seen ts h in (r.0, r.1, not_whole x xs seen r.0 ch (λ y f. let z : Some (Own q) ≡ Some (Whole y) = sym e ∙ f in grind (arith, z)) r.2)
        go (Some (Whole q)) e h ih =
            let w = G.whole x q e in
            let n = w.1.0 in
            let v : value_now K (Whole q) ch ≡ Some (g n) = (R.whole q n w.1.1 w.0).0 in
            let rest = λ (v : Data). reads_then a xs ((x, v) ∷ seen) F in
            let first = subst (λ o. Ahead w0 f0 (numbers_of rs ts) (with_value o (λ r. Touch r (λ v. v) rest)) g) w.1.1 h in
            let next = subst (λ f. Ahead w0 f0 (numbers_of rs ts ++ (n ∷ [])) (rest (g n)) f) (put_same n g) (accessed w0 f0 g (numbers_of rs ts) n (λ v. v) rest first) in
            let r = ih ((x, g n) ∷ seen) (ts ++ ((q, None) ∷ [])) (subst (λ l. Ahead w0 f0 l (rest (g n)) g) (sym (numbers_one (q, None) n ts w.1.1)) next) in
            (r.0, subst (λ l. Ahead w0 f0 (numbers_of rs l) (F r.0) g) (append_assoc ts ((q, None) ∷ []) (reads_among K.places xs)) r.1, λ z y at k. held z y at k (same_name z x) refl n v r.0 r.2)
          where
            held : (z y : Name) → find z K.places ≡ Some (Whole y) → (is_among z (x ∷ xs) ≡ true) ⊎ (find z seen ≡ value_now K (Whole y) ch) → (b : Bool) → same_name z x ≡ b → (n : ℕ) → value_now K (Whole q) ch ≡ Some (g n)
                → (seen' : Vars) → IsSeen xs ((x, g n) ∷ seen) seen' ch → find z seen' ≡ value_now K (Whole y) ch
            held z y at k true s n v seen' i =
                let qy : q ≡ y = one_whole q y (sym e ∙ ap (λ m. find m K.places) (sym (same_name-is z x s)) ∙ at) in
                i z y at (inr (ap (λ b. if b then Some (g n) else find z seen) s ∙ sym v ∙ ap (λ m. value_now K (Whole m) ch) qy))
            held z y at (inl m) false s n v seen' i = i z y at (inl (sym (ap (λ b. b || is_among z xs) s) ∙ m))
            held z y at (inr f) false s n v seen' i = i z y at (inr (ap (λ b. if b then Some (g n) else find z seen) s ∙ f))

    -- the value of an expression
    pub evaluated : (e : Tree) (env : Names) (F : Option Data → LeafTree) (ts : List Touched) (ch : Vars) (cs : List ChoiceMade) (ps : List Data) (p : Progress) (g : ℕ → Data) → Related K rs at_start d ch cs ps p g
        → Ahead w0 f0 (numbers_of rs ts) (evaluating a e env p F) g → Ahead w0 f0 (numbers_of rs (ts ++ unmapped_reads K.places e)) (F (sections.value_of K e env ch)) g
    evaluated e env F ts ch cs ps p g R h =
        let r = reads_at (first_occurrences (free_names [] e)) [] (λ seen. F (accesses.value_of a e env seen p.changes)) ts ch cs ps p g R h in
        subst (λ o. Ahead w0 f0 (numbers_of rs (ts ++ unmapped_reads K.places e)) (F o) g) (same r.0 r.2) r.1
      where
        same : (seen : Vars) → IsSeen (first_occurrences (free_names [] e)) [] seen ch → accesses.value_of a e env seen p.changes ≡ sections.value_of K e env ch
        same seen is =
            let l = accesses.view a seen p.changes K.places in
            let m = sections.view K K.places ch in
            let known = λ (x : Name). known_more env l m x (view_known K.places seen p.changes ch x) in
            same_value (env ++ l) (env ++ m) [] None K.defs known e
            (all_of (λ x. find x (env ++ l) ≡ find x (env ++ m)) (free_names [] e) (λ x among. find_more env l m x (view_same K.places seen p.changes ch x (λ q at. place q x at among))))
          where
            place : (q : Place) (x : Name) → find x K.places ≡ Some q → is_among x (free_names [] e) ≡ true → here seen p.changes x q ≡ value_now K q ch
            place (Whole y) x at among = is x y at (inl (among_first x (free_names [] e) among))
            place (Own y) x at among =
                let o = G.own x y at in
                (λ i. on (o.1 i) (R.own y o.0 i) (λ v. Some v))
