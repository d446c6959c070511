-- What an attempt holds behind its accesses: each resource once, in the order of its first access.
use Rattle.std.proofs.Common.{◌≡◌, ℕ, Bool, true, false, List, [], ◌∷◌, ◌++◌, ◌⊎◌, inl, inr, refl, sym, ap, ◌∙◌, subst, arith, None}
use Rattle.std.specs.Prelude.{if◌then◌else◌, nat_eq}
use Rattle.pgo_base.specs.Data.{Data}
use Rattle.pgo_model.specs.Machine.{among, put}
use Rattle.pgo_model.specs.MachineAccounts.{equal_or}
use Rattle.pgo_workers.specs.Walk as walks
use Rattle.pgo_workers.specs.Walk.{Walk, Stop, Touch, Again, Goes, Leaves, Within, visits, visits_from, ending, final, taken_after, ending_from, final_from}
use Rattle.pgo_workers.specs.View.{Hold, EachHold, Once, resources_of}
use Rattle.pgo_workers.specs.Worker.{changes_of}
use Rattle.pgo_workers.specs.Sentences.{changes_at}

-- ---- held resources for an attempt's accesses

abbrev pub hold_of : (f h : ℕ → Data) → ℕ → Hold
hold_of f h r = record { resource = r; value = f r; count = 0; content = record { base = f r; current = h r; count = 0; number = None } }

abbrev pub holds_of : (f h : ℕ → Data) → List ℕ → List Hold
holds_of f h [] = []
holds_of f h (r ∷ rs) = hold_of f h r ∷ holds_of f h rs

pub changes_are : (f h : ℕ → Data) (rs : List ℕ) → changes_of (holds_of f h rs) ≡ changes_at rs f h
changes_are f h [] = refl
changes_are f h (r ∷ rs) = ap (λ l. record { resource = r; before = f r; after = h r } ∷ l) (changes_are f h rs)

pub held_are : (f h : ℕ → Data) (rs : List ℕ) → resources_of (holds_of f h rs) ≡ rs
held_are f h [] = refl
held_are f h (r ∷ rs) = ap (λ l. r ∷ l) (held_are f h rs)

pub each_held : (P : Hold → Type 0) (f h : ℕ → Data) (rs : List ℕ) → ((r : ℕ) → among r rs ≡ true → P (hold_of f h r)) → EachHold P (holds_of f h rs)
each_held P f h [] a = tt
each_held P f h (r ∷ rs) a = (a r (ap (λ b. if b then true else among r rs) (let z : nat_eq r r ≡ true = grind arith in z)), each_held P f h rs (λ q m. a q (more q m)))
  where
    more : (q : ℕ) → among q rs ≡ true → among q (r ∷ rs) ≡ true
    more q m = go (nat_eq q r) m
      where
        go : (b : Bool) → among q rs ≡ true → (if b then true else among q rs) ≡ true
        go true m = refl
        go false m = m

pub held_at : (P : Hold → Type 0) (f h : ℕ → Data) (rs : List ℕ) → EachHold P (holds_of f h rs) → (r : ℕ) → among r rs ≡ true → P (hold_of f h r)
held_at P f h [] e r m = absurd (grind (arith, m))
held_at P f h (q ∷ rs) e r m = go (nat_eq r q) refl m (λ m. held_at P f h rs e.1 r m)
  where
    go : (b : Bool) → nat_eq r q ≡ b → (if b then true else among r rs) ≡ true → (among r rs ≡ true → P (hold_of f h r)) → P (hold_of f h r)
    go true n m ih = subst (λ z. P (hold_of f h z)) (sym ((equal_or r q true n).0 refl)) e.0
    go false n m ih = ih m

-- ---- first occurrences

pub among_last : (q r : ℕ) (l : List ℕ) → among q (l ++ (r ∷ [])) ≡ (if among q l then true else (if nat_eq q r then true else false))
among_last q r [] = refl
among_last q r (x ∷ l) = go (nat_eq q x) (among_last q r l)
  where
    go : (b : Bool) → among q (l ++ (r ∷ [])) ≡ (if among q l then true else (if nat_eq q r then true else false))
        → (if b then true else among q (l ++ (r ∷ []))) ≡ (if (if b then true else among q l) then true else (if nat_eq q r then true else false))
    go true ih = refl
    go false ih = ih

pub once_last : (r : ℕ) (l : List ℕ) → Once l → among r l ≡ false → Once (l ++ (r ∷ []))
once_last r [] o n = (refl, tt)
once_last r (x ∷ l) o n = go (nat_eq r x) refl n (λ n. once_last r l o.1 n)
  where
    go : (b : Bool) → nat_eq r x ≡ b → (if b then true else among r l) ≡ false → (among r l ≡ false → Once (l ++ (r ∷ []))) → Once (x ∷ (l ++ (r ∷ [])))
    go true e n ih = absurd (grind (arith, n))
    go false e n ih =
        let other : nat_eq x r ≡ false = grind (arith, e) in
        (among_last x r l ∙ (λ i. if o.0 i then true else (if other i then true else false)), ih n)

pub taken_once : (rs taken : List ℕ) → Once taken → Once (taken_after rs taken)
taken_once [] taken o = o
taken_once (r ∷ rs) taken o = go (among r taken) refl (taken_once rs taken o) (λ h. taken_once rs (taken ++ (r ∷ [])) h)
  where
    go : (b : Bool) → among r taken ≡ b → Once (taken_after rs taken) → (Once (taken ++ (r ∷ [])) → Once (taken_after rs (taken ++ (r ∷ [])))) → Once (if b then taken_after rs taken else taken_after rs (taken ++ (r ∷ [])))
    go true e here more = here
    go false e here more = more (once_last r taken o e)

pub or_false : (a b : Bool) → (if a then true else b) ≡ true → (a ≡ true) ⊎ (b ≡ true)
or_false true b h = inl refl
or_false false b h = inr h

-- what is taken was accessed, and what was accessed is taken
pub taken_from : (q : ℕ) (rs taken : List ℕ) → among q (taken_after rs taken) ≡ true → (among q rs ≡ true) ⊎ (among q taken ≡ true)
taken_from q [] taken m = inr m
taken_from q (r ∷ rs) taken m = go (among r taken) m (λ m. taken_from q rs taken m) (λ m. taken_from q rs (taken ++ (r ∷ [])) m)
  where
    later : (among q rs ≡ true) ⊎ (among q taken ≡ true) → (among q (r ∷ rs) ≡ true) ⊎ (among q taken ≡ true)
    later (inl m) = inl (by (nat_eq q r) m)
      where
        by : (b : Bool) → among q rs ≡ true → (if b then true else among q rs) ≡ true
        by true m = refl
        by false m = m
    later (inr m) = inr m

    new : (b : Bool) → (if b then true else false) ≡ true → (if b then true else among q rs) ≡ true
    new true h = refl
    new false h = absurd (grind (arith, h))

    last : (among q rs ≡ true) ⊎ (among q (taken ++ (r ∷ [])) ≡ true) → (among q (r ∷ rs) ≡ true) ⊎ (among q taken ≡ true)
    last (inl m) = later (inl m)
    last (inr m) = either (or_false (among q taken) (if nat_eq q r then true else false) (sym (among_last q r taken) ∙ m))
      where
        either : (among q taken ≡ true) ⊎ ((if nat_eq q r then true else false) ≡ true) → (among q (r ∷ rs) ≡ true) ⊎ (among q taken ≡ true)
        either (inl m) = inr m
        either (inr h) = inl (new (nat_eq q r) h)

    go : (b : Bool) → among q (if b then taken_after rs taken else taken_after rs (taken ++ (r ∷ []))) ≡ true → (among q (taken_after rs taken) ≡ true → (among q rs ≡ true) ⊎ (among q taken ≡ true))
        → (among q (taken_after rs (taken ++ (r ∷ []))) ≡ true → (among q rs ≡ true) ⊎ (among q (taken ++ (r ∷ [])) ≡ true)) → (among q (r ∷ rs) ≡ true) ⊎ (among q taken ≡ true)
    go true m here more = later (here m)
    go false m here more = last (more m)

pub taken_still : (q : ℕ) (rs taken : List ℕ) → among q taken ≡ true → among q (taken_after rs taken) ≡ true
taken_still q [] taken m = m
taken_still q (r ∷ rs) taken m = go (among r taken) (taken_still q rs taken m) (λ m. taken_still q rs (taken ++ (r ∷ [])) m)
  where
    go : (b : Bool) → among q (taken_after rs taken) ≡ true → (among q (taken ++ (r ∷ [])) ≡ true → among q (taken_after rs (taken ++ (r ∷ []))) ≡ true) → among q (if b then taken_after rs taken else taken_after rs (taken ++ (r ∷ []))) ≡ true
    go true here more = here
    go false here more = more (among_last q r taken ∙ ap (λ b. if b then true else (if nat_eq q r then true else false)) m)

pub taken_to : (q : ℕ) (rs taken : List ℕ) → among q rs ≡ true → among q (taken_after rs taken) ≡ true
taken_to q [] taken m = absurd (grind (arith, m))
taken_to q (r ∷ rs) taken m = go (nat_eq q r) refl m (among r taken) refl (λ m. taken_to q rs taken m) (λ m. taken_to q rs (taken ++ (r ∷ [])) m)
  where
    go : (c : Bool) → nat_eq q r ≡ c → (if c then true else among q rs) ≡ true → (b : Bool) → among r taken ≡ b → (among q rs ≡ true → among q (taken_after rs taken) ≡ true) → (among q rs ≡ true → among q (taken_after rs (taken ++ (r ∷ []))) ≡ true)
        → among q (if b then taken_after rs taken else taken_after rs (taken ++ (r ∷ []))) ≡ true
    go true e m true n here more = taken_still q rs taken (ap (λ z. among z taken) ((equal_or q r true e).0 refl) ∙ n)
    go true e m false n here more =
        taken_still q rs (taken ++ (r ∷ [])) (among_last q r taken ∙ (λ i. if among q taken then true else (if e i then true else false)) ∙ either (among q taken))
      where
        either : (b : Bool) → (if b then true else true) ≡ true
        either true = refl
        either false = refl
    go false e m true n here more = here m
    go false e m false n here more = more m

-- ---- walks

-- what is not accessed stays
untouched_from : (s : ℕ → Data) (w : Walk) (f : ℕ → Data) (r : ℕ) → among r (visits_from s w f) ≡ false → f r ≡ s r → final_from s w f r ≡ s r
untouched_from s (Stop e) f r n same = same
untouched_from s (Again w) f r n same = untouched_from s w s r n refl
untouched_from s (Touch q leave rest) f r n same = go (nat_eq r q) refl n (λ n e. untouched_from s (rest (f q)) (put q (leave (f q)) f) r n e)
  where
    go : (b : Bool) → nat_eq r q ≡ b → (if b then true else among r (visits_from s (rest (f q)) (put q (leave (f q)) f))) ≡ false
        → (among r (visits_from s (rest (f q)) (put q (leave (f q)) f)) ≡ false → put q (leave (f q)) f r ≡ s r → final_from s (rest (f q)) (put q (leave (f q)) f) r ≡ s r)
        → final_from s (rest (f q)) (put q (leave (f q)) f) r ≡ s r
    go true e n ih = absurd (grind (arith, n))
    go false e n ih = ih n (ap (λ b. if b then leave (f q) else f r) e ∙ same)

pub untouched : (w : Walk) (f : ℕ → Data) (r : ℕ) → among r (visits w f) ≡ false → final w f r ≡ f r
untouched w f r n = untouched_from f w f r n refl

visited_in : (P : ℕ → Type 0) (Q : walks.Own → Type 0) (s : ℕ → Data) (w : Walk) (f : ℕ → Data) → Within P Q w → (r : ℕ) → among r (visits_from s w f) ≡ true → P r
visited_in P Q s (Stop e) f h r m = absurd (grind (arith, m))
visited_in P Q s (Again w) f h r m = visited_in P Q s w s h r m
visited_in P Q s (Touch q leave rest) f h r m = go (nat_eq r q) refl m (λ m. visited_in P Q s (rest (f q)) (put q (leave (f q)) f) (h.1 (f q)) r m)
  where
    go : (b : Bool) → nat_eq r q ≡ b → (if b then true else among r (visits_from s (rest (f q)) (put q (leave (f q)) f))) ≡ true → (among r (visits_from s (rest (f q)) (put q (leave (f q)) f)) ≡ true → P r) → P r
    go true e m ih = subst P (sym ((equal_or r q true e).0 refl)) h.0
    go false e m ih = ih m

pub visits_in : (P : ℕ → Type 0) (Q : walks.Own → Type 0) (w : Walk) (f : ℕ → Data) → Within P Q w → (r : ℕ) → among r (visits w f) ≡ true → P r
visits_in P Q w f h r m = visited_in P Q f w f h r m

ended_in : (P : ℕ → Type 0) (Q : walks.Own → Type 0) (s : ℕ → Data) (w : Walk) (f : ℕ → Data) (o : walks.Own) (ps : List Data) → Within P Q w → ending_from s w f ≡ Goes o ps → Q o
ended_in P Q s (Stop e) f o ps h is = subst (Leaves Q) is h
ended_in P Q s (Again w) f o ps h is = ended_in P Q s w s o ps h is
ended_in P Q s (Touch q leave rest) f o ps h is = ended_in P Q s (rest (f q)) (put q (leave (f q)) f) o ps (h.1 (f q)) is

pub ends_in : (P : ℕ → Type 0) (Q : walks.Own → Type 0) (w : Walk) (f : ℕ → Data) (o : walks.Own) (ps : List Data) → Within P Q w → ending w f ≡ Goes o ps → Q o
ends_in P Q w f o ps h is = ended_in P Q f w f o ps h is
