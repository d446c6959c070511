-- A claim more, and one less.
use Rattle.std.proofs.Common.{◌≡◌, ◌<◌, ◌≤◌, ◌-◌, ℕ, zero, suc, Bool, true, false, List, [], ◌∷◌, ◌++◌, length, get_or, Some, None, refl, sym, ap, ◌∙◌, subst, arith}
use Rattle.std.specs.Prelude.{if◌then◌else◌, nat_eq, nat_le, ◌&&◌}
use Rattle.std.specs.List.{remove}
use Rattle.std.proofs.lemmas.Bool.{and_parts}
use Rattle.pgo_model.specs.Machine.{among}
use Rattle.pgo_model.specs.MachineAccounts.{equal_or}
use Rattle.pgo_resource.specs.declared.taken.Taken.{Taken}
use Rattle.pgo_resource.specs.PlainRows.{taken_of, apart, without_taken}
use Rattle.pgo_resource.specs.PlainSets.{eq_turned}
use Rattle.pgo_resource.proofs.PlainPlaces.{apart_parts, drop_one, taken_without}
use Rattle.pgo_core.specs.declared.claims.Claim.{Claim}
use Rattle.pgo_core.specs.Claims.{claimed, taken_in, taken_by, holder_of, without_claim, are_within, before}
use Rattle.pgo_core.specs.ClaimLaws.{some_by}

-- ---- who holds what

pub nobody : (cs : List Claim) (r : ℕ) → holder_of cs r ≡ None → among r (claimed cs) ≡ false
nobody [] r h = refl
nobody (c ∷ cs) r h = go (nat_eq c.resource r) refl h (λ h. nobody cs r h)
  where
    go : (b : Bool) → nat_eq c.resource r ≡ b → (if b then Some c.holder else holder_of cs r) ≡ None → (holder_of cs r ≡ None → among r (claimed cs) ≡ false) → (if nat_eq r c.resource then true else among r (claimed cs)) ≡ false
    go true e h ih = absurd (grind (arith, h))
    go false e h ih = ap (λ d. if d then true else among r (claimed cs)) (eq_turned r c.resource ∙ e) ∙ ih h

some_same : (x y : ℕ) → Some x ≡ Some y → x ≡ y
some_same x y h = grind (arith, h)

pub holds : (cs : List Claim) (r h : ℕ) → holder_of cs r ≡ Some h → among r (taken_of (taken_by h cs)) ≡ true
holds [] r h e = absurd (grind (arith, e))
holds (c ∷ cs) r h e = go (nat_eq c.resource r) refl e (λ e. holds cs r h e)
  where
    over : (b : Bool) → among r (taken_of (taken_by h cs)) ≡ true → among r (taken_of (if b then taken_in c ∷ taken_by h cs else taken_by h cs)) ≡ true
    over true e = step (nat_eq r c.resource) e
      where
        step : (d : Bool) → among r (taken_of (taken_by h cs)) ≡ true → (if d then true else among r (taken_of (taken_by h cs))) ≡ true
        step true e = refl
        step false e = e
    over false e = e

    go : (b : Bool) → nat_eq c.resource r ≡ b → (if b then Some c.holder else holder_of cs r) ≡ Some h → (holder_of cs r ≡ Some h → among r (taken_of (taken_by h cs)) ≡ true) → among r (taken_of (if nat_eq c.holder h then taken_in c ∷ taken_by h cs else taken_by h cs)) ≡ true
    go true b e ih =
        let same : c.holder ≡ h = some_same c.holder h e in let t : nat_eq c.holder h ≡ true = grind (arith, same) in let u : nat_eq r c.resource ≡ true = eq_turned r c.resource ∙ b in
        ap (λ d. among r (taken_of (if d then taken_in c ∷ taken_by h cs else taken_by h cs))) t ∙ ap (λ d. if d then true else among r (taken_of (taken_by h cs))) u
    go false b e ih = over (nat_eq c.holder h) (ih e)

pub holder_within : (m : ℕ) (cs : List Claim) (r h : ℕ) → are_within m cs ≡ true → holder_of cs r ≡ Some h → h ≤ m
holder_within m [] r h w e = absurd (grind (arith, e))
holder_within m (c ∷ cs) r h w e = let p = and_parts (nat_le c.holder m) (are_within m cs) w in go (nat_eq c.resource r) e p.0 (λ e. holder_within m cs r h p.1 e)
  where
    go : (b : Bool) → (if b then Some c.holder else holder_of cs r) ≡ Some h → nat_le c.holder m ≡ true → (holder_of cs r ≡ Some h → h ≤ m) → h ≤ m
    go true e n ih = let same = some_same c.holder h e in let near : c.holder ≤ m = grind (arith, n) in subst (λ h. h ≤ m) same near
    go false e n ih = ih e

-- of two different numbers up to the last instance, each is an instance's
pub is_instance : (n h k : ℕ) → h ≤ n - 1 → k ≤ n - 1 → (h ≡ k → ⊥) → h < n
is_instance zero h k a b ne = let same : h ≡ k = omega (arith, a, b) in absurd (ne same)
is_instance (suc n) h k a b ne = omega (arith, a)

-- ---- a claim more

pub claimed_push : (cs : List Claim) (c : Claim) → claimed (cs ++ c ∷ []) ≡ claimed cs ++ c.resource ∷ []
claimed_push [] c = refl
claimed_push (d ∷ cs) c = ap (λ l. d.resource ∷ l) (claimed_push cs c)

pub claimed_length : (cs : List Claim) → length (claimed cs) ≡ length cs
claimed_length [] = refl
claimed_length (c ∷ cs) = ap (λ n. suc n) (claimed_length cs)

pub taken_push_own : (k : ℕ) (cs : List Claim) (c : Claim) → c.holder ≡ k → taken_by k (cs ++ c ∷ []) ≡ taken_by k cs ++ taken_in c ∷ []
taken_push_own k [] c e = let t : nat_eq c.holder k ≡ true = grind (arith, e) in ap (λ b. if b then taken_in c ∷ [] else []) t
taken_push_own k (d ∷ cs) c e = go (nat_eq d.holder k) (taken_push_own k cs c e)
  where
    go : (b : Bool) → taken_by k (cs ++ c ∷ []) ≡ taken_by k cs ++ taken_in c ∷ [] → (if b then taken_in d ∷ taken_by k (cs ++ c ∷ []) else taken_by k (cs ++ c ∷ [])) ≡ (if b then taken_in d ∷ taken_by k cs else taken_by k cs) ++ taken_in c ∷ []
    go true ih = ap (λ l. taken_in d ∷ l) ih
    go false ih = ih

pub taken_push_else : (j : ℕ) (cs : List Claim) (c : Claim) → (c.holder ≡ j → ⊥) → taken_by j (cs ++ c ∷ []) ≡ taken_by j cs
taken_push_else j [] c n = go (nat_eq c.holder j) refl
  where
    go : (b : Bool) → nat_eq c.holder j ≡ b → (if b then taken_in c ∷ [] else []) ≡ []
    go true e = absurd (n ((equal_or c.holder j true e).0 refl))
    go false e = refl
taken_push_else j (d ∷ cs) c n = go (nat_eq d.holder j) (taken_push_else j cs c n)
  where
    go : (b : Bool) → taken_by j (cs ++ c ∷ []) ≡ taken_by j cs → (if b then taken_in d ∷ taken_by j (cs ++ c ∷ []) else taken_by j (cs ++ c ∷ [])) ≡ (if b then taken_in d ∷ taken_by j cs else taken_by j cs)
    go true ih = ap (λ l. taken_in d ∷ l) ih
    go false ih = ih

pub within_push : (m : ℕ) (cs : List Claim) (c : Claim) → are_within m cs ≡ true → c.holder ≤ m → are_within m (cs ++ c ∷ []) ≡ true
within_push m [] c w n = let t : nat_le c.holder m ≡ true = grind (arith, n) in ap (λ b. b && true) t
within_push m (d ∷ cs) c w n = let p = and_parts (nat_le d.holder m) (are_within m cs) w in (λ i. p.0 i && within_push m cs c p.1 n i)

-- ---- one less

abbrev all_taken : List Claim → List Taken
all_taken [] = []
all_taken (c ∷ cs) = taken_in c ∷ all_taken cs

claimed_all : (cs : List Claim) → claimed cs ≡ taken_of (all_taken cs)
claimed_all [] = refl
claimed_all (c ∷ cs) = ap (λ l. c.resource ∷ l) (claimed_all cs)

without_all : (cs : List Claim) (r : ℕ) → all_taken (without_claim cs r) ≡ without_taken (all_taken cs) r
without_all [] r = refl
without_all (c ∷ cs) r = go (nat_eq c.resource r) (without_all cs r)
  where
    go : (b : Bool) → all_taken (without_claim cs r) ≡ without_taken (all_taken cs) r → all_taken (if b then cs else c ∷ without_claim cs r) ≡ (if b then all_taken cs else taken_in c ∷ without_taken (all_taken cs) r)
    go true e = refl
    go false e = ap (λ l. taken_in c ∷ l) e

pub claimed_without : (cs : List Claim) (r : ℕ) → claimed (without_claim cs r) ≡ drop_one r (claimed cs)
claimed_without cs r = claimed_all (without_claim cs r) ∙ ap taken_of (without_all cs r) ∙ taken_without (all_taken cs) r ∙ ap (drop_one r) (sym (claimed_all cs))

pub within_without : (m : ℕ) (cs : List Claim) (r : ℕ) → are_within m cs ≡ true → are_within m (without_claim cs r) ≡ true
within_without m [] r w = refl
within_without m (c ∷ cs) r w = let p = and_parts (nat_le c.holder m) (are_within m cs) w in go (nat_eq c.resource r) p.0 p.1 (within_without m cs r p.1)
  where
    go : (b : Bool) → nat_le c.holder m ≡ true → are_within m cs ≡ true → are_within m (without_claim cs r) ≡ true → are_within m (if b then cs else c ∷ without_claim cs r) ≡ true
    go true n w ih = w
    go false n w ih = (λ i. n i && ih i)

-- the rest of a list of which r is the first, or isn't
among_behind : (r q : ℕ) (rs : List ℕ) → nat_eq q r ≡ false → among r (q ∷ rs) ≡ true → among r rs ≡ true
among_behind r q rs n h = sym (ap (λ b. if b then true else among r rs) (eq_turned r q ∙ n)) ∙ h

module _ (n r k : ℕ) where
  -- who holds r holds the first claim of it
  first_is : (c : Claim) (cs : List Claim) → apart n (claimed (c ∷ cs)) ≡ true → among r (taken_of (taken_by k (c ∷ cs))) ≡ true → nat_eq c.resource r ≡ true → nat_eq c.holder k ≡ true
  first_is c cs a h e = let m = apart_parts n c.resource (claimed cs) a in go (nat_eq c.holder k) m.1 h
    where
      go : (b : Bool) → among c.resource (claimed cs) ≡ false → among r (taken_of (if b then taken_in c ∷ taken_by k cs else taken_by k cs)) ≡ true → b ≡ true
      go true out h = refl
      go false out h = let same : c.resource ≡ r = grind (arith, e) in let s = some_by k r cs h in absurd (grind (arith, out, s, ap (λ x. among x (claimed cs)) same))

  still_held : (c : Claim) (cs : List Claim) → nat_eq c.resource r ≡ false → among r (taken_of (taken_by k (c ∷ cs))) ≡ true → among r (taken_of (taken_by k cs)) ≡ true
  still_held c cs e h = go (nat_eq c.holder k) h
    where
      go : (b : Bool) → among r (taken_of (if b then taken_in c ∷ taken_by k cs else taken_by k cs)) ≡ true → among r (taken_of (taken_by k cs)) ≡ true
      go true h = among_behind r c.resource (taken_of (taken_by k cs)) e h
      go false h = h

  pub taken_without_own : (cs : List Claim) → apart n (claimed cs) ≡ true → among r (taken_of (taken_by k cs)) ≡ true → taken_by k (without_claim cs r) ≡ without_taken (taken_by k cs) r
  taken_without_own [] a h = refl
  taken_without_own (c ∷ cs) a h = let m = apart_parts n c.resource (claimed cs) a in go (nat_eq c.resource r) refl (first_is c cs a h) (λ e. taken_without_own cs m.2 (still_held c cs e h))
    where
      over : (x : Bool) → nat_eq c.resource r ≡ false → taken_by k (without_claim cs r) ≡ without_taken (taken_by k cs) r
          → (if x then taken_in c ∷ taken_by k (without_claim cs r) else taken_by k (without_claim cs r)) ≡ without_taken (if x then taken_in c ∷ taken_by k cs else taken_by k cs) r
      over true e ih = ap (λ l. taken_in c ∷ l) ih ∙ sym (ap (λ b. if b then taken_by k cs else taken_in c ∷ without_taken (taken_by k cs) r) e)
      over false e ih = ih

      go : (b : Bool) → nat_eq c.resource r ≡ b → (nat_eq c.resource r ≡ true → nat_eq c.holder k ≡ true) → (nat_eq c.resource r ≡ false → taken_by k (without_claim cs r) ≡ without_taken (taken_by k cs) r)
          → taken_by k (if b then cs else c ∷ without_claim cs r) ≡ without_taken (if nat_eq c.holder k then taken_in c ∷ taken_by k cs else taken_by k cs) r
      go true e f ih = sym (ap (λ b. without_taken (if b then taken_in c ∷ taken_by k cs else taken_by k cs) r) (f e) ∙ ap (λ b. if b then taken_by k cs else taken_in c ∷ without_taken (taken_by k cs) r) e)
      go false e f ih = over (nat_eq c.holder k) e (ih e)

  pub taken_without_else : (j : ℕ) → (j ≡ k → ⊥) → (cs : List Claim) → apart n (claimed cs) ≡ true → among r (taken_of (taken_by k cs)) ≡ true → taken_by j (without_claim cs r) ≡ taken_by j cs
  taken_without_else j ne [] a h = refl
  taken_without_else j ne (c ∷ cs) a h = let m = apart_parts n c.resource (claimed cs) a in go (nat_eq c.resource r) refl (first_is c cs a h) (λ e. taken_without_else j ne cs m.2 (still_held c cs e h))
    where
      not_j : nat_eq c.holder k ≡ true → (x : Bool) → nat_eq c.holder j ≡ x → taken_by j cs ≡ (if x then taken_in c ∷ taken_by j cs else taken_by j cs)
      not_j e true f = absurd (ne (sym ((equal_or c.holder j true f).0 refl) ∙ (equal_or c.holder k true e).0 refl))
      not_j e false f = refl

      over : (x : Bool) → taken_by j (without_claim cs r) ≡ taken_by j cs → (if x then taken_in c ∷ taken_by j (without_claim cs r) else taken_by j (without_claim cs r)) ≡ (if x then taken_in c ∷ taken_by j cs else taken_by j cs)
      over true ih = ap (λ l. taken_in c ∷ l) ih
      over false ih = ih

      go : (b : Bool) → nat_eq c.resource r ≡ b → (nat_eq c.resource r ≡ true → nat_eq c.holder k ≡ true) → (nat_eq c.resource r ≡ false → taken_by j (without_claim cs r) ≡ taken_by j cs)
          → taken_by j (if b then cs else c ∷ without_claim cs r) ≡ (if nat_eq c.holder j then taken_in c ∷ taken_by j cs else taken_by j cs)
      go true e f ih = not_j (f e) (nat_eq c.holder j) refl
      go false e f ih = over (nat_eq c.holder j) (ih e)

-- ---- the loop that forgets

pub before_more : (i : ℕ) (cs : List Claim) (r : ℕ) (x : Claim) → before i cs r ≡ true → i < length cs → x ≡ get_or cs i x → (x.resource ≡ r → ⊥) → before (suc i) cs r ≡ true
before_more zero [] r x b near at ne = absurd (omega (arith, near))
before_more (suc i) [] r x b near at ne = absurd (omega (arith, near))
before_more zero (c ∷ cs) r x b near at ne = go (nat_eq c.resource r) refl
  where
    go : (d : Bool) → nat_eq c.resource r ≡ d → (if d then false else true) ≡ true
    go true e = let same : c.resource ≡ r = grind (arith, e) in absurd (ne (ap (λ (t : Claim). t.resource) at ∙ same))
    go false e = refl
before_more (suc i) (c ∷ cs) r x b near at ne = go (nat_eq c.resource r) b (λ b. before_more i cs r x b (omega (arith, near)) at ne)
  where
    go : (d : Bool) → (if d then false else before i cs r) ≡ true → (before i cs r ≡ true → before (suc i) cs r ≡ true) → (if d then false else before (suc i) cs r) ≡ true
    go true b ih = absurd (grind (arith, b))
    go false b ih = ih b

pub remove_is : (i : ℕ) (cs : List Claim) (r : ℕ) (x : Claim) → before i cs r ≡ true → i < length cs → x ≡ get_or cs i x → x.resource ≡ r → remove cs i ≡ without_claim cs r
remove_is zero [] r x b near at e = absurd (omega (arith, near))
remove_is (suc i) [] r x b near at e = absurd (omega (arith, near))
remove_is zero (c ∷ cs) r x b near at e =
    let same : c.resource ≡ r = ap (λ (t : Claim). t.resource) (sym at) ∙ e in
    let t : nat_eq c.resource r ≡ true = grind (arith, same) in
    sym (ap (λ d. if d then cs else c ∷ without_claim cs r) t)
remove_is (suc i) (c ∷ cs) r x b near at e = go (nat_eq c.resource r) b (λ b. remove_is i cs r x b (omega (arith, near)) at e)
  where
    go : (d : Bool) → (if d then false else before i cs r) ≡ true → (before i cs r ≡ true → remove cs i ≡ without_claim cs r) → c ∷ remove cs i ≡ (if d then cs else c ∷ without_claim cs r)
    go true b ih = absurd (grind (arith, b))
    go false b ih = ap (λ l. c ∷ l) (ih b)

pub without_none : (i : ℕ) (cs : List Claim) (r : ℕ) → before i cs r ≡ true → length cs ≤ i → cs ≡ without_claim cs r
without_none i [] r b far = refl
without_none zero (c ∷ cs) r b far = absurd (omega (arith, far))
without_none (suc i) (c ∷ cs) r b far = go (nat_eq c.resource r) b (λ b. without_none i cs r b (omega (arith, far)))
  where
    go : (d : Bool) → (if d then false else before i cs r) ≡ true → (before i cs r ≡ true → cs ≡ without_claim cs r) → c ∷ cs ≡ (if d then cs else c ∷ without_claim cs r)
    go true b ih = absurd (grind (arith, b))
    go false b ih = ap (λ l. c ∷ l) (ih b)
