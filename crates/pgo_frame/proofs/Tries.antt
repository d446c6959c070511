-- Two attempts beside each other, of leaves that do the same on two states, or whose traces part where these don't agree.
use Rattle.std.proofs.Common.{◌≡◌, ℕ, zero, suc, Bool, true, false, List, [], ◌∷◌, ◌++◌, take, Option, Some, None, ◌⊎◌, inl, inr, refl, sym, ap, ◌∙◌, subst, arith}
use Rattle.std.specs.Prelude.{if◌then◌else◌}
use Rattle.pgo_base.specs.Lookup.{Vars}
use Rattle.pgo_model.specs.Outcome.{Outcome, Next, Stuck, Nowhere, Section}
use Rattle.pgo_model.specs.System.{Words, Touched}
use Rattle.pgo_tries.specs.Attempts.{Tried, is_blocked, then_next, try_from}
use Rattle.pgo_tries.specs.Chosen.{turned}
use Rattle.pgo_tries.specs.Sections.{along}
use Rattle.pgo_workers.specs.Walk.{append_assoc}
use Rattle.pgo_frame.specs.Agreement.{AgreeOn, SameEnd}
use Rattle.pgo_frame.proofs.Parted.{agrees, agree_test, append_none, Parted}

-- ---- an attempt by its first leaf

module _ (run : Words → Tried Touched Vars) (w : Words) (room : ℕ) (p : List ℕ) where
  abbrev leaf : Tried Touched Vars
  leaf = run (along 0 p w)

  abbrev rest : List ℕ → Section Touched Vars
  rest q = try_from run w room q

  stays : is_blocked leaf.section.end ≡ false → try_from run w (suc room) p ≡ leaf.section
  stays e = ap (λ (b : Bool). if b then then_next leaf.section rest (turned w 0 leaf.points) else leaf.section) e

  turns : (o : Option (List ℕ)) → is_blocked leaf.section.end ≡ true → turned w 0 leaf.points ≡ o → try_from run w (suc room) p ≡ then_next leaf.section rest o
  turns o e t =
      ap (λ (b : Bool). if b then then_next leaf.section rest (turned w 0 leaf.points) else leaf.section) e ∙ ap (then_next leaf.section rest) t

  -- it begins with what that accesses
  begins : (more : List Touched) × ((try_from run w (suc room) p).trace ≡ leaf.section.trace ++ more)
  begins = go (is_blocked leaf.section.end) (turned w 0 leaf.points)
    where
      go : (b : Bool) (o : Option (List ℕ)) → (more : List Touched) × ((if b then then_next leaf.section rest o else leaf.section).trace ≡ leaf.section.trace ++ more)
      go true None = ([], sym (append_none leaf.section.trace))
      go true (Some q) = ((rest q).trace, refl)
      go false o = ([], sym (append_none leaf.section.trace))

module _ (s t : Vars) where
  -- their traces part where the states don't agree, or they do the same
  abbrev pub Alike : Section Touched Vars → Section Touched Vars → Type 0
  Alike x y = Parted s t x.trace y.trace ⊎ ((x.trace ≡ y.trace) × SameEnd s t x.end y.end)

  -- and make the same choices
  abbrev pub AlikeLeaf : Tried Touched Vars → Tried Touched Vars → Type 0
  AlikeLeaf x y = Parted s t x.section.trace y.section.trace ⊎ ((x.section.trace ≡ y.section.trace) × (x.points ≡ y.points) × SameEnd s t x.section.end y.section.end)

  -- ---- what follows

  differing : (before : List Touched) (at : Touched) (rest : List Touched) → agrees s t at ≡ false → AgreeOn s t (before ++ (at ∷ rest)) → ⊥
  differing [] at rest n h = let z : true ≡ false = sym (agree_test s t at h.0) ∙ n in grind (arith, z)
  differing (c ∷ before) at rest n h = differing before at rest n h.1

  taken : (j : ℕ) (before : List Touched) (at : Touched) (rest rest' : List Touched) → agrees s t at ≡ false → AgreeOn s t (take j (before ++ (at ∷ rest))) → take (suc j) (before ++ (at ∷ rest)) ≡ take (suc j) (before ++ (at ∷ rest'))
  taken zero [] at rest rest' n h = refl
  taken (suc j) [] at rest rest' n h = absurd (let z : true ≡ false = sym (agree_test s t at h.0) ∙ n in grind (arith, z))
  taken zero (c ∷ before) at rest rest' n h = refl
  taken (suc j) (c ∷ before) at rest rest' n h = ap (λ l. c ∷ l) (taken j before at rest rest' n h.1)

  pub all_same : (x y : Section Touched Vars) → Alike x y → AgreeOn s t x.trace → (x.trace ≡ y.trace) × SameEnd s t x.end y.end
  all_same x y (inl p) h = absurd (differing p.before p.at p.rest p.differs (subst (AgreeOn s t) p.left h))
  all_same x y (inr e) h = e

  pub front_same : (x y : Section Touched Vars) → Alike x y → (j : ℕ) → AgreeOn s t (take j x.trace) → take (suc j) x.trace ≡ take (suc j) y.trace
  front_same x y (inl p) j h = ap (take (suc j)) p.left ∙ taken j p.before p.at p.rest p.rest' p.differs (subst (λ l. AgreeOn s t (take j l)) p.left h) ∙ sym (ap (take (suc j)) p.right)
  front_same x y (inr e) j h = ap (take (suc j)) e.0

  -- ---- attempts

  -- ends that are alike are Blocked together
  blocked_same : (o e : Outcome Vars) → SameEnd s t o e → is_blocked o ≡ is_blocked e
  blocked_same (Next u ps) (Next v qs) h = refl
  blocked_same (Next u ps) (Stuck k) h = absurd h
  blocked_same (Next u ps) Nowhere h = absurd h
  blocked_same (Stuck k) (Next v qs) h = absurd h
  blocked_same (Stuck k) (Stuck j) h = ap (λ k. is_blocked {S = Vars} (Stuck k)) h
  blocked_same (Stuck k) Nowhere h = absurd h
  blocked_same Nowhere (Next v qs) h = absurd h
  blocked_same Nowhere (Stuck k) h = absurd h
  blocked_same Nowhere Nowhere h = refl

  -- what begins with traces that part does
  parted_more : (l m a c : List Touched) → Parted s t l m → Parted s t (l ++ a) (m ++ c)
  parted_more l m a c h = record {
    before = h.before;
    at = h.at;
    rest = h.rest ++ a;
    rest' = h.rest' ++ c;
    left = ap (λ l. l ++ a) h.left ∙ append_assoc h.before (h.at ∷ h.rest) a;
    right = ap (λ l. l ++ c) h.right ∙ append_assoc h.before (h.at ∷ h.rest') c;
    differs = h.differs;
  }

  -- and so does what ends with them, behind the same
  parted_behind : (l m a c : List Touched) → l ≡ m → Parted s t a c → Parted s t (l ++ a) (m ++ c)
  parted_behind l m a c e h = record {
    before = l ++ h.before;
    at = h.at;
    rest = h.rest;
    rest' = h.rest';
    left = ap (λ a. l ++ a) h.left ∙ sym (append_assoc l h.before (h.at ∷ h.rest));
    right = ap (λ c. m ++ c) h.right ∙ sym (append_assoc m h.before (h.at ∷ h.rest')) ∙ ap (λ m. (m ++ h.before) ++ (h.at ∷ h.rest')) (sym e);
    differs = h.differs;
  }

  module _ (run run' : Words → Tried Touched Vars) (w : Words) (each : (v : Words) → AlikeLeaf (run v) (run' v)) where
    pub tries_alike : (room : ℕ) (p : List ℕ) → Alike (try_from run w room p) (try_from run' w room p)
    tries_alike zero p = inr (refl, refl)
    tries_alike (suc room) p = go (each (along 0 p w)) (λ q. tries_alike room q)
      where
        x : Tried Touched Vars
        x = run (along 0 p w)

        y : Tried Touched Vars
        y = run' (along 0 p w)

        -- which are these
        are : (a c : Section Touched Vars) → try_from run w (suc room) p ≡ a → try_from run' w (suc room) p ≡ c → Alike a c → Alike (try_from run w (suc room) p) (try_from run' w (suc room) p)
        are a c e f h = subst (λ z. Alike z (try_from run' w (suc room) p)) (sym e) (subst (Alike a) (sym f) h)

        next : (x y : Section Touched Vars) → (x.trace ≡ y.trace) × SameEnd s t x.end y.end → (o : Option (List ℕ)) → ((q : List ℕ) → Alike (try_from run w room q) (try_from run' w room q))
            → Alike (then_next x (λ q. try_from run w room q) o) (then_next y (λ q. try_from run' w room q) o)
        next x y h None ih = inr h
        next x y h (Some q) ih = join (ih q)
          where
            join : Alike (try_from run w room q) (try_from run' w room q) → Alike (then_next x (λ q. try_from run w room q) (Some q)) (then_next y (λ q. try_from run' w room q) (Some q))
            join (inl p) = inl (parted_behind x.trace y.trace (try_from run w room q).trace (try_from run' w room q).trace h.0 p)
            join (inr e) = inr ((λ i. h.0 i ++ e.0 i), e.1)

        go : AlikeLeaf x y → ((q : List ℕ) → Alike (try_from run w room q) (try_from run' w room q)) → Alike (try_from run w (suc room) p) (try_from run' w (suc room) p)
        go (inl h) ih =
            let a = begins run w room p in let c = begins run' w room p in
            inl (subst (λ l. Parted s t l (try_from run' w (suc room) p).trace) (sym a.1) (subst (Parted s t (x.section.trace ++ a.0)) (sym c.1) (parted_more x.section.trace y.section.trace a.0 c.0 h)))
        go (inr h) ih = by (is_blocked x.section.end) refl
          where
            same : is_blocked x.section.end ≡ is_blocked y.section.end
            same = blocked_same x.section.end y.section.end h.2

            by : (b : Bool) → is_blocked x.section.end ≡ b → Alike (try_from run w (suc room) p) (try_from run' w (suc room) p)
            by false e = are x.section y.section (stays run w room p e) (stays run' w room p (sym same ∙ e)) (inr (h.0, h.2))
            by true e =
                let o = turned w 0 x.points in
                are (then_next x.section (λ q. try_from run w room q) o) (then_next y.section (λ q. try_from run' w room q) o) (turns run w room p o e refl) (turns run' w room p o (sym same ∙ e) (ap (turned w 0) (sym h.1)))
                (next x.section y.section (h.0, h.2) o ih)
