-- Journals that grow at their end.
use Rattle.std.proofs.Common.{◌≡◌, ℕ, zero, suc, ◌+◌, ◌≤◌, ◌≢◌, Bool, true, false, List, [], ◌∷◌, ◌++◌, Some, length, sym, refl, ap, ◌∙◌, subst, arith}
use Rattle.std.specs.Prelude.{if◌then◌else◌, nat_eq}
use Rattle.pgo_model.specs.Log.{Effect}
use Rattle.pgo_model.specs.Machine.{Entry, Note, nth}
use Rattle.pgo_workers.specs.Walk.{Own}
use Rattle.pgo_workers.specs.View.{World, Others, OtherNotes, notes_of, own_left, changed, along, state}
use Rattle.pgo_table.specs.Rule.{behind, component, AllOf, Laws}
use Rattle.pgo_table.proofs.Sums.{eq_is, not_eq}

pub length_append : {A : Type 0} (a b : List A) → length (a ++ b) ≡ length a + length b
length_append [] b = omega arith
length_append (x ∷ a) b = omega (arith, length_append a b)

pub others_append : (k : ℕ) (a b : List (Entry Effect)) → Others k a → Others k b → Others k (a ++ b)
others_append k [] b h g = g
others_append k (e ∷ a) b h g = (h.0, others_append k a b h.1 g)

pub other_notes_append : (k : ℕ) (a b : List Note) → OtherNotes k a → OtherNotes k b → OtherNotes k (a ++ b)
other_notes_append k [] b h g = g
other_notes_append k (e ∷ a) b h g = (h.0, other_notes_append k a b h.1 g)

-- all of instance k
abbrev pub Mine : ℕ → List (Entry Effect) → Type 0
Mine k [] = Unit {0}
Mine k (e ∷ es) = (e.instance ≡ k) × Mine k es

abbrev pub MyNotes : ℕ → List Note → Type 0
MyNotes k [] = Unit {0}
MyNotes k (n ∷ ns) = (n.instance ≡ k) × MyNotes k ns

pub mine_others : (k j : ℕ) (es : List (Entry Effect)) → j ≢ k → Mine k es → Others j es
mine_others k j [] ne h = tt
mine_others k j (e ∷ es) ne h = ((λ is. ne (sym is ∙ h.0)), mine_others k j es ne h.1)

pub my_notes_others : (k j : ℕ) (es : List Note) → j ≢ k → MyNotes k es → OtherNotes j es
my_notes_others k j [] ne h = tt
my_notes_others k j (e ∷ es) ne h = ((λ is. ne (sym is ∙ h.0)), my_notes_others k j es ne h.1)

pub others_of : (k : ℕ) (es : List (Entry Effect)) (p : ℕ) (e : Entry Effect) → Others k es → nth es p ≡ Some e → e.instance ≢ k
others_of k [] p e h at = absurd (grind (arith, at))
others_of k (x ∷ es) zero e h at = λ is. h.0 (ap (λ (y : Entry Effect). y.instance) (same at) ∙ is)
  where
    same : Some x ≡ Some e → x ≡ e
    same q = cc
others_of k (x ∷ es) (suc p) e h at = others_of k es p e h.1 at

pub other_notes_of : (k : ℕ) (es : List Note) (p : ℕ) (e : Note) → OtherNotes k es → nth es p ≡ Some e → e.instance ≢ k
other_notes_of k [] p e h at = absurd (grind (arith, at))
other_notes_of k (x ∷ es) zero e h at = λ is. h.0 (ap (λ (y : Note). y.instance) (same at) ∙ is)
  where
    same : Some x ≡ Some e → x ≡ e
    same q = cc
other_notes_of k (x ∷ es) (suc p) e h at = other_notes_of k es p e h.1 at

pub notes-append : (k : ℕ) (a b : List Note) → notes_of k (a ++ b) ≡ notes_of k a + notes_of k b
notes-append k [] b = omega arith
notes-append k (n ∷ a) b = go (nat_eq n.instance k) (notes-append k a b)
  where
    go : (t : Bool) → notes_of k (a ++ b) ≡ notes_of k a + notes_of k b → (if t then suc (notes_of k (a ++ b)) else notes_of k (a ++ b)) ≡ (if t then suc (notes_of k a) else notes_of k a) + notes_of k b
    go true ih = omega (arith, ih)
    go false ih = ih

pub notes-others : (k : ℕ) (a : List Note) → OtherNotes k a → notes_of k a ≡ 0
notes-others k [] h = refl
notes-others k (n ∷ a) h = ap (λ b. if b then suc (notes_of k a) else notes_of k a) (not_eq n.instance k h.0) ∙ notes-others k a h.1

pub notes-one : (k : ℕ) (n : Note) → notes_of k (n ∷ []) ≤ 1
notes-one k n = go (nat_eq n.instance k)
  where
    go : (t : Bool) → (if t then suc 0 else 0) ≤ 1
    go true = omega arith
    go false = omega arith

module _ {S : Type 0} (W : World S Effect) where
  along_below : (s : S) (l k : List (Entry Effect)) (n : ℕ) → n ≤ length l → along W.patched s (l ++ k) n ≡ along W.patched s l n
  along_below s l k zero h = refl
  along_below s [] k (suc n) h = absurd (omega (arith, h))
  along_below s (e ∷ l) k (suc n) h = along_below (W.patched s e.change) l k n (let q : n ≤ length l = omega (arith, h) in q)

  pub state_below : (l k : List (Entry Effect)) (n : ℕ) → n ≤ length l → state W (l ++ k) n ≡ state W l n
  state_below l k n h = along_below W.start l k n h

  along_push : (s : S) (l : List (Entry Effect)) (e : Entry Effect) → along W.patched s (l ++ e ∷ []) (length (l ++ e ∷ [])) ≡ W.patched (along W.patched s l (length l)) e.change
  along_push s [] e = refl
  along_push s (x ∷ l) e = along_push (W.patched s x.change) l e

  pub behind_push : (l : List (Entry Effect)) (e : Entry Effect) → behind W (l ++ e ∷ []) ≡ W.patched (behind W l) e.change
  behind_push l e = along_push W.start l e

  pub all_of-append : (a b : List (Entry Effect)) → AllOf W a → AllOf W b → AllOf W (a ++ b)
  all_of-append [] b h g = g
  all_of-append (e ∷ a) b h g = (h.0, all_of-append a b h.1 g)

  pub left-append : (k : ℕ) (o : Own) (a b : List (Entry Effect)) → own_left W k o (a ++ b) ≡ own_left W k (own_left W k o a) b
  left-append k o [] b = refl
  left-append k o (e ∷ a) b = left-append k (if nat_eq e.instance k then W.owned o e.change else o) a b

  pub left-others : (k : ℕ) (o : Own) (a : List (Entry Effect)) → Others k a → own_left W k o a ≡ o
  left-others k o [] h = refl
  left-others k o (e ∷ a) h = ap (λ b. own_left W k (if b then W.owned o e.change else o) a) (not_eq e.instance k h.0) ∙ left-others k o a h.1

  module _ (Fits : S → Type 0) (laws : Laws W Fits) where
    along_fits : (s : S) (l : List (Entry Effect)) (n : ℕ) → Fits s → AllOf W l → Fits (along W.patched s l n)
    along_fits s l zero f h = f
    along_fits s [] (suc n) f h = f
    along_fits s (e ∷ l) (suc n) f h = along_fits (W.patched s e.change) l n (laws.keeps e.instance s e.change f h.0) h.1

    pub behind_fits : (l : List (Entry Effect)) → AllOf W l → Fits (behind W l)
    behind_fits l h = along_fits W.start l (length l) laws.start h

    -- own components follow the journal
    along_own : (k : ℕ) (s : S) (l : List (Entry Effect)) → Fits s → AllOf W l → W.own (along W.patched s l (length l)) k ≡ own_left W k (W.own s k) l
    along_own k s [] f h = refl
    along_own k s (e ∷ l) f h =
        along_own k (W.patched s e.change) l (laws.keeps e.instance s e.change f h.0) h.1
        ∙ ap (λ o. own_left W k o l) (go (nat_eq e.instance k) refl)
      where
        go : (b : Bool) → nat_eq e.instance k ≡ b → W.own (W.patched s e.change) k ≡ (if b then W.owned (W.own s k) e.change else W.own s k)
        go true q = let same = eq_is e.instance k q in subst (λ i. W.own (W.patched s e.change) i ≡ W.owned (W.own s i) e.change) same (laws.own e.instance s e.change f h.0)
        go false q = laws.others e.instance s e.change f h.0 k (λ is. grind (arith, q, sym is))

    pub behind_own : (k : ℕ) (l : List (Entry Effect)) → AllOf W l → W.own (behind W l) k ≡ own_left W k (W.own W.start k) l
    behind_own k l h = along_own k W.start l laws.start h

    pub component_push : (l : List (Entry Effect)) (e : Entry Effect) (r : ℕ) → AllOf W l → W.is_of e.instance e.change ≡ true → W.is_resource r ≡ true → component W (l ++ e ∷ []) r ≡ changed (W.changes e.change) r (component W l r)
    component_push l e r h is res = ap (λ s. W.value s r) (behind_push l e) ∙ laws.value e.instance (behind W l) e.change (behind_fits l h) is r res
