-- The changes of an entry.
use Rattle.std.proofs.Common.{◌≡◌, ℕ, zero, suc, true, false, IsTrue, List, [], ◌∷◌, ◌++◌, length, map, Option, Some, None, refl, sym, ap, subst, ◌∙◌, append_assoc}
use Rattle.std.specs.Prelude.{codes}
use Rattle.std.proofs.lemmas.List.{append-nil}
use Rattle.pgo_base.specs.Data.{Data}
use Rattle.pgo_base.specs.Lookup.{Name}
use Rattle.pgo_model.specs.ValueText.{value_text}
use Rattle.pgo_model.specs.ModuleText.{line, flatten}
use Rattle.pgo_model.specs.Log.{Unowned, Change}
use Rattle.pgo_model.specs.Bundle.{indexed_text, change_line}
use Rattle.pgo_model.specs.BundleParts.{is_read_name}
use Rattle.pgo_value_text.proofs.Steps.{if_some, cond_false, bind_then, then_at, some_pair}
use Rattle.pgo_value_text.proofs.Runs.{expected, is_apart}
use Rattle.pgo_log_text.specs.IsBundle.{IsCanonicalValue, IsCanonicalIndex, IsChange, AreChanges}
use Rattle.pgo_log_text.specs.Bytes.{begins}
use Rattle.pgo_log_text.specs.Lines.{index_part, as_index, index, change, changes}
use Rattle.pgo_log_text.proofs.BytesNumbers.{name_some, name_finds}
use Rattle.pgo_log_text.proofs.BytesValues.{value_some, value_finds}
use Rattle.pgo_log_text.proofs.LinesFields.{last_value_some, last_value_finds}

-- the text of an index, or of none
abbrev pub index_text : Option Data → List ℕ
index_text None = []
index_text (Some i) = 91 ∷ value_text i ++ 93 ∷ []

index_part_some : (bs : List ℕ) (v : Data) (r : List ℕ) → index_part bs ≡ Some (v, r) → (bs ≡ 91 ∷ (value_text v ++ 93 ∷ r)) × IsCanonicalValue v
unfolding index_part
index_part_some bs v r e =
    let G : Type 0 = (bs ≡ 91 ∷ (value_text v ++ 93 ∷ r)) × IsCanonicalValue v in
    bind_then _ _ _ G e (λ t i a e. bind_then _ _ _ G e (λ w j b e. bind_then _ _ _ G e (λ u k c e.
    let read = value_some i w j b in
    let same = some_pair w v k r e in (
      expected (codes "[") bs t i a ∙ ap (λ z. 91 ∷ z) (read.0 ∙ ap (λ z. value_text w ++ z) (expected (codes "]") j u k c)) ∙ (λ n. 91 ∷ (value_text (same.0 n) ++ 93 ∷ same.1 n)),
      subst (λ w. IsCanonicalValue w) same.0 read.1,
    ))))

index_part_finds : (v : Data) (r : List ℕ) → IsCanonicalValue v → index_part (91 ∷ (value_text v ++ 93 ∷ r)) ≡ Some (v, r)
unfolding index_part
index_part_finds v r h = then_at _ _ _ v (93 ∷ r) (value_finds v (93 ∷ r) h refl) refl

pub index_some : (bs : List ℕ) (o : Option Data) (r : List ℕ) → index bs ≡ Some (o, r) → (bs ≡ index_text o ++ r) × IsCanonicalIndex o
unfolding index
index_some bs o r e =
    let G : Option Data → Type 0 = λ o. (bs ≡ index_text o ++ r) × IsCanonicalIndex o in
    if_some (begins (codes "[") bs) _ _ (o, r) (G o) e
    (λ _ e. bind_then (index_part bs) as_index _ (G o) e (λ v i a e.
    let read = index_part_some bs v i a in
    let same = some_pair (Some v) o i r e in
    subst G same.0 (read.0 ∙ ap (λ z. 91 ∷ (value_text v ++ 93 ∷ z)) same.1 ∙ sym (append_assoc (91 ∷ value_text v) (93 ∷ []) r), read.1)))
    (λ _ e. let same = some_pair None o bs r e in subst G same.0 (same.1, tt))

-- an index is found where no bracket follows it
pub index_finds : (o : Option Data) (r : List ℕ) → IsCanonicalIndex o → begins (codes "[") r ≡ false → index (index_text o ++ r) ≡ Some (o, r)
unfolding index
index_finds None r h n = cond_false (begins (codes "[") r) _ _ n
index_finds (Some v) r h n =
    ap index (append_assoc (91 ∷ value_text v) (93 ∷ []) r) ∙ then_at (index_part (91 ∷ (value_text v ++ 93 ∷ r))) as_index _ v r (index_part_finds v r h) refl

-- the text of a change, and what stands behind it
change_nest : (x : Name) (o : Option Data) (v f r : List ℕ) → (line (codes "set " ++ indexed_text x o ++ codes " = " ++ v) ++ f) ++ r ≡ codes "set " ++ (x ++ (index_text o ++ (codes " = " ++ (v ++ 10 ∷ (f ++ r)))))
change_nest x None v f r = simp append_assoc
change_nest x (Some i) v f r = simp append_assoc

abbrev change_text : Change → List ℕ → List ℕ
change_text c r = codes "set " ++ (c.component.variable ++ (index_text c.component.index ++ (codes " = " ++ (value_text c.value ++ 10 ∷ r))))

change_joined : (bs i j k l r x o v : List ℕ) → bs ≡ codes "set " ++ i → i ≡ x ++ j → j ≡ o ++ k → k ≡ codes " = " ++ l → l ≡ v ++ 10 ∷ r
    → bs ≡ codes "set " ++ (x ++ (o ++ (codes " = " ++ (v ++ 10 ∷ r))))
change_joined bs i j k l r x o v a b c d e = a ∙ ap (λ z. codes "set " ++ z) (b ∙ ap (λ z. x ++ z) (c ∙ ap (λ z. o ++ z) (d ∙ ap (λ z. codes " = " ++ z) e)))

change_some : (bs : List ℕ) (c : Change) (r : List ℕ) → change bs ≡ Some (c, r) → (bs ≡ change_text c r) × IsChange c
unfolding change
change_some bs c r e =
    let G : Change → Type 0 = λ c. (bs ≡ change_text c r) × IsChange c in
    bind_then _ _ _ (G c) e (λ t i a e. bind_then _ _ _ (G c) e (λ x j b e. bind_then _ _ _ (G c) e (λ o k d e. bind_then _ _ _ (G c) e (λ u l f e. bind_then _ _ _ (G c) e (λ v m g e.
    let is_name = name_some i x j b in
    let is_index = index_some j o k d in
    let is_value = last_value_some l v m g in
    let made : Change = record { component = record { variable = x; index = o; owner = Unowned }; value = v } in
    let same = some_pair made c m r e in
    subst G same.0 (
      change_joined bs i j k l r x (index_text o) (value_text v) (expected (codes "set ") bs t i a) is_name.0 is_index.0 (expected (codes " = ") k u l f) (is_value.0 ∙ ap (λ z. value_text v ++ 10 ∷ z) same.1),
      record { variable = is_name.1; index = is_index.1; owner = refl; value = is_value.1 },
    ))))))

-- behind a name stands a bracket or a blank
apart_index : (o : Option Data) (r : List ℕ) → is_apart (index_text o ++ (codes " = " ++ r)) ≡ true
apart_index None r = refl
apart_index (Some i) r = refl

change_finds : (x : Name) (o : Option Data) (v : Data) (r : List ℕ) → IsTrue (is_read_name x) → IsCanonicalIndex o → IsCanonicalValue v
    → change (change_text (record { component = record { variable = x; index = o; owner = Unowned }; value = v }) r)
    ≡ Some (record { component = record { variable = x; index = o; owner = Unowned }; value = v }, r)
unfolding change
change_finds x o v r a b c =
    let value_on : List ℕ = value_text v ++ 10 ∷ r in
    let index_on : List ℕ = index_text o ++ (codes " = " ++ value_on) in
    then_at _ _ _ x index_on (name_finds x index_on a (apart_index o value_on))
    (then_at _ _ _ o (codes " = " ++ value_on) (index_finds o (codes " = " ++ value_on) b refl)
    (then_at _ _ _ v r (last_value_finds v r c) refl))

-- the changes behind those that were read
pub record ChangesText (n : ℕ) (done all : List Change) (bs r : List ℕ) : Type 0 where
  pub behind : List Change
  pub is_all : all ≡ done ++ behind
  pub text_is : bs ≡ flatten (map change_line behind) ++ r
  pub count : length behind ≡ n
  pub read : AreChanges behind

pub changes_some : (n : ℕ) (done : List Change) (bs : List ℕ) (all : List Change) (r : List ℕ) → changes n done bs ≡ Some (all, r) → ChangesText n done all bs r
unfolding changes
changes_some zero done bs all r e =
    let same = some_pair done all bs r e in
    record { behind = []; is_all = sym same.0 ∙ sym (append-nil done); text_is = same.1; count = refl; read = tt }
changes_some (suc n) done bs all r e =
    let G : Type 0 = ChangesText (suc n) done all bs r in
    bind_then _ _ _ G e (λ c i a e.
    let read = change_some bs c i a in
    let more = changes_some n (done ++ c ∷ []) i all r e in
    record {
      behind = c ∷ more.behind;
      is_all = more.is_all ∙ append_assoc done (c ∷ []) more.behind;
      text_is = read.0 ∙ ap (change_text c) more.text_is ∙ sym (change_nest c.component.variable c.component.index (value_text c.value) (flatten (map change_line more.behind)) r);
      count = ap (λ k. suc k) more.count;
      read = (read.1, more.read);
    })

change_finds_whole : (c : Change) (r : List ℕ) → IsChange c → change (change_text c r) ≡ Some (c, r)
change_finds_whole c r h =
    let o = h.owner in
    let same : ◌≡◌ {A = Change} (record { component = record { variable = c.component.variable; index = c.component.index; owner = Unowned }; value = c.value }) c =
    λ i. record { component = record { variable = c.component.variable; index = c.component.index; owner = sym o i }; value = c.value } in
    change_finds c.component.variable c.component.index c.value r h.variable h.index h.value ∙ ap (λ c. Some (c, r)) same

pub changes_finds : (cs : List Change) (n : ℕ) (done : List Change) (r : List ℕ) → n ≡ length cs → AreChanges cs → changes n done (flatten (map change_line cs) ++ r) ≡ Some (done ++ cs, r)
unfolding changes
changes_finds [] zero done r n h = λ i. Some (sym (append-nil done) i, r)
changes_finds [] (suc k) done r n h = absurd (cc)
changes_finds (c ∷ cs) zero done r n h = absurd (cc)
changes_finds (c ∷ cs) (suc k) done r n h =
    let rest : List ℕ = flatten (map change_line cs) ++ r in
    let few : k ≡ length cs = cc in
    ap (changes (suc k) done) (change_nest c.component.variable c.component.index (value_text c.value) (flatten (map change_line cs)) r)
    ∙ then_at _ _ _ c rest (change_finds_whole c rest h.0) (changes_finds cs k (done ++ c ∷ []) r few h.1)
    ∙ (λ i. Some (append_assoc done (c ∷ []) cs i, r))
