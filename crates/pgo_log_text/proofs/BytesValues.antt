-- Values: what the reader gives, and what it is given by.
use Rattle.std.proofs.Common.{◌≡◌, ℕ, true, List, ◌++◌, Option, Some, None, Ok, Err, Result, refl, sym, ◌∙◌, ap, subst}
use Rattle.std.proofs.lemmas.List.{take-append-drop}
use Rattle.pgo_base.specs.Data.{Data}
use Rattle.pgo_model.specs.ValueText.{value_text, same_bytes}
use Rattle.pgo_model.specs.Names.{same_bytes-self}
use Rattle.pgo_value_text.specs.IsValueText.{IsValueText}
use Rattle.pgo_value_text.specs.Reading.{whole}
use Rattle.pgo_value_text.proofs.Complete.{whole_some, whole_finds}
use Rattle.pgo_value_text.proofs.WordBytes.{same_is}
use Rattle.pgo_value_text.proofs.Steps.{if_some, cond_true, give_some}
use Rattle.pgo_log_text.specs.declared.errors.LineStop.{LineStop}
use Rattle.pgo_log_text.specs.declared.errors.LineStop.TheVariants.{BadLine, NoMemory}
use Rattle.pgo_log_text.specs.declared.value.Place.TheVariants.{Outside}
use Rattle.pgo_log_text.specs.IsBundle.{IsCanonicalValue}
use Rattle.pgo_log_text.specs.Parsers.{MakesAs, ReadsAs}
use Rattle.pgo_log_text.specs.Bytes.{is_behind_value, value_length, value_front, value_behind, if_canonical, canonical, give, value}
use Rattle.pgo_log_text.proofs.ValueEnds.{text_front, text_behind}

-- the text is the canonical one of the value
abbrev Canonical : List ℕ → Data → Type 0
Canonical bs v = (value_text v ≡ bs) × IsValueText bs v

canonical_some : (bs : List ℕ) (v : Data) → canonical bs ≡ Some v → Canonical bs v
unfolding canonical
canonical_some bs v e = go (whole bs) refl e
  where
    go : (o : Option Data) → whole bs ≡ o → if_canonical bs o ≡ Some v → Canonical bs v
    go None w e = absurd (cc)
    go (Some d) w e =
        if_some (same_bytes (value_text d) bs) (Some d) None v (Canonical bs v) e
        (λ t e. let same : d ≡ v = cc in subst (Canonical bs) same (same_is (value_text d) bs t, whole_some bs d w))
        (λ _ e. absurd (cc))

canonical_finds : (v : Data) → IsCanonicalValue v → canonical (value_text v) ≡ Some v
unfolding canonical
canonical_finds v h =
    ap (if_canonical (value_text v)) (whole_finds (value_text v) v h) ∙ cond_true (same_bytes (value_text v) (value_text v)) (Some v) None (same_bytes-self (value_text v))

pub value_some : (bs : List ℕ) (v : Data) (r : List ℕ) → value bs ≡ Some (v, r) → (bs ≡ value_text v ++ r) × IsCanonicalValue v
unfolding value
value_some bs v r e =
    let g = give_some (canonical (value_front bs)) (value_behind bs) v r e in
    let c = canonical_some (value_front bs) v g.0 in (
      sym (take-append-drop (value_length Outside 0 bs) bs) ∙ (λ i. sym c.0 i ++ g.1 i),
      subst (λ t. IsValueText t v) (sym c.0) c.1,
    )

pub value_finds : (v : Data) (r : List ℕ) → IsCanonicalValue v → is_behind_value r ≡ true → value (value_text v ++ r) ≡ Some (v, r)
unfolding value
value_finds v r h a =
    (λ i. give (canonical (text_front (value_text v) r v h a i)) (text_behind (value_text v) r v h a i)) ∙ ap (λ o. give o r) (canonical_finds v h)

-- ---- what the code has

-- a text that spells no value is the canonical one of none
pub none_spelled : (bs : List ℕ) → ((v : Data) → IsValueText bs v → ⊥) → canonical bs ≡ None
unfolding canonical
none_spelled bs h = go (whole bs) refl
  where
    go : (o : Option Data) → whole bs ≡ o → if_canonical bs (whole bs) ≡ None
    go None w = ap (if_canonical bs) w
    go (Some d) w = absurd (h d (whole_some bs d w))

pub made_of : {A : Type 0} (see : A → Data) (bs : List ℕ) (v : Data) (r : Result A LineStop) → IsValueText bs v → MakesAs see (if_canonical bs (Some v)) r → MakesAs see (canonical bs) r
unfolding canonical
made_of see bs v r h m = subst (λ o. MakesAs see (if_canonical bs o) r) (sym (whole_finds bs v h)) m

pub given : {A B : Type 0} (see : A → B) (o : Option B) (i : List ℕ) (r : Result A LineStop) → MakesAs see o r → ReadsAs see (give o i) r i
given see o i (Ok a) e = ap (λ o. give o i) e
given see o i (Err BadLine) e = ap (λ o. give o i) e
given see o i (Err NoMemory) e = tt

-- a value is read from the bytes up to its end
pub value_given : {A : Type 0} (see : A → Data) (bs part rest : List ℕ) (r : Result A LineStop) → part ≡ value_front bs → rest ≡ value_behind bs → MakesAs see (canonical part) r → ReadsAs see (value bs) r rest
unfolding value
value_given see bs part rest r e f m =
    subst (λ k. ReadsAs see (give (canonical (value_front bs)) k) r rest) f (subst (λ t. ReadsAs see (give (canonical t) rest) r rest) e (given see (canonical part) rest r m))
