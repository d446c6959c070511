-- Strings: what the reader gives, and what it is given by.
use Rattle.std.proofs.Common.{◌≡◌, ℕ, Bool, true, false, ◌||◌, nat_eq, nat_le, List, [], ◌∷◌, ◌++◌, Option, Some, None, ⊎_elim, refl, sym, ◌∙◌, ap, subst, arith, append_assoc}
use Rattle.std.proofs.lemmas.Bool.{eqb-true, ne_eqb, leb-true, and_parts, and_from, or_right, cases_Bool}
use Rattle.std.proofs.lemmas.List.{append-nil}
use Rattle.pgo_model.specs.ValueText.{escaped, all_escaped, string_text}
use Rattle.pgo_model.specs.BundleParts.{is_string_byte, all_string_bytes}
use Rattle.pgo_value_text.specs.Parsers.{Outcome}
use Rattle.pgo_value_text.specs.Reading.{unescaped, is_printable, string_from}
use Rattle.pgo_value_text.proofs.Steps.{if_some, cond_true, cond_false, some_pair}

-- an escape is how its byte is written
unescaped_is : (b c : ℕ) → unescaped b ≡ Some c → (escaped c ≡ 92 ∷ b ∷ []) × (is_string_byte c ≡ true)
unescaped_is b c e =
    let G : Type 0 = (escaped c ≡ 92 ∷ b ∷ []) × (is_string_byte c ≡ true) in
    if_some (nat_eq b 34) _ _ c G e (λ s e. is b 34 34 c s e refl refl)
    (λ _ e. if_some (nat_eq b 92) _ _ c G e (λ s e. is b 92 92 c s e refl refl)
    (λ _ e. if_some (nat_eq b 110) _ _ c G e (λ s e. is b 110 10 c s e refl refl)
    (λ _ e. if_some (nat_eq b 116) _ _ c G e (λ s e. is b 116 9 c s e refl refl)
    (λ _ e. absurd (cc)))))
  where
    is : (b k d c : ℕ) → nat_eq b k ≡ true → Some d ≡ Some c → escaped d ≡ 92 ∷ k ∷ [] → is_string_byte d ≡ true → (escaped c ≡ 92 ∷ b ∷ []) × (is_string_byte c ≡ true)
    is b k d c s e w t =
        let same : d ≡ c = cc in
        subst (λ x. (escaped x ≡ 92 ∷ b ∷ []) × (is_string_byte x ≡ true)) same (w ∙ ap (λ x. 92 ∷ x ∷ []) (sym (eqb-true b k s)), t)

-- a printable byte that is no quote and no `\` is written as it is
plain_is : (b : ℕ) → nat_eq b 34 ≡ false → nat_eq b 92 ≡ false → is_printable b ≡ true → escaped b ≡ b ∷ []
plain_is b q s p =
    let l = leb-true 32 b (and_parts (nat_le 32 b) (nat_le b 126) p).0 in
    cond_false _ _ _ q ∙ cond_false _ _ _ s ∙ cond_false _ _ _ (ne_eqb b 10 (λ e. omega arith)) ∙ cond_false _ _ _ (ne_eqb b 9 (λ e. omega arith))

-- a `\` that was read before
abbrev before : Bool → List ℕ
before true = 92 ∷ []
before false = []

-- what is read behind these bytes
record StringRead (e : Bool) (s bs t r : List ℕ) : Type 0 where
  more : List ℕ
  text : t ≡ s ++ more
  was : before e ++ bs ≡ all_escaped more ++ 34 ∷ r
  bytes : all_string_bytes more ≡ true

-- one byte more in front, which is written so
one_more : (c : ℕ) (w bs s t r : List ℕ) → escaped c ≡ w → is_string_byte c ≡ true → StringRead false (s ++ c ∷ []) bs t r → (more : List ℕ) × (t ≡ s ++ more) × (w ++ bs ≡ all_escaped more ++ 34 ∷ r) × (all_string_bytes more ≡ true)
one_more c w bs s t r e b n = (
  c ∷ n.more,
  n.text ∙ append_assoc s (c ∷ []) n.more,
  ap (λ l. w ++ l) n.was ∙ sym (append_assoc w (all_escaped n.more) (34 ∷ r)) ∙ ap (λ l. l ++ all_escaped n.more ++ 34 ∷ r) (sym e),
  and_from (is_string_byte c) (all_string_bytes n.more) b n.bytes,
)

string_read : (e : Bool) (s bs t r : List ℕ) → string_from e s bs ≡ Some (t, r) → StringRead e s bs t r
unfolding string_from
string_read e s [] t r h = absurd (cc)
string_read true s (b ∷ bs) t r h = go (unescaped b) refl h (λ c. string_read false (s ++ c ∷ []) bs t r)
  where
    go : (o : Option ℕ) → unescaped b ≡ o → elim o as (λ o. Outcome (List ℕ)) [ None ↦ None | Some c ↦ string_from false (s ++ c ∷ []) bs ] ≡ Some (t, r) → ((c : ℕ) → string_from false (s ++ c ∷ []) bs ≡ Some (t, r) → StringRead false (s ++ c ∷ []) bs t r) → StringRead true s (b ∷ bs) t r
    go None e h ih = absurd (cc)
    go (Some c) e h ih =
        let u = unescaped_is b c e in
        let m = one_more c (92 ∷ b ∷ []) bs s t r u.0 u.1 (ih c h) in
        record { more = m.0; text = m.1; was = m.2; bytes = m.3 }
string_read false s (b ∷ bs) t r h =
    let G : Type 0 = StringRead false s (b ∷ bs) t r in
    if_some (nat_eq b 34) _ _ (t, r) G h
    (λ q e. let p = some_pair s t bs r e in
    record { more = []; text = sym p.0 ∙ sym (append-nil s); was = (λ i. eqb-true b 34 q i ∷ p.1 i); bytes = refl })
    (λ q e. if_some (nat_eq b 92) _ _ (t, r) G e
    (λ k e. let n = string_read true s bs t r e in
    record { more = n.more; text = n.text; was = ap (λ x. x ∷ bs) (eqb-true b 92 k) ∙ n.was; bytes = n.bytes })
    (λ k e. if_some (is_printable b) _ _ (t, r) G e
    (λ v e. let m = one_more b (b ∷ []) bs s t r (plain_is b q k v) (or_right (nat_eq b 9 || nat_eq b 10) (is_printable b) v) (string_read false (s ++ b ∷ []) bs t r e) in
    record { more = m.0; text = m.1; was = m.2; bytes = m.3 })
    (λ _ e. absurd (cc))))

-- the rest of a string behind its opening quote
pub string_some : (bs s r : List ℕ) → string_from false [] bs ≡ Some (s, r) → (bs ≡ all_escaped s ++ 34 ∷ r) × (all_string_bytes s ≡ true)
string_some bs s r h =
    let k = string_read false [] bs s r h in
    let same : k.more ≡ s = sym k.text in
    (k.was ∙ ap (λ l. all_escaped l ++ 34 ∷ r) same, ap all_string_bytes (sym same) ∙ k.bytes)

-- a byte of a string that is written with a `\`, or as it is
plain_step : (b : ℕ) (s x : List ℕ) → nat_eq b 34 ≡ false → nat_eq b 92 ≡ false → is_printable b ≡ true → string_from false s (escaped b ++ x) ≡ string_from false (s ++ b ∷ []) x
unfolding string_from
plain_step b s x q k v =
    ap (λ l. string_from false s (l ++ x)) (plain_is b q k v) ∙ cond_false _ _ _ q ∙ cond_false _ _ _ k ∙ cond_true _ _ _ v

printable_else : (b : ℕ) → is_string_byte b ≡ true → nat_eq b 9 ≡ false → nat_eq b 10 ≡ false → is_printable b ≡ true
printable_else b h t n = (λ i. (sym t i || sym n i) || is_printable b) ∙ h

abbrev Step : List ℕ → List ℕ → ℕ → Type 0
Step s x b = string_from false s (escaped b ++ x) ≡ string_from false (s ++ b ∷ []) x

quote_step : (s x : List ℕ) → Step s x 34
unfolding string_from
quote_step s x = refl

stroke_step : (s x : List ℕ) → Step s x 92
unfolding string_from
stroke_step s x = refl

newline_step : (s x : List ℕ) → Step s x 10
unfolding string_from
newline_step s x = refl

tab_step : (s x : List ℕ) → Step s x 9
unfolding string_from
tab_step s x = refl

-- one byte is this one, or the test says that it is not
by : (P : ℕ → Type 0) (b k : ℕ) → P k → (nat_eq b k ≡ false → P b) → P b
by P b k here there = ⊎_elim (λ e. subst P (sym (eqb-true b k e)) here) there (cases_Bool (nat_eq b k))

byte_step : (b : ℕ) (s x : List ℕ) → is_string_byte b ≡ true → Step s x b
byte_step b s x h =
    by (Step s x) b 34 (quote_step s x) (λ q. by (Step s x) b 92 (stroke_step s x) (λ k. by (Step s x) b 10 (newline_step s x) (λ n. by (Step s x) b 9 (tab_step s x) (λ t.
    plain_step b s x q k (printable_else b h t n)))))

string_found : (d s r : List ℕ) → all_string_bytes d ≡ true → string_from false s (all_escaped d ++ 34 ∷ r) ≡ Some (s ++ d, r)
unfolding string_from
string_found [] s r h = ap (λ (l : List ℕ). let o : Outcome (List ℕ) = Some (l, r) in o) (sym (append-nil s))
string_found (b ∷ d) s r h =
    let p = and_parts (is_string_byte b) (all_string_bytes d) h in
    ap (string_from false s) (append_assoc (escaped b) (all_escaped d) (34 ∷ r))
    ∙ byte_step b s (all_escaped d ++ 34 ∷ r) p.0 ∙ string_found d (s ++ b ∷ []) r p.1
    ∙ ap (λ (l : List ℕ). let o : Outcome (List ℕ) = Some (l, r) in o) (append_assoc s (b ∷ []) d)

pub string_finds : (s r : List ℕ) → all_string_bytes s ≡ true → string_from false [] (all_escaped s ++ 34 ∷ r) ≡ Some (s, r)
string_finds s r h = string_found s [] r h

-- a string in its quotes, and what is behind it
pub string_parts : (s r : List ℕ) → string_text s ++ r ≡ 34 ∷ (all_escaped s ++ 34 ∷ r)
string_parts s r = append_assoc (34 ∷ all_escaped s) (34 ∷ []) r
