-- Parts while a word is next: what they read, and what is read by them.
use Rattle.std.proofs.Common.{◌≡◌, ◌<◌, ◌≤◌, ◌+◌, ℕ, zero, suc, true, false, List, [], ◌∷◌, ◌++◌, length, map, Some, None, sym, ap, subst, ◌∙◌, append_assoc, arith}
use Rattle.std.proofs.lemmas.List.{append-nil}
use Rattle.pgo_value_text.proofs.Steps.{if_some, cond_true, cond_false, bind_then, then_at, some_pair}
use Rattle.pgo_log_text.specs.Parsers.{Outcome, Parser, and_then}
use Rattle.pgo_log_text.specs.Bytes.{begins}
use Rattle.pgo_log_text.specs.Lines.{parts}

-- the texts of parts numbered from i on
abbrev pub texts : {B : Type 0} → (ℕ → B → List ℕ) → ℕ → List B → List ℕ
texts text i [] = []
texts text i (b ∷ bs) = text i b ++ texts text (suc i) bs

abbrev pub Each : {B : Type 0} → (B → Type 0) → List B → Type 0
Each V [] = Unit {0}
Each V (b ∷ bs) = V b × Each V bs

-- a part that was read, of which `see` is kept
pub record PartText {A B : Type 0} (see : B → A) (text : ℕ → B → List ℕ) (V : B → Type 0) (i : ℕ) (bs : List ℕ) (a : A) (r : List ℕ) : Type 0 where
  pub part : B
  pub seen : see part ≡ a
  pub text_is : bs ≡ text i part ++ r
  pub valid : V part

-- the parts behind those that were read
pub record PartsText {A B : Type 0} (see : B → A) (text : ℕ → B → List ℕ) (V : B → Type 0) (left i : ℕ) (done all : List A) (bs r : List ℕ) : Type 0 where
  pub behind : List B
  pub is_all : all ≡ done ++ map see behind
  pub text_is : bs ≡ texts text i behind ++ r
  pub few : length behind ≤ left
  pub each : Each V behind

module _ {A B : Type 0} (word : List ℕ) (part : ℕ → Parser A) (see : B → A) (text : ℕ → B → List ℕ) (V : B → Type 0) where
  ended : (left i : ℕ) (done : List A) (bs : List ℕ) (all : List A) (r : List ℕ) → ◌≡◌ {A = Outcome (List A)} (Some (done, bs)) (Some (all, r)) → PartsText see text V left i done all bs r
  ended left i done bs all r e =
      let same = some_pair done all bs r e in
      record { behind = []; is_all = sym same.0 ∙ sym (append-nil done); text_is = same.1; few = omega arith; each = tt }

  one_more : (left i : ℕ) (done : List A) (bs : List ℕ) (all : List A) (r : List ℕ) (a : A) (j : List ℕ) → PartText see text V i bs a j → PartsText see text V left (suc i) (done ++ a ∷ []) all j r → PartsText see text V (suc left) i done all bs r
  one_more left i done bs all r a j p m = record {
    behind = p.part ∷ m.behind;
    is_all = m.is_all ∙ append_assoc done (a ∷ []) (map see m.behind) ∙ ap (λ x. done ++ x ∷ map see m.behind) (sym p.seen);
    text_is = p.text_is ∙ ap (λ z. text i p.part ++ z) m.text_is ∙ sym (append_assoc (text i p.part) (texts text (suc i) m.behind) r);
    few = let f = m.few in omega arith;
    each = (p.valid, m.each);
  }

  pub parts_some : ((i : ℕ) (bs : List ℕ) (a : A) (r : List ℕ) → part i bs ≡ Some (a, r) → PartText see text V i bs a r)
      → (left i : ℕ) (done : List A) (bs : List ℕ) (all : List A) (r : List ℕ) → parts word part left i done bs ≡ Some (all, r) → PartsText see text V left i done all bs r
  unfolding parts
  parts_some sound zero i done bs all r e =
      if_some (begins word bs) _ _ (all, r) (PartsText see text V zero i done all bs r) e
      (λ _ e. absurd (cc))
      (λ _ e. ended zero i done bs all r e)
  parts_some sound (suc left) i done bs all r e =
      let G : Type 0 = PartsText see text V (suc left) i done all bs r in
      if_some (begins word bs) _ _ (all, r) G e
      (λ _ e. bind_then (part i bs) (λ a. parts word part left (suc i) (done ++ a ∷ [])) (all, r) G e
      (λ a j got e. one_more left i done bs all r a j (sound i bs a j got) (parts_some sound left (suc i) (done ++ a ∷ []) j all r e)))
      (λ _ e. ended (suc left) i done bs all r e)

  -- what stands behind a part: more parts and then the rest
  behind : (Before : List ℕ → Type 0) → ((i : ℕ) (b : B) (r : List ℕ) → Before (text i b ++ r)) → (i : ℕ) (xs : List B) (r : List ℕ) → Before r → Before (texts text i xs ++ r)
  behind Before goes i [] r h = h
  behind Before goes i (x ∷ xs) r h = subst Before (sym (append_assoc (text i x) (texts text (suc i) xs) r)) (goes i x (texts text (suc i) xs ++ r))

  -- each text begins with the word, and what stands behind them doesn't; and what may stand behind a part stands behind each
  pub parts_finds_before : (limit : ℕ) (Before : List ℕ → Type 0)
      → ((i : ℕ) (b : B) (r : List ℕ) → begins word (text i b ++ r) ≡ true)
      → ((i : ℕ) (b : B) (r : List ℕ) → Before (text i b ++ r))
      → ((i : ℕ) (b : B) (r : List ℕ) → i < limit → V b → Before r → part i (text i b ++ r) ≡ Some (see b, r))
      → (left i : ℕ) (done : List A) (bs : List B) (r : List ℕ) → length bs ≤ left → i + length bs ≤ limit → Each V bs → begins word r ≡ false → Before r
      → parts word part left i done (texts text i bs ++ r) ≡ Some (done ++ map see bs, r)
  unfolding parts
  parts_finds_before limit Before starts goes finds zero i done [] r few room each b h = cond_false (begins word r) None (Some (done, r)) b ∙ (λ k. Some (sym (append-nil done) k, r))
  parts_finds_before limit Before starts goes finds (suc left) i done [] r few room each b h =
      cond_false (begins word r) (and_then (part i r) (λ a. parts word part left (suc i) (done ++ a ∷ []))) (Some (done, r)) b ∙ (λ k. Some (sym (append-nil done) k, r))
  parts_finds_before limit Before starts goes finds zero i done (x ∷ xs) r few room each b h = absurd (omega arith)
  parts_finds_before limit Before starts goes finds (suc left) i done (x ∷ xs) r few room each b h =
      let rest : List ℕ = texts text (suc i) xs ++ r in
      let whole : List ℕ = text i x ++ rest in
      let below : i < limit = omega arith in
      let fewer : length xs ≤ left = omega arith in
      let rooms : suc i + length xs ≤ limit = omega arith in
      ap (parts word part (suc left) i done) (append_assoc (text i x) (texts text (suc i) xs) r)
      ∙ cond_true (begins word whole) (and_then (part i whole) (λ a. parts word part left (suc i) (done ++ a ∷ []))) (Some (done, whole)) (starts i x rest)
      ∙ then_at (part i whole) (λ a. parts word part left (suc i) (done ++ a ∷ [])) (Some (done ++ see x ∷ [] ++ map see xs, r)) (see x) rest
      (finds i x rest below each.0 (behind Before goes (suc i) xs r h))
      (parts_finds_before limit Before starts goes finds left (suc i) (done ++ see x ∷ []) xs r fewer rooms each.1 b h)
      ∙ (λ k. Some (append_assoc done (see x ∷ []) (map see xs) k, r))

  pub parts_finds : (limit : ℕ)
      → ((i : ℕ) (b : B) (r : List ℕ) → begins word (text i b ++ r) ≡ true)
      → ((i : ℕ) (b : B) (r : List ℕ) → i < limit → V b → part i (text i b ++ r) ≡ Some (see b, r))
      → (left i : ℕ) (done : List A) (bs : List B) (r : List ℕ) → length bs ≤ left → i + length bs ≤ limit → Each V bs → begins word r ≡ false
      → parts word part left i done (texts text i bs ++ r) ≡ Some (done ++ map see bs, r)
  parts_finds limit starts finds left i done bs r few room each b =
      parts_finds_before limit (λ r. Unit {0}) starts (λ i b r. tt) (λ i b r below v h. finds i b r below v) left i done bs r few room each b tt
