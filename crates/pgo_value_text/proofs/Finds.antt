-- Readers of lists of parts find what is there, where that holds of the reader of a part.
use Rattle.std.proofs.Common.{◌≡◌, ◌≤◌, ◌<◌, ℕ, zero, suc, Bool, true, false, not, ◌&&◌, nat_eq, List, [], ◌∷◌, ◌++◌, length, Some, refl, sym, ◌∙◌, ap, subst, arith, append_assoc, length-append}
use Rattle.std.specs.Prelude.{codes}
use Rattle.std.specs.List.{prefix_len}
use Rattle.std.proofs.lemmas.Bool.{and_parts}
use Rattle.std.proofs.lemmas.List.{append-nil}
use Rattle.pgo_model.specs.ValueText.{is_word_byte}
use Rattle.pgo_value_text.specs.IsValueText.{is_blank, all_blank, Spaced, spaced, Joined, joined, Followed, none, next, Parted, parted, Listed, nothing, listed}
use Rattle.pgo_value_text.specs.Parsers.{Outcome, Parser, and_then}
use Rattle.pgo_value_text.specs.Reading.{expect, begins, behind, is_before, followed}
use Rattle.pgo_value_text.specs.Reading as reading
use Rattle.pgo_value_text.proofs.Steps.{cond_true, cond_false, then_at}
use Rattle.pgo_value_text.proofs.Runs.{expects, begins_so, Stops, prefix_goes, run_behind, is_apart}
use Rattle.pgo_value_text.proofs.Turns.{none_next, one_left}
use Rattle.pgo_value_text.proofs.WordBytes.{blank_apart}

-- ---- what stands behind a part, and what a part begins with

-- nothing, or a byte that is in no word
abbrev pub IsApart : List ℕ → Type 0
IsApart r = is_apart r ≡ true

abbrev pub is_mark : List ℕ → Bool
is_mark [] = true
is_mark (b ∷ bs) = not (is_word_byte b) && not (is_blank b)

-- nothing, or a byte that is in no word and no blank
abbrev pub IsMark : List ℕ → Type 0
IsMark r = is_mark r ≡ true

-- bytes that begin with a part: with no blank and with no closing word
pub record Opening (bs : List ℕ) : Type 0 where
  pub byte : ℕ
  pub rest : List ℕ
  pub is : bs ≡ byte ∷ rest
  pub blank : is_blank byte ≡ false
  pub brace : nat_eq 125 byte ≡ false
  pub angle : nat_eq 62 byte ≡ false

abbrev pub Opens : {A : Type 0} → (List ℕ → A → Type 0) → Type 0
Opens {A} P = (text : List ℕ) (a : A) → P text a → Opening text

-- what is there is found, where this holds of what stands behind it
abbrev pub Finds : {A : Type 0} → Parser A → (List ℕ → A → Type 0) → (List ℕ → Type 0) → Type 0
Finds {A} p P Ends = (text : List ℕ) (a : A) (r : List ℕ) → P text a → Ends r → p (text ++ r) ≡ Some (a, r)

is_not : (b : Bool) → not b ≡ true → b ≡ false
is_not true h = sym h
is_not false h = refl

mark_apart : (r : List ℕ) → IsMark r → IsApart r
mark_apart [] h = refl
mark_apart (b ∷ bs) h = (and_parts (not (is_word_byte b)) (not (is_blank b)) h).0

mark_stops : (r : List ℕ) → IsMark r → Stops is_blank r
mark_stops [] h = tt
mark_stops (b ∷ bs) h = is_not (is_blank b) (and_parts (not (is_word_byte b)) (not (is_blank b)) h).1

blanks_apart : (bs r : List ℕ) → all_blank bs ≡ true → IsMark r → IsApart (bs ++ r)
blanks_apart [] r h m = mark_apart r m
blanks_apart (b ∷ bs) r h m = λ i. not (blank_apart b (and_parts (is_blank b) (all_blank bs) h).0 i)

blanks_run : (bs : List ℕ) → all_blank bs ≡ true → prefix_len is_blank bs ≡ length bs
blanks_run [] h = refl
blanks_run (b ∷ bs) h =
    let p = and_parts (is_blank b) (all_blank bs) h in
    prefix_goes is_blank b bs p.0 ∙ ap suc (blanks_run bs p.1)

pub behind_blanks : (bs r : List ℕ) → all_blank bs ≡ true → Stops is_blank r → behind is_blank (bs ++ r) ≡ r
behind_blanks bs r h s = run_behind is_blank bs r (blanks_run bs h) s

opening_stops : (bs r : List ℕ) → Opening bs → Stops is_blank (bs ++ r)
opening_stops bs r o = subst (λ l. Stops is_blank (l ++ r)) (sym o.is) o.blank

pub three_on : (a b c r : List ℕ) → (a ++ (b ++ c)) ++ r ≡ a ++ (b ++ (c ++ r))
three_on a b c r = append_assoc a (b ++ c) r ∙ ap (λ l. a ++ l) (append_assoc b c r)

module _ {A : Type 0} (p : Parser A) (P : List ℕ → A → Type 0) (f : Finds p P IsApart) (opens : Opens P) where
  spaced_found : {text : List ℕ} {a : A} (r : List ℕ) → Spaced P text a → IsMark r → reading.spaced p (text ++ r) ≡ Some (a, r)
  unfolding reading.spaced
  spaced_found r (spaced before bs after {a} x part y) m =
      let tail : List ℕ = after ++ r in
      let at : behind is_blank ((before ++ (bs ++ after)) ++ r) ≡ bs ++ tail =
      ap (behind is_blank) (three_on before bs after r) ∙ behind_blanks before (bs ++ tail) x (opening_stops bs tail (opens bs a part)) in
      ap (λ l. and_then (p l) (λ a j. let o : Outcome A = Some (a, behind is_blank j) in o)) at
      ∙ then_at (p (bs ++ tail)) _ _ a tail (f bs a tail part (blanks_apart after r y m))
      (ap (λ (l : List ℕ). let o : Outcome A = Some (a, l) in o) (behind_blanks after r y (mark_stops r m)))

  pub finds_spaced : Finds (reading.spaced p) (Spaced P) IsMark
  finds_spaced text a r h m = spaced_found r h m

module _ {A B : Type 0} (w : List ℕ) (marks : (r : List ℕ) → IsMark (w ++ r)) (p : Parser A) (P : List ℕ → A → Type 0) (f : Finds p P IsMark) (q : Parser B) (Q : List ℕ → B → Type 0) (g : Finds q Q IsMark) where
  joined_found : {text : List ℕ} {ab : A × B} (r : List ℕ) → Joined w P Q text ab → IsMark r → reading.joined w p q (text ++ r) ≡ Some (ab, r)
  unfolding reading.joined
  joined_found r (joined bs cs {a} {b} x y) m =
      ap (reading.joined w p q) (three_on bs w cs r)
      ∙ then_at (p (bs ++ (w ++ (cs ++ r)))) _ _ a (w ++ (cs ++ r)) (f bs a (w ++ (cs ++ r)) x (marks (cs ++ r)))
      (then_at (expect w (w ++ (cs ++ r))) _ _ tt (cs ++ r) (expects w (cs ++ r))
      (then_at (q (cs ++ r)) _ _ b r (g cs b r y m) refl))

  pub finds_joined : Finds (reading.joined w p q) (Joined w P Q) IsMark
  finds_joined text ab r h m = joined_found r h m

module _ {A : Type 0} (w : List ℕ) (marks : (r : List ℕ) → IsMark (w ++ r)) (some : 0 < length w) (p : Parser A) (P : List ℕ → A → Type 0) (f : Finds p P IsMark) where
  -- the parts are followed by a byte that is no blank and in no word, and not by the word between them
  abbrev pub Ends : List ℕ → Type 0
  Ends r = IsMark r × (begins w r ≡ false)

  followed_mark : {text : List ℕ} {as' : List A} (r : List ℕ) → Followed w P text as' → IsMark r → IsMark (text ++ r)
  followed_mark r none m = m
  followed_mark r (next bs cs x y) m = subst IsMark (sym (append_assoc w (bs ++ cs) r)) (marks ((bs ++ cs) ++ r))

  followed_length : {text : List ℕ} {as' : List A} → Followed w P text as' → length as' ≤ length text
  followed_length none = omega arith
  followed_length (next bs cs x y) = omega (arith, followed_length y, length-append w (bs ++ cs), length-append bs cs)

  followed_found : {text : List ℕ} {as' : List A} (n : ℕ) (done : List A) (r : List ℕ) → Followed w P text as' → length as' ≤ n → Ends r → followed w p n done (text ++ r) ≡ Some (done ++ as', r)
  followed_found n done r none h e =
      none_next w p n done r e.1 ∙ ap (λ (l : List A). let o : Outcome (List A) = Some (l, r) in o) (sym (append-nil done))
  followed_found zero done r (next bs cs x y) h e = absurd (omega arith)
  followed_found (suc n) done r (next bs cs {a} {as'} x y) h e =
      ap (followed w p (suc n) done) (three_on w bs cs r)
      ∙ one_left w p n done (w ++ (bs ++ (cs ++ r))) (begins_so w (bs ++ (cs ++ r)))
      ∙ then_at (expect w (w ++ (bs ++ (cs ++ r)))) _ _ tt (bs ++ (cs ++ r)) (expects w (bs ++ (cs ++ r)))
      (then_at (p (bs ++ (cs ++ r))) _ _ a (cs ++ r) (f bs a (cs ++ r) x (followed_mark r y e.0))
      (followed_found n (done ++ a ∷ []) r y (omega arith) e ∙ ap (λ (l : List A). let o : Outcome (List A) = Some (l, r) in o) (append_assoc done (a ∷ []) as')))

  parted_found : {text : List ℕ} {as' : List A} (r : List ℕ) → Parted w P text as' → Ends r → reading.parted w p (text ++ r) ≡ Some (as', r)
  unfolding reading.parted
  parted_found r (parted bs cs {a} {as'} x y) e =
      ap (reading.parted w p) (append_assoc bs cs r)
      ∙ then_at (p (bs ++ (cs ++ r))) _ _ a (cs ++ r) (f bs a (cs ++ r) x (followed_mark r y e.0))
      (followed_found (length (cs ++ r)) (a ∷ []) r y (omega (arith, followed_length y, length-append cs r)) e)

  pub finds_parted : Finds (reading.parted w p) (Parted w P) Ends
  finds_parted text as' r h e = parted_found r h e

-- what closes a list
pub record Closes (close : List ℕ) (r : List ℕ) : Type 0 where
  pub mark : IsMark r
  pub comma : begins (codes ",") r ≡ false
  pub closed : begins close r ≡ true

module _ {A : Type 0} (close : List ℕ) (not_opening : (bs : List ℕ) → Opening bs → begins close bs ≡ false) (p : Parser A) (P : List ℕ → A → Type 0) (f : Finds p P IsApart) (opens : Opens P) where
  -- behind blanks stands a part
  spaced_open : {text : List ℕ} {a : A} (r : List ℕ) → Spaced P text a → is_before close (text ++ r) ≡ false
  spaced_open r (spaced before bs after {a} x part y) =
      let o = opens bs a part in
      let there : Opening (bs ++ (after ++ r)) = record { byte = o.byte; rest = o.rest ++ (after ++ r); is = ap (λ l. l ++ (after ++ r)) o.is; blank = o.blank; brace = o.brace; angle = o.angle } in
      ap (λ l. begins close (behind is_blank l)) (three_on before bs after r)
      ∙ ap (begins close) (behind_blanks before (bs ++ (after ++ r)) x (opening_stops bs (after ++ r) o))
      ∙ not_opening (bs ++ (after ++ r)) there

  parted_open : {text : List ℕ} {as' : List A} (r : List ℕ) → Parted (codes ",") (Spaced P) text as' → is_before close (text ++ r) ≡ false
  parted_open r (parted bs cs x y) = ap (is_before close) (append_assoc bs cs r) ∙ spaced_open (cs ++ r) x

  listed_found : {text : List ℕ} {as' : List A} (r : List ℕ) → Listed P text as' → Closes close r → reading.listed close p (text ++ r) ≡ Some (as', r)
  unfolding reading.listed
  listed_found {text} r (nothing x) c =
      let at = behind_blanks text r x (mark_stops r c.mark) in
      cond_true _ _ _ (ap (begins close) at ∙ c.closed) ∙ ap (λ (l : List ℕ). let o : Outcome (List A) = Some ([], l) in o) at
  listed_found {text} {as'} r (listed x) c =
      cond_false _ _ _ (parted_open r x)
      ∙ finds_parted (codes ",") (λ r. refl) (omega arith) (reading.spaced p) (Spaced P) (finds_spaced p P f opens) text as' r x (c.mark, c.comma)

  pub finds_listed : Finds (reading.listed close p) (Listed P) (Closes close)
  finds_listed text as' r h c = listed_found r h c
