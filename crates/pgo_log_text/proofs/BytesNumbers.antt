-- Numbers and names: what the readers give, and what they are given by.
use Rattle.std.proofs.Common.{◌≡◌, ◌≤◌, ◌<◌, ◌^◌, ℕ, zero, suc, Bool, true, false, not, ◌||◌, cond, nat_eq, nat_lt, IsTrue, List, [], ◌∷◌, ◌++◌, length, get_or, decimal, Some, None, refl, sym, ◌∙◌, ap, subst, arith}
use Rattle.std.specs.List.{prefix_len}
use Rattle.std.proofs.lemmas.Bool.{eq-eqb, ne_eqb, lt-ltb, ltb-true, and_parts, or_parts}
use Rattle.std.proofs.lemmas.Fmt.{digits_decimal, digits_value-decimal, decimal-digits_value, decimal_nonempty, decimal_digit, first_decimal}
use Rattle.pgo_base.specs.Lookup.{Name}
use Rattle.pgo_model.specs.ValueText.{all_digits, is_digit, is_letter, is_word_byte}
use Rattle.pgo_model.specs.BundleParts.{count_limit, is_read_name}
use Rattle.pgo_value_text.specs.IsValueText.{number_from}
use Rattle.pgo_value_text.proofs.Steps.{if_some, cond_true, bind_then, then_at, some_pair, give_some}
use Rattle.pgo_value_text.proofs.Runs.{is_apart, Stops, prefix_goes, run_front, run_behind, front_behind, words_run, apart_stops}
use Rattle.pgo_value_text.proofs.Numbers.{AreDigits, numerals, digits_sound, digits_complete}
use Rattle.pgo_value_text.proofs.WordBytes.{name_words}
use Rattle.pgo_log_text.specs.Parsers.{Outcome}
use Rattle.pgo_log_text.specs.Bytes.{front, behind, most, is_shortest, natural_of, give, natural, number, name}

-- ---- digits

shortest_parts : (ds : List ℕ) → is_shortest ds ≡ true → (0 < length ds) × (get_or ds 0 0 ≡ 48 → length ds ≡ 1)
shortest_parts [] h = absurd (cc)
shortest_parts (b ∷ []) h = (omega arith, λ e. refl)
shortest_parts (b ∷ (c ∷ ds)) h = (omega arith, λ e. absurd (differs (nat_eq b 48) h (eq-eqb b 48 e)))
  where
    differs : (t : Bool) → not t ≡ true → t ≡ true → ⊥
    differs true h e = cc
    differs false h e = cc

shortest_from : (ds : List ℕ) → 0 < length ds → (get_or ds 0 0 ≡ 48 → length ds ≡ 1) → is_shortest ds ≡ true
shortest_from [] h k = absurd (omega arith)
shortest_from (b ∷ []) h k = refl
shortest_from (b ∷ (c ∷ ds)) h k = λ i. not (ne_eqb b 48 (λ e. let l = k e in omega arith) i)

-- digits that are read are those of the number
decimal_of : (ds : List ℕ) (n : ℕ) → natural_of ds ≡ Some n → (ds ≡ decimal n) × (n < 2 ^ 64)
unfolding natural_of AreDigits
decimal_of ds n e =
    if_some (is_shortest ds) _ _ n ((ds ≡ decimal n) × (n < 2 ^ 64)) e
    (λ s e. let d = digits_sound 0 ds n e in
    let p = shortest_parts ds s in
    let small : n < 2 ^ 64 = let l : n ≤ most = d.small (omega arith) in omega arith in
    (sym (decimal-digits_value numerals ds d.digits p.0 p.1 (subst (λ x. x < 2 ^ 64) (sym d.value) small)) ∙ ap decimal d.value, small))
    (λ _ e. absurd (cc))

decimal_shortest : (n : ℕ) → n < 2 ^ 64 → is_shortest (decimal n) ≡ true
decimal_shortest zero h = ap is_shortest (decimal_digit 0 (omega arith))
decimal_shortest (suc n) h =
    shortest_from (decimal (suc n)) (decimal_nonempty (suc n) h) (λ e. absurd (let l = first_decimal (suc n) (omega arith) h in omega arith))

-- the digits of a number are read
of_decimal : (n : ℕ) → n < 2 ^ 64 → natural_of (decimal n) ≡ Some n
unfolding natural_of AreDigits
of_decimal n h =
    let v : number_from 0 (decimal n) ≡ n = digits_value-decimal numerals n h in
    cond_true _ _ _ (decimal_shortest n h)
    ∙ digits_complete 0 (decimal n) (digits_decimal numerals n h) (subst (λ x. x ≤ most) (sym v) (omega arith))
    ∙ ap Some v

pub natural_some : (bs : List ℕ) (n : ℕ) (r : List ℕ) → natural bs ≡ Some (n, r) → (bs ≡ decimal n ++ r) × (n < 2 ^ 64)
unfolding natural
natural_some bs n r e =
    let g = give_some (natural_of (front is_digit bs)) (behind is_digit bs) n r e in
    let d = decimal_of (front is_digit bs) n g.0 in
    (front_behind is_digit bs r g.1 ∙ ap (λ l. l ++ r) d.0, d.1)

digits_run : (ds : List ℕ) → all_digits ds ≡ true → prefix_len is_digit ds ≡ length ds
digits_run [] h = refl
digits_run (b ∷ bs) h =
    let p = and_parts (is_digit b) (all_digits bs) h in
    prefix_goes is_digit b bs p.0 ∙ ap suc (digits_run bs p.1)

no_digit : (b : ℕ) → is_word_byte b ≡ false → is_digit b ≡ false
no_digit b h = let p = or_parts (is_letter b || is_digit b) (nat_eq b 95) h in (or_parts (is_letter b) (is_digit b) p.0).1

digits_stop : (bs : List ℕ) → Stops is_word_byte bs → Stops is_digit bs
digits_stop [] h = tt
digits_stop (b ∷ bs) h = no_digit b h

pub natural_finds : (n : ℕ) (r : List ℕ) → n < 2 ^ 64 → is_apart r ≡ true → natural (decimal n ++ r) ≡ Some (n, r)
unfolding natural AreDigits
natural_finds n r h a =
    let run = digits_run (decimal n) (digits_decimal numerals n h) in
    let stop = digits_stop r (apart_stops r a) in
    (λ i. give (natural_of (run_front is_digit (decimal n) r run stop i)) (run_behind is_digit (decimal n) r run stop i))
    ∙ (λ i. give (of_decimal n h i) r)

pub number_some : (bs : List ℕ) (n : ℕ) (r : List ℕ) → number bs ≡ Some (n, r) → (bs ≡ decimal n ++ r) × (n < 2 ^ 32)
unfolding number
number_some bs n r e =
    let G : Type 0 = (bs ≡ decimal n ++ r) × (n < 2 ^ 32) in
    bind_then (natural bs) _ (n, r) G e
    (λ m i got e. if_some (nat_lt m count_limit) _ _ (n, r) G e
    (λ s e. let p = some_pair m n i r e in
    let k = natural_some bs m i got in
    (k.0 ∙ (λ j. decimal (p.0 j) ++ p.1 j), subst (λ x. x < 2 ^ 32) p.0 (ltb-true m count_limit s)))
    (λ _ e. absurd (cc)))

pub number_finds : (n : ℕ) (r : List ℕ) → n < 2 ^ 32 → is_apart r ≡ true → number (decimal n ++ r) ≡ Some (n, r)
unfolding number
number_finds n r h a =
    then_at (natural (decimal n ++ r)) _ (Some (n, r)) n r (natural_finds n r (omega arith) a) (cond_true _ _ _ (lt-ltb n count_limit h))

-- ---- names

pub name_some : (bs : List ℕ) (x : Name) (r : List ℕ) → name bs ≡ Some (x, r) → (bs ≡ x ++ r) × IsTrue (is_read_name x)
unfolding name
name_some bs x r e =
    let G : Type 0 = (bs ≡ x ++ r) × IsTrue (is_read_name x) in
    if_some (is_read_name (front is_word_byte bs)) _ _ (x, r) G e
    (λ s e. let p = some_pair (front is_word_byte bs) x (behind is_word_byte bs) r e in
    (front_behind is_word_byte bs r p.1 ∙ ap (λ l. l ++ r) p.0, subst (λ x. IsTrue (is_read_name x)) p.0 s))
    (λ _ e. absurd (cc))

name_there : (x : Name) (f : List ℕ) (b r : List ℕ) → f ≡ x → b ≡ r → is_read_name x ≡ true → cond {A = Outcome Name} (is_read_name f) (Some (f, b)) None ≡ Some (x, r)
name_there x f b r e g h = (λ i. cond {A = Outcome Name} (is_read_name (e i)) (Some (e i, g i)) None) ∙ cond_true _ _ _ h

pub name_finds : (x : Name) (r : List ℕ) → IsTrue (is_read_name x) → is_apart r ≡ true → name (x ++ r) ≡ Some (x, r)
unfolding name
name_finds x r h a =
    let run = words_run x (name_words x h) in
    let stop = apart_stops r a in
    name_there x _ _ r (run_front is_word_byte x r run stop) (run_behind is_word_byte x r run stop) h
