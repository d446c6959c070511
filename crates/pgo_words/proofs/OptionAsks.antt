-- What words ask for is cut into options and constants in the way that a command of `clap` decides.
use Rattle.std.proofs.Common.{◌≡◌, ◌∙◌, ◌<◌, ◌≤◌, ◌^◌, ◌==◌, ◌&&◌, ◌||◌, ◌⊎◌, inl, inr, ℕ, Bool, true, false, not, refl, sym, ap, subst, arith, List, [], ◌∷◌, ◌++◌, Option, Some, is_some, true≢false, eqb-true, codes, decimal, lit≤}
use Rattle.std.proofs.lemmas.Fmt.{decimal_is_IsNumeral}
use Rattle.std.specs.Char.{digit_value}
use Rattle.std.specs.Option.{unwrap_or}
use Rattle.std.specs.Str.Parse.{AllDigits}
use Rattle.std.proofs.lemmas.Bool.{and_parts}
use Rattle.pgo_base.specs.Data.{Data}
use Rattle.pgo_base.specs.Lookup.{Name}
use Rattle.pgo_model.specs.Core.{Settings}
use Rattle.pgo_model.specs.Names.{same_bytes-is}
use Rattle.pgo_model.specs.ValueText.{all_word_bytes, has_letter, is_identifier, is_word_byte, same_bytes}
use Rattle.pgo_value_text.specs.IsValueText.{is_name}
use Rattle.pgo_words.specs.Asks.{HasParts}
use Rattle.pgo_words.specs.Constants.{AreConstants, IsConstant}
use Rattle.pgo_words.specs.Failures.{Failure, FailureList, FailuresOr, pair}
use Rattle.pgo_words.specs.Failures as failures
use Rattle.pgo_words.specs.Options.{is_one_of, find_bytes}
use Rattle.pgo_words.specs.Parts.{HasOptions, Pairs, are_plain, is_plain}
use Rattle.pgo_words.specs.Settings.{NumberOr, SettingsOf, run_options, step_options}
use Rattle.pgo_words.specs.Turns.{Item, TurnList, last, more, once, times}
use Rattle.pgo_words.proofs.CutLaws.{wide}
use Rattle.pgo_words.proofs.OptionCuts.{joined}
use Rattle.pgo_words.proofs.OptionParts.{values_by_name}

-- no such byte stands first
plain_first : (b : ℕ) (bs : List ℕ) → (b ≡ 45 → ⊥) → is_plain (b ∷ bs) ≡ true
plain_first b bs h = go (b == 45) refl
  where
    go : (t : Bool) → (b == 45) ≡ t → not t ≡ true
    go true e = absurd (h (eqb-true b 45 e))
    go false e = refl

plain_front : (xs ys : List ℕ) → is_plain xs ≡ true → is_plain ys ≡ true → is_plain (xs ++ ys) ≡ true
plain_front [] ys e f = f
plain_front (x ∷ xs) ys e f = e

dash_no_digit : 10 ≤ digit_value 45
dash_no_digit = lit≤ tt

digits_plain : (ds : List ℕ) → AllDigits 10 ds → is_plain ds ≡ true
digits_plain [] h = refl
digits_plain (d ∷ ds) h = plain_first d ds (λ e. let k = h.0 in let f = ap digit_value e in let g = dash_no_digit in omega (arith, k, f, g))

pub decimal_plain : (n : ℕ) → n < 2 ^ 64 → is_plain (decimal n) ≡ true
decimal_plain n h = digits_plain (decimal n) (decimal_is_IsNumeral n h).0.1

item_plain : (bs ts : List ℕ) → Item bs ts → is_plain bs ≡ true
item_plain bs ts (once {k} h) = decimal_plain k (wide k h)
item_plain bs ts (times {k} {n} h some) = plain_front (decimal k) (42 ∷ decimal n) (decimal_plain k (wide k h)) refl

list_plain : (bs ts : List ℕ) → TurnList bs ts → is_plain bs ≡ true
list_plain bs ts (last i) = item_plain bs ts i
list_plain bs ts (more {bs = front} {ts = us} {cs = cs} i l) = plain_front front (44 ∷ cs) (item_plain front us i) refl

-- ---- lists of pre-commits that fail

failure_plain : (bs : List ℕ) (p : ℕ × ℕ) → Failure bs p → is_plain bs ≡ true
failure_plain bs p (pair {r} {n} h k) = plain_front (decimal r) (58 ∷ decimal n) (decimal_plain r (wide r h)) refl

failures_plain : (bs : List ℕ) (ps : List (ℕ × ℕ)) → FailureList bs ps → is_plain bs ≡ true
failures_plain bs ps (failures.last {bs = front} {p = p} f) = failure_plain front p f
failures_plain bs ps (failures.more {bs = front} {cs = cs} {p = p} f l) = plain_front front (44 ∷ cs) (failure_plain front p f) refl

-- ---- constants

first_of_three : (a b c : Bool) → (a && b && c) ≡ true → a ≡ true
first_of_three true b c e = refl
first_of_three false b c e = absurd (true≢false (sym e))

name_plain : (x : List ℕ) → is_name x ≡ true → is_plain x ≡ true
name_plain [] e = refl
name_plain (b ∷ bs) e =
    let first = and_parts (is_word_byte b) _ (first_of_three (all_word_bytes (b ∷ bs)) (has_letter (b ∷ bs)) _ (and_parts (is_identifier (b ∷ bs)) _ e).0) in
    plain_first b bs (λ f. true≢false (sym first.0 ∙ ap is_word_byte f))

constant_plain : (w : List ℕ) (c : Name × Data) → IsConstant w c → is_plain w ≡ true
constant_plain w c h = ap is_plain h.word_is ∙ plain_front c.0 (61 ∷ h.text) (name_plain c.0 h.named) refl

pub constants_plain : (ws : List (List ℕ)) (cs : List (Name × Data)) → AreConstants ws cs → are_plain ws ≡ true
constants_plain [] [] h = refl
constants_plain [] (c ∷ cs) h = absurd h
constants_plain (w ∷ ws) [] h = absurd h
constants_plain (w ∷ ws) (c ∷ cs) h = joined (is_plain w) _ (constant_plain w c h.0) (constants_plain ws cs h.1)

-- ---- values

number_plain : (default limit n : ℕ) (o : Option (List ℕ)) (v : List ℕ) → limit ≤ 2 ^ 64 → o ≡ Some v → NumberOr default limit o n → is_plain v ≡ true
number_plain default limit n o v small e h =
    let p = subst (λ q. NumberOr default limit q n) e h in
    ap is_plain p.0 ∙ (let q = p.1 in decimal_plain n (omega (arith, q, small)))

either : (a b : Bool) → (a || b) ≡ true → (a ≡ true) ⊎ (b ≡ true)
either true b e = inl refl
either false b e = inr e

fail_plain : (o : Option (List ℕ)) (v : List ℕ) (ps : List (ℕ × ℕ)) → o ≡ Some v → FailuresOr o ps → is_plain v ≡ true
fail_plain o v ps e h = failures_plain v ps (subst (λ q. FailuresOr q ps) e h)

module _ (options : Pairs) (s : Settings) (set : SettingsOf options s) where
  run_value : (n v : List ℕ) → is_one_of n run_options ≡ true → find_bytes n options ≡ Some v → is_plain v ≡ true
  run_value n v among e = elim (either (same_bytes n (codes "--seed")) _ among) [
    | inl a ↦ number_plain 0 (2 ^ 64) s.seed _ v (omega arith) (ap (λ m. find_bytes m options) (sym (same_bytes-is n _ a)) ∙ e) set.seed
    | inr rest ↦ elim (either (same_bytes n (codes "--attempts")) _ rest) [
      | inl a ↦ number_plain 10000 100001 s.attempts _ v (omega arith) (ap (λ m. find_bytes m options) (sym (same_bytes-is n _ a)) ∙ e) set.attempts
      | inr later ↦ elim (either (same_bytes n (codes "--steps")) _ later) [
        | inl a ↦ number_plain 10000 100001 s.steps _ v (omega arith) (ap (λ m. find_bytes m options) (sym (same_bytes-is n _ a)) ∙ e) set.steps
        | inr fail ↦ elim (either (same_bytes n (codes "--fail")) _ fail) [
          | inl a ↦ fail_plain _ v s.down (ap (λ m. find_bytes m options) (sym (same_bytes-is n _ a)) ∙ e) set.down
          | inr none ↦ absurd (true≢false (sym none))
        ]
      ]
    ]
  ]

  -- what `run` asks for
  pub run_parts : (behind : List (List ℕ)) (consts : List (Name × Data)) (p : HasParts run_options behind options consts) → HasOptions false behind options p.rest
  run_parts behind consts p = record {
    words_are = p.words_are;
    options_are = p.options_are;
    turns_given = λ t. absurd (true≢false (sym t));
    values_plain = values_by_name run_options options p.options_are run_value;
    rest_plain = constants_plain p.rest consts p.consts_are.each;
  }

  step_value : (list turns : List ℕ) → find_bytes (codes "--turns") options ≡ Some list → TurnList list turns
      → (n v : List ℕ) → is_one_of n step_options ≡ true → find_bytes n options ≡ Some v → is_plain v ≡ true
  step_value list turns is spells n v among e = elim (either (same_bytes n (codes "--turns")) _ among) [
    | inl a ↦
        let same = sym is ∙ ap (λ m. find_bytes m options) (sym (same_bytes-is n _ a)) ∙ e in
        ap is_plain (sym (ap (λ o. unwrap_or o []) same)) ∙ list_plain list turns spells
    | inr rest ↦ run_value n v rest e
  ]

  -- what `step` asks for
  pub step_parts : (behind : List (List ℕ)) (consts : List (Name × Data)) (p : HasParts step_options behind options consts) (list turns : List ℕ)
      → find_bytes (codes "--turns") options ≡ Some list → TurnList list turns → HasOptions true behind options p.rest
  step_parts behind consts p list turns is spells = record {
    words_are = p.words_are;
    options_are = p.options_are;
    turns_given = λ t. ap is_some is;
    values_plain = values_by_name step_options options p.options_are (step_value list turns is spells);
    rest_plain = constants_plain p.rest consts p.consts_are.each;
  }
