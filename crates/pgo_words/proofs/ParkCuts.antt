-- `--park` among the words of options stands behind those before it in one way.
use Rattle.std.proofs.Common.{◌≡◌, ◌∙◌, ◌||◌, ◌≤◌, ◌<◌, ◌-◌, ◌+◌, ℕ, Bool, true, false, not, refl, sym, ap, subst, arith, List, [], ◌∷◌, ◌++◌, length, drop, true≢false, length-drop}
use Rattle.std.specs.Borrow.{Bor}
use Rattle.std.specs.List.{list_all}
use Rattle.std.proofs.lemmas.List.{drop-drop}
use Rattle.std.proofs.lemmas.Bool.{and_parts}
use Rattle.pgo_model.specs.ValueText.{is_one_of, same_bytes}
use Rattle.pgo_model.specs.Names.{same_bytes-is}
use Rattle.pgo_words.specs.Options.{option_words, AreOptions}
use Rattle.pgo_words.specs.Park.{park_word, is_valued, are_valued, begins_park, begins_valued, IsPark}
use Rattle.pgo_words.specs.Parts.{Pairs, are_options, are_plain, is_option_name, is_option, is_plain, texts}
use Rattle.pgo_words.proofs.OptionCuts.{behind, first_or, joined, no_name, words_more}
use Rattle.pgo_words.proofs.OptionParts.{among_passes, options_for}

no_valued_park : (o : List ℕ × List ℕ) → is_valued o ≡ true → o.0 ≡ park_word → ⊥
no_valued_park o e f =
    let same : same_bytes o.0 park_word ≡ true = ap (λ x. same_bytes x park_word) f in
    true≢false (sym (and_parts (is_option o) _ e).1 ∙ ap not same)

valued_name : (o : List ℕ × List ℕ) → is_valued o ≡ true → is_option_name o.0 ≡ true
valued_name o e = (and_parts (is_option_name o.0) _ (and_parts (is_option o) _ e).0).0

-- `--park` stands behind the same options, and before the same words
pub one_park : (os qs : Pairs) (later more : List (List ℕ)) → are_valued os ≡ true → are_valued qs ≡ true
    → option_words os ++ (park_word ∷ later) ≡ option_words qs ++ (park_word ∷ more) → (os ≡ qs) × (later ≡ more)
one_park [] [] later more f g e = (refl, ap behind e)
one_park [] (q ∷ qs) later more f g e = absurd (no_valued_park q (and_parts (is_valued q) _ g).0 (sym (ap first_or e)))
one_park (o ∷ os) [] later more f g e = absurd (no_valued_park o (and_parts (is_valued o) _ f).0 (ap first_or e))
one_park (o ∷ os) (q ∷ qs) later more f g e =
    let name : o.0 ≡ q.0 = ap first_or e in
    let value : o.1 ≡ q.1 = ap (λ ws. first_or (behind ws)) e in
    let rest = one_park os qs later more (and_parts (is_valued o) _ f).1 (and_parts (is_valued q) _ g).1 (ap (λ ws. behind (behind ws)) e) in
    (λ i. (name i, value i) ∷ rest.0 i, rest.1)

-- it doesn't stand among options that have values, and words that don't begin with `-`
pub no_park : (os qs : Pairs) (later rest : List (List ℕ)) → are_valued os ≡ true → are_valued qs ≡ true → are_plain rest ≡ true
    → option_words os ++ (park_word ∷ later) ≡ option_words qs ++ rest → ⊥
no_park [] [] later rest f g p e = true≢false (sym p ∙ sym (ap are_plain e))
no_park [] (q ∷ qs) later rest f g p e = no_valued_park q (and_parts (is_valued q) _ g).0 (sym (ap first_or e))
no_park (o ∷ os) [] later rest f g p e =
    no_name o.0 (o.1 ∷ (option_words os ++ (park_word ∷ later))) (valued_name o (and_parts (is_valued o) _ f).0) (ap are_plain e ∙ p)
no_park (o ∷ os) (q ∷ qs) later rest f g p e =
    no_park os qs later rest (and_parts (is_valued o) _ f).1 (and_parts (is_valued q) _ g).1 p (ap (λ ws. behind (behind ws)) e)

-- ---- the search for it

-- the words so far are options that have values
pub record ValuedFront (words rest : List (List ℕ)) : Type 0 where
  pub front : Pairs
  pub words_are : words ≡ option_words front ++ rest
  pub valued : are_valued front ≡ true

valued_more : (os : Pairs) (o : List ℕ × List ℕ) → are_valued os ≡ true → is_valued o ≡ true → are_valued (os ++ o ∷ []) ≡ true
valued_more [] o f e = joined (is_valued o) true e refl
valued_more (d ∷ os) o f e = let p = and_parts (is_valued d) _ f in joined (is_valued d) _ p.0 (valued_more os o p.1 e)

front_more : (words rest later : List (List ℕ)) (o : List ℕ × List ℕ) → ValuedFront words rest → rest ≡ o.0 ∷ (o.1 ∷ later) → is_valued o ≡ true → ValuedFront words later
front_more words rest later o h e f = record {
  front = h.front ++ o ∷ [];
  words_are = h.words_are ∙ ap (λ ws. option_words h.front ++ ws) e ∙ sym (words_more h.front o later);
  valued = valued_more h.front o h.valued f;
}

-- a further option
valued_at : (ws : List (Bor (List ℕ))) → begins_valued (texts ws) ≡ true
    → (o : List ℕ × List ℕ) × (texts ws ≡ o.0 ∷ (o.1 ∷ texts (drop 2 ws))) × (is_valued o ≡ true) × (2 ≤ length ws)
valued_at [] e = absurd (true≢false (sym e))
valued_at (x ∷ []) e = absurd (true≢false (sym e))
valued_at (x ∷ (y ∷ zs)) e = ((x.now, y.now), refl, e, omega arith)

pub goes_on : (ws : List (Bor (List ℕ))) (at : ℕ) → at ≤ length ws → ValuedFront (texts ws) (texts (drop at ws)) → begins_valued (texts (drop at ws)) ≡ true
    → (at + 2 ≤ length ws) × ValuedFront (texts ws) (texts (drop (at + 2) ws))
goes_on ws at fits h e =
    let p = valued_at (drop at ws) e in
    let left : length (drop at ws) ≡ length ws - at = length-drop at ws in
    let same : drop 2 (drop at ws) ≡ drop (at + 2) ws = drop-drop 2 at ws in
    let long = p.3 in
    (omega arith, subst (λ later. ValuedFront (texts ws) (texts later)) same (front_more (texts ws) (texts (drop at ws)) (texts (drop 2 (drop at ws))) p.0 h p.1 p.2))

-- where no further option begins, and no `--park`, it stands behind none
not_behind : (fs os : Pairs) (rest later : List (List ℕ)) → are_valued fs ≡ true → are_valued os ≡ true → begins_valued rest ≡ false → begins_park rest ≡ false
    → option_words fs ++ rest ≡ option_words os ++ (park_word ∷ later) → ⊥
not_behind [] [] rest later f g v p e = true≢false (sym (ap begins_park e) ∙ p)
not_behind [] (o ∷ os) rest later f g v p e = true≢false (sym (and_parts (is_valued o) _ g).0 ∙ sym (ap begins_valued e) ∙ v)
not_behind (q ∷ fs) [] rest later f g v p e = no_valued_park q (and_parts (is_valued q) _ f).0 (ap first_or e)
not_behind (q ∷ fs) (o ∷ os) rest later f g v p e =
    not_behind fs os rest later (and_parts (is_valued q) _ f).1 (and_parts (is_valued o) _ g).1 v p (ap (λ ws. behind (behind ws)) e)

pub nowhere : (words rest : List (List ℕ)) → ValuedFront words rest → begins_valued rest ≡ false → begins_park rest ≡ false
    → (os : Pairs) (later : List (List ℕ)) → IsPark words os later → ⊥
nowhere words rest h v p os later k = not_behind h.front os rest later h.valued k.valued v p (sym h.words_are ∙ k.words_are)

-- the word at this place is `--park`
park_at : (ws : List (Bor (List ℕ))) → begins_park (texts ws) ≡ true → (texts ws ≡ park_word ∷ texts (drop 1 ws)) × (1 ≤ length ws)
park_at [] e = absurd (true≢false (sym e))
park_at (x ∷ ws) e = (ap (λ w. w ∷ texts ws) (same_bytes-is x.now park_word e), omega arith)

pub here : (ws : List (Bor (List ℕ))) (at : ℕ) → (h : ValuedFront (texts ws) (texts (drop at ws))) → begins_park (texts (drop at ws)) ≡ true
    → IsPark (texts ws) h.front (texts (drop (at + 1) ws)) × (at < length ws)
here ws at h e =
    let p = park_at (drop at ws) e in
    let left : length (drop at ws) ≡ length ws - at = length-drop at ws in
    let same : drop 1 (drop at ws) ≡ drop (at + 1) ws = drop-drop 1 at ws in
    let long = p.1 in (
      record {
        words_are = h.words_are ∙ ap (λ rest. option_words h.front ++ rest) (p.0 ∙ ap (λ later. park_word ∷ texts later) same);
        valued = h.valued;
      },
      omega arith,
    )

-- ---- options as the words of a command have them

no_name_is_park : (is_step : Bool) → list_all (λ n. not (same_bytes n park_word)) (options_for is_step) ≡ true
no_name_is_park true = refl
no_name_is_park false = refl

-- they have values
pub all_valued : (is_step : Bool) (os : Pairs) → AreOptions (options_for is_step) os → are_options os ≡ true → are_valued os ≡ true
all_valued is_step [] h e = refl
all_valued is_step (o ∷ os) h e =
    let p = and_parts (is_option o) _ e in
    let other = among_passes (λ n. not (same_bytes n park_word)) (options_for is_step) o.0 (no_name_is_park is_step) h.0 in
    joined (is_valued o) _ (joined (is_option o) _ p.0 other) (all_valued is_step os h.2 p.1)

pub valued_formed : (os : Pairs) → are_valued os ≡ true → are_options os ≡ true
valued_formed [] e = refl
valued_formed (o ∷ os) e =
    let p = and_parts (is_valued o) _ e in
    joined (is_option o) _ (and_parts (is_option o) _ p.0).0 (valued_formed os p.1)

pub valued_first : (os qs : Pairs) → are_valued (os ++ qs) ≡ true → are_valued os ≡ true
valued_first [] qs e = refl
valued_first (o ∷ os) qs e = let p = and_parts (is_valued o) _ e in joined (is_valued o) _ p.0 (valued_first os qs p.1)

-- ---- whether it is among the words

or_true : (a b : Bool) → b ≡ true → (a || b) ≡ true
or_true true b h = refl
or_true false b h = h

neither : (a b : Bool) → a ≡ false → b ≡ false → (a || b) ≡ false
neither a b e f = cc

pub among : (os : Pairs) (later : List (List ℕ)) → is_one_of park_word (option_words os ++ (park_word ∷ later)) ≡ true
among [] later = refl
among (o ∷ os) later =
    let rest = among os later in
    or_true (same_bytes park_word o.0) _ (or_true (same_bytes park_word o.1) _ rest)

not_same : (w : List ℕ) → (w ≡ park_word → ⊥) → same_bytes park_word w ≡ false
not_same w n = go (same_bytes park_word w) refl
  where
    go : (b : Bool) → same_bytes park_word w ≡ b → b ≡ false
    go true t = absurd (n (sym (same_bytes-is park_word w t)))
    go false t = refl

plain_differs : (w : List ℕ) → is_plain w ≡ true → same_bytes park_word w ≡ false
plain_differs w e = not_same w (λ f. true≢false (sym e ∙ ap is_plain f))

pub not_among : (os : Pairs) (rest : List (List ℕ)) → are_valued os ≡ true → are_plain rest ≡ true → is_one_of park_word (option_words os ++ rest) ≡ false
not_among [] [] v p = refl
not_among [] (w ∷ ws) v p =
    let q = and_parts (is_plain w) _ p in
    let rest = not_among [] ws refl q.1 in
    neither (same_bytes park_word w) _ (plain_differs w q.0) rest
not_among (o ∷ os) rest v p =
    let q = and_parts (is_valued o) _ v in
    let value = (and_parts (is_option_name o.0) _ (and_parts (is_option o) _ q.0).0).1 in
    let later = not_among os rest q.1 p in
    neither (same_bytes park_word o.0) _ (not_same o.0 (no_valued_park o q.0)) (neither (same_bytes park_word o.1) _ (plain_differs o.1 value) later)
