-- The options at the front of words, and the words behind them.
use Rattle.std.proofs.Common.{◌≡◌, ◌∙◌, ◌&&◌, ◌==◌, ◌≤◌, ◌-◌, ◌+◌, ℕ, Bool, true, false, not, refl, sym, ap, subst, arith, List, [], ◌∷◌, ◌++◌, length, take, drop, true≢false, append-nil, length-drop}
use Rattle.std.specs.Borrow.{Bor}
use Rattle.std.proofs.lemmas.List.{append_cancel_right, take_all, drop-drop, map-append, take-append-drop}
use Rattle.std.proofs.lemmas.Bool.{and_parts}
use Rattle.pgo_words.specs.Options.{option_words}
use Rattle.pgo_words.specs.Parts.{Pairs, Parts, are_options, are_plain, begins_option, is_option_name, is_option, is_plain, texts}

pub joined : (a b : Bool) → a ≡ true → b ≡ true → (a && b) ≡ true
joined a b e f = cc

-- a name begins with `-`
pub name_dashed : (w : List ℕ) → is_option_name w ≡ true → is_plain w ≡ false
name_dashed [] e = absurd (true≢false (sym e))
name_dashed (a ∷ []) e = absurd (true≢false (sym e))
name_dashed (a ∷ (b ∷ [])) e = absurd (true≢false (sym e))
name_dashed (a ∷ (b ∷ (x ∷ xs))) e = ap not (and_parts (a == 45) _ e).0

-- words that don't begin with `-` begin with no option
pub no_name : (w : List ℕ) (ws : List (List ℕ)) → is_option_name w ≡ true → are_plain (w ∷ ws) ≡ true → ⊥
no_name w ws n p = true≢false (sym (and_parts (is_plain w) _ p).0 ∙ name_dashed w n)

abbrev pub first_or : List (List ℕ) → List ℕ
first_or [] = []
first_or (w ∷ ws) = w

abbrev pub behind : List (List ℕ) → List (List ℕ)
behind [] = []
behind (w ∷ ws) = ws

-- a cut has the same options at its front
pub stripped : (front os : Pairs) (words rest : List (List ℕ)) → are_options front ≡ true → are_options os ≡ true → are_plain rest ≡ true
    → option_words front ++ words ≡ option_words os ++ rest
    → (later : Pairs) × (os ≡ front ++ later) × (words ≡ option_words later ++ rest) × (are_options later ≡ true)
stripped [] os words rest f g p e = (os, refl, e, g)
stripped (o ∷ front) [] words rest f g p e =
    absurd (no_name o.0 (o.1 ∷ (option_words front ++ words)) (and_parts (is_option_name o.0) _ (and_parts (is_option o) _ f).0).0 (ap are_plain e ∙ p))
stripped (o ∷ front) (q ∷ os) words rest f g p e =
    let name : o.0 ≡ q.0 = ap first_or e in
    let value : o.1 ≡ q.1 = ap (λ ws. first_or (behind ws)) e in
    let same : o ∷ os ≡ q ∷ os = λ i. (name i, value i) ∷ os in
    let s = stripped front os words rest (and_parts (is_option o) _ f).1 (and_parts (is_option q) _ g).1 p (ap (λ ws. behind (behind ws)) e) in
    (s.0, sym same ∙ ap (λ os. o ∷ os) s.1, s.2, s.3)

-- the words so far are options
pub record SoFar (words rest : List (List ℕ)) : Type 0 where
  pub front : Pairs
  pub words_are : words ≡ option_words front ++ rest
  pub formed : are_options front ≡ true

pub words_more : (os : Pairs) (o : List ℕ × List ℕ) (later : List (List ℕ)) → option_words (os ++ o ∷ []) ++ later ≡ option_words os ++ (o.0 ∷ (o.1 ∷ later))
words_more [] o later = refl
words_more (d ∷ os) o later = ap (λ ws. d.0 ∷ (d.1 ∷ ws)) (words_more os o later)

options_more : (os : Pairs) (o : List ℕ × List ℕ) → are_options os ≡ true → is_option o ≡ true → are_options (os ++ o ∷ []) ≡ true
options_more [] o f e = joined (is_option o) true e refl
options_more (d ∷ os) o f e = let p = and_parts (is_option d) _ f in joined (is_option d) _ p.0 (options_more os o p.1 e)

pub one_more : (words rest later : List (List ℕ)) (o : List ℕ × List ℕ) → SoFar words rest → rest ≡ o.0 ∷ (o.1 ∷ later) → is_option o ≡ true → SoFar words later
one_more words rest later o h e f = record {
  front = h.front ++ o ∷ [];
  words_are = h.words_are ∙ ap (λ ws. option_words h.front ++ ws) e ∙ sym (words_more h.front o later);
  formed = options_more h.front o h.formed f;
}

-- no cut, where no option stands before what is left, and a word there begins with `-`
pub stops : (words rest : List (List ℕ)) → SoFar words rest → begins_option rest ≡ false → are_plain rest ≡ false
    → (os : Pairs) (behind : List (List ℕ)) → Parts words os behind → ⊥
stops words rest h none late os behind p =
    let s = stripped h.front os rest behind h.formed p.formed p.plain (sym h.words_are ∙ p.words_are) in
    go s.0 s.2 s.3
  where
    go : (later : Pairs) → rest ≡ option_words later ++ behind → are_options later ≡ true → ⊥
    go [] e f = true≢false (sym p.plain ∙ ap are_plain (sym e) ∙ late)
    go (o ∷ later) e f = true≢false (sym (and_parts (is_option o) _ f).0 ∙ sym (ap begins_option e) ∙ none)

-- a list from a place on
pub tail_is : (ws : List (Bor (List ℕ))) (end : ℕ) → take (length ws - end) (drop end ws) ≡ drop end ws
tail_is ws end = let left : length (drop end ws) ≡ length ws - end = length-drop end ws in take_all (length ws - end) (drop end ws) (omega arith)

-- a further option
pair_at : (ws : List (Bor (List ℕ))) → begins_option (texts ws) ≡ true
    → (o : List ℕ × List ℕ) × (texts ws ≡ o.0 ∷ (o.1 ∷ texts (drop 2 ws))) × (is_option o ≡ true) × (2 ≤ length ws)
pair_at [] e = absurd (true≢false (sym e))
pair_at (x ∷ []) e = absurd (true≢false (sym e))
pair_at (x ∷ (y ∷ zs)) e = ((x.now, y.now), refl, e, omega arith)

pub goes_on : (ws : List (Bor (List ℕ))) (end : ℕ) → end ≤ length ws → SoFar (texts ws) (texts (drop end ws)) → begins_option (texts (drop end ws)) ≡ true
    → (end + 2 ≤ length ws) × SoFar (texts ws) (texts (drop (end + 2) ws))
goes_on ws end fits h e =
    let p = pair_at (drop end ws) e in
    let left : length (drop end ws) ≡ length ws - end = length-drop end ws in
    let same : drop 2 (drop end ws) ≡ drop (end + 2) ws = drop-drop 2 end ws in
    let long = p.3 in
    (omega arith, subst (λ later. SoFar (texts ws) (texts later)) same (one_more (texts ws) (texts (drop end ws)) (texts (drop 2 (drop end ws))) p.0 h p.1 p.2))

-- the words before the rest of a cut are the options' words
pub front_words : (ws : List (Bor (List ℕ))) (end : ℕ) (os : Pairs) → texts ws ≡ option_words os ++ texts (drop end ws) → texts (take end ws) ≡ option_words os
front_words ws end os e =
    append_cancel_right (texts (take end ws)) (option_words os) (texts (drop end ws))
    (sym (map-append (λ (w : Bor (List ℕ)). w.now) (take end ws) (drop end ws)) ∙ ap texts (take-append-drop end ws) ∙ e)

-- a cut is the only one
pub one_cut : (words : List (List ℕ)) (os qs : Pairs) (rest behind : List (List ℕ)) → Parts words os rest → Parts words qs behind → qs ≡ os
one_cut words os qs rest behind p q =
    let s = stripped os qs rest behind p.formed q.formed q.plain (sym p.words_are ∙ q.words_are) in
    let none = nothing_left s.0 rest behind p.plain s.2 s.3 in
    s.1 ∙ ap (λ later. os ++ later) none ∙ append-nil os
  where
    nothing_left : (later : Pairs) (rest behind : List (List ℕ)) → are_plain rest ≡ true → rest ≡ option_words later ++ behind → are_options later ≡ true → later ≡ []
    nothing_left [] rest behind p e f = refl
    nothing_left (o ∷ later) rest behind p e f =
        absurd (no_name o.0 (o.1 ∷ (option_words later ++ behind)) (and_parts (is_option_name o.0) _ (and_parts (is_option o) _ f).0).0 (ap are_plain (sym e) ∙ p))
