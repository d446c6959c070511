-- The pieces of a line: no token holds a newline, and a token before the rest of its line, or of a part of it, stands so before a gap and anything behind it too.
use Rattle.std.proofs.Common.{◌≡◌, ◌<◌, ◌⊎◌, inl, inr, ℕ, Bool, true, false, ◌&&◌, not, nat_eq, cond, List, [], ◌∷◌, ◌++◌, length, Option, Some, None, refl, ap, sym, ◌∙◌, subst, arith}
use Rattle.std.proofs.lemmas.Bool.{and_parts, eqb-true}
use Rattle.std.proofs.lemmas.List.{append_assoc}
use Rattle.pgo_model.specs.ValueText.{is_letter, is_word_byte, same_bytes}
use Rattle.pgo_model.specs.Names.{same_bytes-is}
use Rattle.pgo_lexer.specs.declared.token.Token.{Token}
use Rattle.pgo_lexer.specs.declared.symbol.Symbol.{Symbol}
use Rattle.pgo_lexer.specs.Symbols.{Row, find, signs}
use Rattle.pgo_lexer.specs.Lexemes.{IsPiece, IsRun, Quoted, Stops, all_are, is_in_line, is_plain, escaped, begins_with, opens, opens_line, opens_word}
use Rattle.pgo_lexer.specs.Lexemes as l

-- a blank or a newline
abbrev pub IsGap : ℕ → Type 0
IsGap g = (g ≡ 32) ⊎ (g ≡ 10)

-- what holds of both
pub of_gap : (P : ℕ → Type 0) (g : ℕ) → IsGap g → P 32 → P 10 → P g
of_gap P g (inl e) h k = subst P (sym e) h
of_gap P g (inr e) h k = subst P (sym e) k

-- ---- bytes that are no such byte

abbrev pub is_other : ℕ → ℕ → Bool
is_other g b = not (nat_eq b g)

other_by : (p : ℕ → Bool) (g b : ℕ) (c : Bool) → nat_eq b g ≡ c → p b ≡ true → p g ≡ false → is_other g b ≡ true
other_by p g b true e h n = absurd (let z = sym (ap p (eqb-true b g e)) ∙ h in let w = sym n ∙ z in cc)
other_by p g b false e h n = ap not e

pub all_other : (p : ℕ → Bool) (g : ℕ) → p g ≡ false → (bs : List ℕ) → all_are p bs ≡ true → all_are (is_other g) bs ≡ true
all_other p g n [] h = refl
all_other p g n (b ∷ bs) h =
    let q = and_parts (p b) (all_are p bs) h in
    λ i. other_by p g b (nat_eq b g) refl q.0 n i && all_other p g n bs q.1 i

both_are : (p : ℕ → Bool) (xs ys : List ℕ) → all_are p xs ≡ true → all_are p ys ≡ true → all_are p (xs ++ ys) ≡ true
both_are p [] ys h k = k
both_are p (x ∷ xs) ys h k = let q = and_parts (p x) (all_are p xs) h in λ i. q.0 i && both_are p xs ys q.1 k i

-- ---- rows of a table

-- no row's spelling has this byte
abbrev rows_without : ℕ → List Row → Bool
rows_without g [] = true
rows_without g (r ∷ rs) = all_are (is_other g) r.0 && rows_without g rs

found_without : (g : ℕ) (xs : List ℕ) (rows : List Row) (s : Symbol) → rows_without g rows ≡ true → find xs rows ≡ Some s → all_are (is_other g) xs ≡ true
found_without g xs [] s h e = cc
found_without g xs (r ∷ rs) s h e =
    let q = and_parts (all_are (is_other g) r.0) (rows_without g rs) h in
    go (same_bytes xs r.0) refl q.0 (found_without g xs rs s q.1) e
  where
    go : (c : Bool) → same_bytes xs r.0 ≡ c → all_are (is_other g) r.0 ≡ true → (find xs rs ≡ Some s → all_are (is_other g) xs ≡ true) → cond c (Some r.1) (find xs rs) ≡ Some s → all_are (is_other g) xs ≡ true
    go true same h ih e = ap (all_are (is_other g)) (same_bytes-is xs r.0 same) ∙ h
    go false same h ih e = ih e

found_by : (g : ℕ) (xs : List ℕ) (rows : List Row) (o : Option Symbol) → find xs rows ≡ o → rows_without g rows ≡ true → all_are (is_other g) xs ≡ false → find xs rows ≡ None
found_by g xs rows None e h n = e
found_by g xs rows (Some s) e h n = absurd (let z = found_without g xs rows s h e in let w = sym n ∙ z in cc)

none_with : (g : ℕ) (xs : List ℕ) (rows : List Row) → rows_without g rows ≡ true → all_are (is_other g) xs ≡ false → find xs rows ≡ None
none_with g xs rows h n = found_by g xs rows (find xs rows) refl h n

signs_without : (g : ℕ) → IsGap g → rows_without g signs ≡ true
signs_without g gap = of_gap (λ z. rows_without z signs ≡ true) g gap refl refl

-- ---- no newline

escape_by : (b c : ℕ) (v : Bool) → nat_eq c 10 ≡ v → escaped c ≡ Some b → is_in_line c ≡ true
escape_by b c true e h = absurd (let z : escaped 10 ≡ Some b = sym (ap escaped (eqb-true c 10 e)) ∙ h in cc)
escape_by b c false e h = ap not e

quoted_in_line : {bs string : List ℕ} → Quoted bs string → all_are is_in_line bs ≡ true
quoted_in_line l.none = refl
quoted_in_line (l.plain {b = b} is d) = λ i. other_by is_plain 10 b (nat_eq b 10) refl is refl i && quoted_in_line d i
quoted_in_line (l.escape {b = b} {c = c} is d) = λ i. escape_by b c (nat_eq c 10) refl is i && quoted_in_line d i

pub token_in_line : {front rest : List ℕ} {k : Token} → IsPiece front rest (Some k) → all_are is_in_line front ≡ true
token_in_line (l.number {b = b} {bs = bs} r d small) = all_other is_word_byte 10 refl (b ∷ bs) r.all
token_in_line (l.word {bs = bs} r f) = all_other is_word_byte 10 refl bs r.all
token_in_line (l.name {bs = bs} r is short) = all_other is_word_byte 10 refl bs r.all
token_in_line (l.underscore h) = refl
token_in_line (l.string {bs = bs} q) = both_are is_in_line bs (34 ∷ []) (quoted_in_line q) refl
token_in_line (l.slashed {bs = bs} r f) = all_other is_letter 10 refl bs r.all
token_in_line (l.dollar {bs = bs} r f) = all_other is_word_byte 10 refl bs r.all
token_in_line (l.sign {front = front} {symbol = symbol} is) = found_without 10 front signs symbol refl is.found

-- ---- before a gap

stops_before : (p : ℕ → Bool) (g : ℕ) → p g ≡ false → (rest more : List ℕ) → Stops p rest → Stops p (rest ++ g ∷ more)
stops_before p g n [] more h = n
stops_before p g n (x ∷ rest) more h = h

run_before : (p : ℕ → Bool) (g : ℕ) → p g ≡ false → (front rest more : List ℕ) → IsRun p front rest → IsRun p front (rest ++ g ∷ more)
run_before p g n front rest more r = record { all = r.all; longest = stops_before p g n rest more r.longest }

and_false : (b : Bool) → (b && false) ≡ false
and_false true = refl
and_false false = refl

begins_before : (a b g : ℕ) → nat_eq g a ≡ false → nat_eq g b ≡ false → (bs more : List ℕ) → begins_with a b bs ≡ false → begins_with a b (bs ++ g ∷ more) ≡ false
begins_before a b g na nb [] [] h = refl
begins_before a b g na nb [] (y ∷ more) h = ap (λ z. z && nat_eq y b) na
begins_before a b g na nb (x ∷ []) more h = ap (λ z. nat_eq x a && z) nb ∙ and_false (nat_eq x a)
begins_before a b g na nb (x ∷ (y ∷ bs)) more h = h

word_before : (g : ℕ) → nat_eq g 92 ≡ false → is_letter g ≡ false → (bs more : List ℕ) → opens_word bs ≡ false → opens_word (bs ++ g ∷ more) ≡ false
word_before g n w [] [] h = refl
word_before g n w [] (y ∷ more) h = ap (λ z. z && is_letter y) n
word_before g n w (x ∷ []) more h = ap (λ z. nat_eq x 92 && z) w ∙ and_false (nat_eq x 92)
word_before g n w (x ∷ (y ∷ bs)) more h = h

-- how more bytes of a longer rest begin: they are of the rest, or the gap is among them
abbrev Parted : ℕ → List ℕ → List ℕ → Type 0
Parted g rest m = ((c : List ℕ) × (rest ≡ m ++ c)) ⊎ (all_are (is_other g) m ≡ false)

parted : (g : ℕ) (rest more m b : List ℕ) → rest ++ g ∷ more ≡ m ++ b → Parted g rest m
parted g rest more [] b e = inl (rest, refl)
parted g [] more (y ∷ m) b e = inr (let s : y ≡ g = cc in ap (λ z. not (nat_eq z g) && all_are (is_other g) m) s ∙ ap (λ z. not z && all_are (is_other g) m) same)
  where
    same : nat_eq g g ≡ true
    same = grind arith
parted g (x ∷ rest) more (y ∷ m) b e = go (parted g rest more m b (let t : rest ++ g ∷ more ≡ m ++ b = cc in t)) (let s : x ≡ y = cc in s)
  where
    go : Parted g rest m → x ≡ y → Parted g (x ∷ rest) (y ∷ m)
    go (inl (c, h)) s = inl (c, λ i. s i ∷ h i)
    go (inr n) s = inr (ap (λ z. is_other g y && z) n ∙ and_false (is_other g y))

front_with : (g : ℕ) (front m : List ℕ) → all_are (is_other g) m ≡ false → all_are (is_other g) (front ++ m) ≡ false
front_with g [] m h = h
front_with g (x ∷ front) m h = ap (λ z. is_other g x && z) (front_with g front m h) ∙ and_false (is_other g x)

longest_before : (g : ℕ) → IsGap g → (front rest more : List ℕ) → ((m b : List ℕ) → rest ≡ m ++ b → 0 < length m → find (front ++ m) signs ≡ None)
    → (m b : List ℕ) → rest ++ g ∷ more ≡ m ++ b → 0 < length m → find (front ++ m) signs ≡ None
longest_before g gap front rest more longest m b e some = go (parted g rest more m b e)
  where
    go : Parted g rest m → find (front ++ m) signs ≡ None
    go (inl (c, h)) = longest m c h some
    go (inr n) = none_with g (front ++ m) signs (signs_without g gap) (front_with g front m n)

-- what a gap isn't
record Gap (g : ℕ) : Type 0 where
  word : is_word_byte g ≡ false
  letter : is_letter g ≡ false
  round : nat_eq g 40 ≡ false
  star : nat_eq g 42 ≡ false
  slash : nat_eq g 92 ≡ false

gap_of : (g : ℕ) → IsGap g → Gap g
gap_of g gap = of_gap Gap g gap (record { word = refl; letter = refl; round = refl; star = refl; slash = refl }) (record { word = refl; letter = refl; round = refl; star = refl; slash = refl })

pub before_gap : (g : ℕ) → IsGap g → (more : List ℕ) → {front rest : List ℕ} {k : Token} → IsPiece front rest (Some k) → IsPiece front (rest ++ g ∷ more) (Some k)
before_gap g gap more (l.number {b = b} {bs = bs} {rest = rest} r d small) = l.number (run_before is_word_byte g (gap_of g gap).word (b ∷ bs) rest more r) d small
before_gap g gap more (l.word {bs = bs} {rest = rest} r f) = l.word (run_before is_word_byte g (gap_of g gap).word bs rest more r) f
before_gap g gap more (l.name {bs = bs} {rest = rest} r is short) = l.name (run_before is_word_byte g (gap_of g gap).word bs rest more r) is short
before_gap g gap more (l.underscore {rest = rest} h) = l.underscore (stops_before is_word_byte g (gap_of g gap).word rest more h)
before_gap g gap more (l.string q) = l.string q
before_gap g gap more (l.slashed {bs = bs} {rest = rest} r f) = l.slashed (run_before is_letter g (gap_of g gap).letter bs rest more r) f
before_gap g gap more (l.dollar {bs = bs} {rest = rest} r f) = l.dollar (run_before is_word_byte g (gap_of g gap).word bs rest more r) f
before_gap g gap more (l.sign {front = front} {rest = rest} is) =
    let v = gap_of g gap in
    let group = append_assoc front rest (g ∷ more) in
    l.sign (record {
      found = is.found;
      longest = longest_before g gap front rest more is.longest;
      no_comment = sym (ap opens group) ∙ begins_before 40 42 g v.round v.star (front ++ rest) more is.no_comment;
      no_line = sym (ap opens_line group) ∙ begins_before 92 42 g v.slash v.star (front ++ rest) more is.no_line;
      no_word = sym (ap opens_word group) ∙ word_before g v.slash v.letter (front ++ rest) more is.no_word;
    })
