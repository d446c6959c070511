-- The tests of places in a text tell what they are to.
use Rattle.std.proofs.Common.{◌≡◌, ◌≤◌, ℕ, Bool, true, false, not, ◌&&◌, ◌||◌, nat_eq, nat_le, List, [], ◌∷◌, ◌++◌, length, take, drop, refl, sym, ◌∙◌, ap, subst, arith, inl, inr}
use Rattle.std.specs.Prelude.{codes}
use Rattle.std.specs.List.{prefix_len, fold}
use Rattle.std.proofs.Math.Bool.{or-true}
use Rattle.std.proofs.Math.Seq.{drop-append_seam}
use Rattle.std.proofs.lemmas.Bool.{and_parts, eq-eqb, eqb-true, leb-true}
use Rattle.std.proofs.lemmas.Bool.Decides.{leb_tells, nat_tests}
use Rattle.std.proofs.lemmas.List.{take-append-drop, append_assoc, append-nil}
use Rattle.std.proofs.lemmas.List.Folds.{length-prefix_len}
use Rattle.std.proofs.lemmas.List.Sums.{fold-append}
use Rattle.pgo_model.specs.ValueText.{is_word_byte}
use Rattle.pgo_lexer.specs.Symbols.{is_beginning}
use Rattle.pgo_lexer.specs.Lexemes.{all_are, Stops}
use Rattle.pgo_lexer.specs.Pieces.{begins}
use Rattle.pgo_lexer.proofs.Runs.{run_at, run_found}
use Rattle.pgo_spec_text.specs.SpecText.{BeginsWith, IsBeforeLine, OpensModule, IsModuleLine, is_space, is_dash, mpcal}
use Rattle.pgo_spec_text.specs.Searching.{word_at, opens_module, is_fresh, is_line_at, is_mpcal_at, is_row_at, stays, skip_spaces}
use Rattle.pgo_spec_text.proofs.Firsts.{Tells}

not_true : (b : Bool) → not b ≡ true → b ≡ false
not_true true h = cc
not_true false h = refl

both : (a b : Bool) → a ≡ true → b ≡ true → (a && b) ≡ true
both true b e f = f
both false b e f = cc

-- ---- words

beginning_is : (word bytes : List ℕ) → is_beginning word bytes ≡ true → bytes ≡ word ++ drop (length word) bytes
beginning_is [] bytes h = refl
beginning_is (x ∷ xs) [] h = cc
beginning_is (x ∷ xs) (y ∷ ys) h =
    let q = and_parts (nat_eq x y) (is_beginning xs ys) h in
    λ i. sym (eqb-true x y q.0) i ∷ beginning_is xs ys q.1 i

is_its_beginning : (word behind : List ℕ) → is_beginning word (word ++ behind) ≡ true
is_its_beginning [] behind = refl
is_its_beginning (x ∷ xs) behind = both (nat_eq x x) (is_beginning xs (xs ++ behind)) (eq-eqb x x refl) (is_its_beginning xs behind)

stops_there : (p : ℕ → Bool) (bs : List ℕ) → begins p bs ≡ false → Stops p bs
stops_there p [] h = tt
stops_there p (b ∷ bs) h = h

begins_none : (p : ℕ → Bool) (bs : List ℕ) → Stops p bs → begins p bs ≡ false
begins_none p [] h = refl
begins_none p (b ∷ bs) h = h

pub word_is : (word bytes : List ℕ) → word_at word bytes ≡ true → BeginsWith word bytes
unfolding word_at
word_is word bytes h =
    let q = and_parts (is_beginning word bytes) (not (begins is_word_byte (drop (length word) bytes))) h in
    record {
      behind = drop (length word) bytes;
      both = beginning_is word bytes q.0;
      ends = stops_there is_word_byte (drop (length word) bytes) (not_true (begins is_word_byte (drop (length word) bytes)) q.1);
    }

word_behind : (word behind : List ℕ) → Stops is_word_byte behind → word_at word (word ++ behind) ≡ true
unfolding word_at
word_behind word behind h =
    both (is_beginning word (word ++ behind)) _ (is_its_beginning word behind)
    (ap (λ b. not b) (ap (begins is_word_byte) (drop-append_seam word behind) ∙ begins_none is_word_byte behind h))

pub word_found : (word bytes : List ℕ) → BeginsWith word bytes → word_at word bytes ≡ true
word_found word bytes h = subst (λ x. word_at word x ≡ true) (sym h.both) (word_behind word h.behind h.ends)

-- ---- the beginning of a line

-- only blanks stand before on the line
pub fresh : List ℕ → Bool
fresh before = fold is_fresh true before

pub fresh_more : (before : List ℕ) (b : ℕ) → fresh (before ++ b ∷ []) ≡ is_fresh (fresh before) b
unfolding fresh
fresh_more before b = fold-append is_fresh true before (b ∷ [])

fresh_none : fresh [] ≡ true
unfolding fresh
fresh_none = refl

blanks_keep : (before blanks : List ℕ) → fresh before ≡ true → all_are is_space blanks ≡ true → fresh (before ++ blanks) ≡ true
blanks_keep before [] e h = ap fresh (append-nil before) ∙ e
blanks_keep before (b ∷ bs) e h =
    let q = and_parts (is_space b) (all_are is_space bs) h in
    let one : fresh (before ++ b ∷ []) ≡ true = fresh_more before b ∙ (λ i. nat_eq b 10 || (e i && q.0 i)) ∙ or-true (nat_eq b 10) in
    ap fresh (sym (append_assoc before (b ∷ []) bs)) ∙ blanks_keep (before ++ b ∷ []) bs one q.1

pub line_fresh : (before : List ℕ) → IsBeforeLine before → fresh before ≡ true
line_fresh before h = ap fresh h.both ∙ elim h.are_lines [
  | inl none ↦ blanks_keep h.lines h.blanks (ap fresh none ∙ fresh_none) h.are_blanks
  | inr some ↦ blanks_keep h.lines h.blanks (ap fresh some.1 ∙ fresh_more some.0 10) h.are_blanks
]

abbrev Line : List ℕ → Type 0
Line before = fresh before ≡ true → IsBeforeLine before

one_line : (before : List ℕ) (b : ℕ) → Line before → Line (before ++ b ∷ [])
one_line before b h e = go (nat_eq b 10) refl (fresh before) refl (is_space b) refl (sym (fresh_more before b) ∙ e)
  where
    go : (n : Bool) → nat_eq b 10 ≡ n → (f : Bool) → fresh before ≡ f → (s : Bool) → is_space b ≡ s → (n || (f && s)) ≡ true → IsBeforeLine (before ++ b ∷ [])
    go true is f fis s sis t = record {
      lines = before ++ b ∷ [];
      blanks = [];
      both = sym (append-nil (before ++ b ∷ []));
      are_lines = inr (before, (λ i. before ++ eqb-true b 10 is i ∷ []));
      are_blanks = refl;
    }
    go false is true fis true sis t =
        let k = h fis in
        record {
          lines = k.lines;
          blanks = k.blanks ++ b ∷ [];
          both = (λ i. k.both i ++ b ∷ []) ∙ append_assoc k.lines k.blanks (b ∷ []);
          are_lines = k.are_lines;
          are_blanks = all_more k.blanks b k.are_blanks sis;
        }
      where
        all_more : (xs : List ℕ) (b : ℕ) → all_are is_space xs ≡ true → is_space b ≡ true → all_are is_space (xs ++ b ∷ []) ≡ true
        all_more [] b h e = both (is_space b) true e refl
        all_more (x ∷ xs) b h e =
            let q = and_parts (is_space x) (all_are is_space xs) h in
            both (is_space x) (all_are is_space (xs ++ b ∷ [])) q.0 (all_more xs b q.1 e)
    go false is true fis false sis t = cc
    go false is false fis s sis t = cc

lines_along : (before bs : List ℕ) → Line before → Line (before ++ bs)
lines_along before [] h = subst Line (sym (append-nil before)) h
lines_along before (b ∷ bs) h = subst Line (append_assoc before (b ∷ []) bs) (lines_along (before ++ b ∷ []) bs (one_line before b h))

pub fresh_line : (before : List ℕ) → fresh before ≡ true → IsBeforeLine before
fresh_line before = lines_along [] before (λ e. record { lines = []; blanks = []; both = refl; are_lines = inl refl; are_blanks = refl })

-- ---- the line of MODULE

module_opens : (bytes : List ℕ) → opens_module bytes ≡ true → OpensModule bytes
unfolding opens_module
module_opens bytes h =
    let n = prefix_len is_dash bytes in
    let tail = drop n bytes in
    let k = prefix_len is_space tail in
    let q = and_parts (nat_le 4 n) (word_at (codes "MODULE") (drop k tail)) h in
    let long = length-prefix_len is_dash bytes in
    let four = leb-true 4 n q.0 in
    record {
      dashes = take n bytes;
      blanks = take k tail;
      rest = drop k tail;
      both = sym (take-append-drop n bytes) ∙ (λ i. take n bytes ++ sym (take-append-drop k tail) i);
      are_dashes = (run_at is_dash bytes).all;
      four = omega (arith, long, four);
      are_blanks = (run_at is_space tail).all;
      word = word_is (codes "MODULE") (drop k tail) q.1;
    }

space_no_dash : (b : ℕ) → is_space b ≡ true → is_dash b ≡ false
space_no_dash b h = grind (arith, nat_tests)

no_dash : (blanks behind : List ℕ) → all_are is_space blanks ≡ true → Stops is_dash (blanks ++ (codes "MODULE" ++ behind))
no_dash [] behind h = refl
no_dash (b ∷ bs) behind h = space_no_dash b (and_parts (is_space b) (all_are is_space bs) h).0

at_module : (dashes blanks behind : List ℕ) → all_are is_dash dashes ≡ true → 4 ≤ length dashes → all_are is_space blanks ≡ true → Stops is_word_byte behind → opens_module (dashes ++ (blanks ++ (codes "MODULE" ++ behind))) ≡ true
unfolding opens_module
at_module dashes blanks behind d four s w =
    let word = codes "MODULE" ++ behind in
    let first = run_found is_dash dashes (blanks ++ word) (record { all = d; longest = no_dash blanks behind s }) in
    let second = run_found is_space blanks word (record { all = s; longest = refl }) in
    let n = prefix_len is_dash (dashes ++ (blanks ++ word)) in
    let tail : drop n (dashes ++ (blanks ++ word)) ≡ blanks ++ word = (λ i. drop (first i) (dashes ++ (blanks ++ word))) ∙ drop-append_seam dashes (blanks ++ word) in
    both (nat_le 4 n) _ (few_test 4 n (omega (arith, first, four)))
    (ap (λ x. word_at (codes "MODULE") (skip_spaces x)) tail ∙ ap (word_at (codes "MODULE")) ((λ i. drop (second i) (blanks ++ word)) ∙ drop-append_seam blanks word) ∙ word_behind (codes "MODULE") behind w)
  where
    few_test : (n m : ℕ) → n ≤ m → nat_le n m ≡ true
    few_test n m h = elim (leb_tells n m) [ inl k ↦ k.0 | inr k ↦ absurd (omega (arith, k.1)) ]

module_found : (bytes : List ℕ) → OpensModule bytes → opens_module bytes ≡ true
module_found bytes h =
    let e : bytes ≡ h.dashes ++ (h.blanks ++ (codes "MODULE" ++ h.word.behind)) = h.both ∙ (λ i. h.dashes ++ (h.blanks ++ h.word.both i)) in
    subst (λ x. opens_module x ≡ true) (sym e) (at_module h.dashes h.blanks h.word.behind h.are_dashes h.four h.are_blanks h.word.ends)

no_module : OpensModule [] → ⊥
no_module h = go h.dashes h.both h.four
  where
    go : (ds : List ℕ) → [] ≡ ds ++ (h.blanks ++ h.rest) → 4 ≤ length ds → ⊥
    go [] e four = absurd (omega arith)
    go (d ∷ ds) e four = cc

pub tells_module : Tells IsModuleLine is_line_at is_fresh fresh
tells_module = record {
  yes = λ before rest h. both (fresh before) (opens_module rest) (line_fresh before h.line) (module_found rest h.word);
  is = λ before rest h. (let q = and_parts (fresh before) (opens_module rest) h in record { line = fresh_line before q.0; word = module_opens rest q.1 });
  more = fresh_more;
  some = λ before h. no_module h.word;
}

pub fresh_first : fresh [] ≡ true
fresh_first = fresh_none

-- ---- `--mpcal`, and the closing row

abbrev pub AtMpcal : (before rest : List ℕ) → Type 0
AtMpcal before rest = BeginsWith mpcal rest

no_word : BeginsWith mpcal [] → ⊥
no_word h = let e = h.both in cc

pub tells_mpcal : Tells AtMpcal is_mpcal_at stays (λ _. true)
tells_mpcal = record {
  yes = λ before rest h. word_found mpcal rest h;
  is = λ before rest h. word_is mpcal rest h;
  more = λ before b. refl;
  some = λ before h. no_word h;
}

pub record AtRow (before rest : List ℕ) : Type 0 where
  pub behind : List ℕ
  pub both : rest ≡ codes "====" ++ behind

no_row : (before : List ℕ) → AtRow before [] → ⊥
no_row before h = let e = h.both in cc

pub tells_row : Tells AtRow is_row_at stays (λ _. true)
tells_row = record {
  yes = λ before rest h. ap (is_beginning (codes "====")) h.both ∙ is_its_beginning (codes "====") h.behind;
  is = λ before rest h. record { behind = drop 4 rest; both = beginning_is (codes "====") rest h };
  more = λ before b. refl;
  some = no_row;
}
