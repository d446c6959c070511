-- The table of claims is what entries and notes say of each attempt.
use Rattle.std.proofs.Common.{◌≡◌, ◌≤◌, ◌<◌, ◌+◌, ◌-◌, min, drop, ℕ, zero, suc, ◌&&◌, nat_eq, List, [], ◌∷◌, length, map, Some, None, refl, ap, sym, ◌∙◌, arith, get_or, set}
use Rattle.std.proofs.lemmas.Bool.{ne_eqb, eq-eqb}
use Rattle.std.proofs.lemmas.List.{map-set, get_or-map, length-map}
use Rattle.std.specs.Prelude.{if◌then◌else◌}
use Rattle.pgo_bundle.specs.Accounts.{AttemptLine, Account}
use Rattle.pgo_bundle.specs.BundleLog.{LoggedNote, LoggedEntry, BundleLog}
use Rattle.pgo_bundle.specs.Untied.{Claim, Nothing, OneStep, OneNote, and_also, is_of, with_notes, with_entries, claim_of, says_so, follows, last_with, most_with, broken_from, broken_records, or_else, at_record}
use Rattle.pgo_bundle.specs.Tables.{row_of, table_of, put_in, put_claim, put_notes, put_entries, broken_row, broken_rows, empty_row, empty_account}

-- ---- rows and tables of functions that agree

row_same : (f g : ℕ → Claim) (a : ℕ) (xs : List AttemptLine) → ((b : ℕ) → a ≤ b → f b ≡ g b) → row_of f a xs ≡ row_of g a xs
row_same f g a [] h = refl
row_same f g a (x ∷ xs) h =
    let first = h a (omega arith) in
    let rest = row_same f g (suc a) xs (λ b e. h b (omega (arith, e))) in
    λ i. first i ∷ rest i

table_same : (f g : ℕ → ℕ → Claim) (k : ℕ) (cs : List Account) → ((j b : ℕ) → k ≤ j → 1 ≤ b → f j b ≡ g j b) → table_of f k cs ≡ table_of g k cs
table_same f g k [] h = refl
table_same f g k (c ∷ cs) h =
    let first = row_same (f k) (g k) 1 c.attempts (λ b e. h k b (omega arith) e) in
    let rest = table_same f g (suc k) cs (λ j b e. h j b (omega (arith, e))) in
    λ i. first i ∷ rest i

-- ---- one claim

abbrev put_one : (n b : ℕ) → Claim → Claim → Claim
put_one n b c old = if nat_eq b n then and_also old c else old

-- attempt a + i of a row from a on
row_put : (f : ℕ → Claim) (c : Claim) (i a b : ℕ) (xs : List AttemptLine) → b ≡ a + i → put_in (suc i) c (row_of f a xs) ≡ row_of (λ n. put_one n b c (f n)) a xs
unfolding put_in
row_put f c i a b [] e = refl
row_put f c zero a b (x ∷ xs) e =
    let here : b ≡ a = omega (arith, e) in
    let first : put_one a b c (f a) ≡ and_also (f a) c = ap (λ t. if t then and_also (f a) c else f a) (eq-eqb b a here) in
    let rest = row_same f (λ n. put_one n b c (f n)) (suc a) xs (λ n k. sym (ap (λ t. if t then and_also (f n) c else f n) (ne_eqb b n (λ q. omega (arith, q, here, k))))) in
    λ j. sym first j ∷ rest j
row_put f c (suc i) a b (x ∷ xs) e =
    let first : put_one a b c (f a) ≡ f a = ap (λ t. if t then and_also (f a) c else f a) (ne_eqb b a (λ q. omega (arith, q, e))) in
    let rest = row_put f c i (suc a) b xs (omega (arith, e)) in
    λ j. sym first j ∷ rest j

-- attempt b of a row from 1 on
row_claim : (f : ℕ → Claim) (c : Claim) (b : ℕ) (xs : List AttemptLine) → put_in b c (row_of f 1 xs) ≡ row_of (λ n. put_one n b c (f n)) 1 xs
unfolding put_in
row_claim f c zero xs = row_same f (λ n. put_one n 0 c (f n)) 1 xs (λ n k. sym (ap (λ t. if t then and_also (f n) c else f n) (ne_eqb 0 n (λ q. omega (arith, q, k)))))
row_claim f c (suc i) xs = row_put f c i 1 (suc i) xs (omega arith)

abbrev put_both : (k a j b : ℕ) → Claim → Claim → Claim
put_both k a j b c old = if is_of k a j b then and_also old c else old

here_both : (k a j b : ℕ) (c old : Claim) → j ≡ k → put_both k a j b c old ≡ put_one a b c old
here_both k a j b c old e = ap (λ t. if t && nat_eq b a then and_also old c else old) (eq-eqb j k e)

other_both : (k a j b : ℕ) (c old : Claim) → (j ≡ k → ⊥) → put_both k a j b c old ≡ old
other_both k a j b c old e = ap (λ t. if t && nat_eq b a then and_also old c else old) (ne_eqb j k e)

-- instance k + i of a table from k on
table_put : (f : ℕ → ℕ → Claim) (c : Claim) (i k j b : ℕ) (cs : List Account) → j ≡ k + i → put_claim i b c (table_of f k cs) ≡ table_of (λ n a. put_both n a j b c (f n a)) k cs
unfolding put_claim
table_put f c i k j b [] e = refl
table_put f c zero k j b (d ∷ cs) e =
    let here : j ≡ k = omega (arith, e) in
    let first = row_claim (f k) c b d.attempts ∙ row_same (λ n. put_one n b c (f k n)) (λ n. put_both k n j b c (f k n)) 1 d.attempts (λ n h. sym (here_both k n j b c (f k n) here)) in
    let rest = table_same f (λ n a. put_both n a j b c (f n a)) (suc k) cs (λ n a h g. sym (other_both n a j b c (f n a) (λ q. omega (arith, q, here, h)))) in
    λ m. first m ∷ rest m
table_put f c (suc i) k j b (d ∷ cs) e =
    let first = row_same (f k) (λ n. put_both k n j b c (f k n)) 1 d.attempts (λ n h. sym (other_both k n j b c (f k n) (λ q. omega (arith, q, e)))) in
    let rest = table_put f c i (suc k) j b cs (omega (arith, e)) in
    λ m. first m ∷ rest m

-- ---- all claims

notes_put : (f : ℕ → ℕ → Claim) (p : ℕ) (ns : List LoggedNote) (cs : List Account) → put_notes p ns (table_of f 0 cs) ≡ table_of (λ k a. with_notes k a p (f k a) ns) 0 cs
unfolding put_notes
notes_put f p [] cs = refl
notes_put f p (n ∷ ns) cs =
    ap (put_notes p ns) (table_put f (OneNote n.kind p) n.instance 0 n.instance n.attempt cs (omega arith))
    ∙ notes_put (λ k a. put_both k a n.instance n.attempt (OneNote n.kind p) (f k a)) p ns cs

entries_put : (f : ℕ → ℕ → Claim) (i : ℕ) (es : List LoggedEntry) (cs : List Account) → put_entries i es (table_of f 0 cs) ≡ table_of (λ k a. with_entries k a i (f k a) es) 0 cs
unfolding put_entries
entries_put f i [] cs = refl
entries_put f i (e ∷ es) cs =
    let g : ℕ → ℕ → Claim = λ k a. put_both k a e.entry.instance e.entry.attempt (OneStep i) (f k a) in
    ap (λ t. put_entries (suc i) es (put_notes i e.notes t)) (table_put f (OneStep i) e.entry.instance 0 e.entry.instance e.entry.attempt cs (omega arith))
    ∙ ap (put_entries (suc i) es) (notes_put g i e.notes cs)
    ∙ entries_put (λ k a. with_notes k a i (g k a) e.notes) (suc i) es cs

row_empty : (a : ℕ) (xs : List AttemptLine) → empty_row xs ≡ row_of (λ n. Nothing) a xs
row_empty a [] = refl
row_empty a (x ∷ xs) = ap (λ r. Nothing ∷ r) (row_empty (suc a) xs)

table_empty : (k : ℕ) (cs : List Account) → map empty_account cs ≡ table_of (λ n a. Nothing) k cs
table_empty k [] = refl
table_empty k (c ∷ cs) =
    let first = row_empty 1 c.attempts in
    let rest = table_empty (suc k) cs in
    λ j. first j ∷ rest j

pub all_put : (l : BundleLog) → put_entries 1 l.entries (put_notes 0 l.notes (map empty_account l.accounts)) ≡ table_of (claim_of l) 0 l.accounts
all_put l =
    ap (λ t. put_entries 1 l.entries (put_notes 0 l.notes t)) (table_empty 0 l.accounts)
    ∙ ap (put_entries 1 l.entries) (notes_put (λ n a. Nothing) 0 l.notes l.accounts)
    ∙ entries_put (λ k a. with_notes k a 0 Nothing l.notes) 1 l.entries l.accounts

-- ---- records

row_broken : (l : BundleLog) (k a last most : ℕ) (xs : List AttemptLine) → broken_row (row_of (claim_of l k) a xs) a last most xs ≡ broken_from l k a last most xs
row_broken l k a last most [] = refl
row_broken l k a last most (x ∷ xs) = ap (λ t. if says_so (claim_of l k a) x && follows last most x then t else Some a) (row_broken l k (suc a) (last_with last x) (most_with most x) xs)

pub rows_broken : (l : BundleLog) (k : ℕ) (cs : List Account) → broken_rows (table_of (claim_of l) k cs) k cs ≡ broken_records l k cs
rows_broken l k [] = refl
rows_broken l k (c ∷ cs) =
    let first = row_broken l k 1 0 0 c.attempts in
    let rest = rows_broken l (suc k) cs in
    λ j. or_else (at_record k (first j)) (rest j)

-- ---- a row and a table at a place

pub put_none : (c : Claim) (r : List Claim) → put_in 0 c r ≡ r
unfolding put_in
put_none c r = refl

pub put_set : (i : ℕ) (c d : Claim) (r : List Claim) → i < length r → put_in (suc i) c r ≡ set r i (and_also (get_or r i d) c)
unfolding put_in
put_set i c d [] h = absurd (omega (arith, h))
put_set zero c d (x ∷ r) h = refl
put_set (suc i) c d (x ∷ r) h = ap (λ z. x ∷ z) (put_set i c d r (omega (arith, h)))

pub put_past : (i : ℕ) (c : Claim) (r : List Claim) → length r ≤ i → put_in (suc i) c r ≡ r
unfolding put_in
put_past i c [] h = refl
put_past zero c (x ∷ r) h = absurd (omega (arith, h))
put_past (suc i) c (x ∷ r) h = ap (λ z. x ∷ z) (put_past i c r (omega (arith, h)))

pub claim_set : (k a : ℕ) (c : Claim) (d : List Claim) (t : List (List Claim)) → k < length t → put_claim k a c t ≡ set t k (put_in a c (get_or t k d))
unfolding put_claim
claim_set k a c d [] h = absurd (omega (arith, h))
claim_set zero a c d (r ∷ t) h = refl
claim_set (suc k) a c d (r ∷ t) h = ap (λ z. r ∷ z) (claim_set k a c d t (omega (arith, h)))

pub claim_past : (k a : ℕ) (c : Claim) (t : List (List Claim)) → length t ≤ k → put_claim k a c t ≡ t
unfolding put_claim
claim_past k a c [] h = refl
claim_past zero a c (r ∷ t) h = absurd (omega (arith, h))
claim_past (suc k) a c (r ∷ t) h = ap (λ z. r ∷ z) (claim_past k a c t (omega (arith, h)))

-- ---- as they lie in memory

module _ {A : Type 0} (see : A → Claim) where
  pub item_put : (items : List A) (a : ℕ) (c : Claim) (x d : A) → (a ≡ 0 → ⊥) → a - 1 < length items → d ≡ get_or items (a - 1) d → see x ≡ and_also (see d) c
      → map see (set items (a - 1) x) ≡ put_in a c (map see items)
  item_put items zero c x d h below at is = absurd (h refl)
  item_put items (suc i) c x d h below at is =
      let same : suc i - 1 ≡ i = omega arith in
      let inside : i < length items = omega (arith, below) in
      let known : i < length (map see items) = let n = length-map items see in omega (arith, n, inside) in
      ap (λ n. map see (set items n x)) same ∙ map-set see items i x ∙ ap (set (map see items) i) is
      ∙ ap (λ z. set (map see items) i (and_also z c)) (ap see (at ∙ ap (λ n. get_or items n d) same) ∙ sym (get_or-map see items i d (see d) inside))
      ∙ sym (put_set i c (see d) (map see items) known)

  pub item_past : (items : List A) (a : ℕ) (c : Claim) → (a ≡ 0 → ⊥) → length items ≤ a - 1 → map see items ≡ put_in a c (map see items)
  item_past items zero c h past = absurd (h refl)
  item_past items (suc i) c h past = sym (put_past i c (map see items) (let n = length-map items see in omega (arith, n, past)))

  -- where a row or its records are at their end there is no more
  row_none : (r : List Claim) (a last most : ℕ) (xs : List AttemptLine) → xs ≡ [] → broken_row r a last most xs ≡ None
  row_none [] a last most xs e = refl
  row_none (c ∷ r) a last most xs e = ap (broken_row (c ∷ r) a last most) e

  pub row_end : {B : Type 0} (say : B → AttemptLine) (i a last most : ℕ) (r : List A) (xs : List B) → min (length r) (length xs) ≤ i → broken_row (map see (drop i r)) a last most (map say (drop i xs)) ≡ None
  row_end say zero a last most [] xs h = refl
  row_end say (suc i) a last most [] xs h = refl
  row_end say zero a last most (x ∷ r) [] h = refl
  row_end say (suc i) a last most (x ∷ r) [] h = row_none (map see (drop i r)) a last most [] refl
  row_end say zero a last most (x ∷ r) (y ∷ xs) h = absurd (omega (arith, h))
  row_end say (suc i) a last most (x ∷ r) (y ∷ xs) h = row_end say i a last most r xs (let e : min (length r) (length xs) ≤ i = omega (arith, h) in e)

module _ {A : Type 0} (see : A → List Claim) where
  pub row_claimed : (items : List A) (k a : ℕ) (c : Claim) (x d : A) → k < length items → d ≡ get_or items k d → see x ≡ put_in a c (see d)
      → map see (set items k x) ≡ put_claim k a c (map see items)
  row_claimed items k a c x d below at is =
      let known : k < length (map see items) = let n = length-map items see in omega (arith, n, below) in
      map-set see items k x ∙ ap (set (map see items) k) is
      ∙ ap (λ z. set (map see items) k (put_in a c z)) (ap see at ∙ sym (get_or-map see items k d (see d) below))
      ∙ sym (claim_set k a c (see d) (map see items) known)

  pub none_claimed : (items : List A) (k a : ℕ) (c : Claim) → length items ≤ k → map see items ≡ put_claim k a c (map see items)
  none_claimed items k a c past = sym (claim_past k a c (map see items) (let n = length-map items see in omega (arith, n, past)))

  rows_none : (rs : List (List Claim)) (k : ℕ) (cs : List Account) → cs ≡ [] → broken_rows rs k cs ≡ None
  rows_none [] k cs e = refl
  rows_none (r ∷ rs) k cs e = ap (broken_rows (r ∷ rs) k) e

  pub rows_end : {B : Type 0} (say : B → Account) (i k : ℕ) (rs : List A) (cs : List B) → min (length rs) (length cs) ≤ i → broken_rows (map see (drop i rs)) k (map say (drop i cs)) ≡ None
  rows_end say zero k [] cs h = refl
  rows_end say (suc i) k [] cs h = refl
  rows_end say zero k (x ∷ rs) [] h = refl
  rows_end say (suc i) k (x ∷ rs) [] h = rows_none (map see (drop i rs)) k [] refl
  rows_end say zero k (x ∷ rs) (y ∷ cs) h = absurd (omega (arith, h))
  rows_end say (suc i) k (x ∷ rs) (y ∷ cs) h = rows_end say i k rs cs (let e : min (length rs) (length cs) ≤ i = omega (arith, h) in e)
