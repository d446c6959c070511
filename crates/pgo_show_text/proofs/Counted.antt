-- Causes and their counts, one attempt on, and the lines of all.
use Rattle.std.proofs.Common.{◌≡◌, ◌<◌, ◌≤◌, ◌+◌, ℕ, zero, suc, Bool, true, false, List, [], ◌∷◌, ◌++◌, length, map, drop, get_or, set, slice_index_or, refl, ap, sym, ◌∙◌, subst, take, arith}
use Rattle.std.specs.Prelude.{◌^◌, ◌&&◌, ◌||◌, not, if◌then◌else◌}
use Rattle.std.specs.List.{AllByRecursion}
use Rattle.std.proofs.Math.Seq.{map-set_same}
use Rattle.std.proofs.lemmas.Bool.{or_right}
use Rattle.std.proofs.lemmas.List.{at_drop_more, map-append}
use Rattle.std.proofs.lemmas.List.Sums.{sum_by-set, sum_by_push, sum_by_more_le_part}
use Rattle.pgo_bundle.specs.Accounts.{AttemptLine}
use Rattle.pgo_bundle.specs.View.{attempt_view}
use Rattle.pgo_show_text.specs.declared.causes.Cause.{Cause}
use Rattle.pgo_show_text.specs.Causes.{line_of, counted_as, counted, all_counted, counted_line, IsPlaceOf, IsOneMore, line_in}
use Rattle.pgo_show_text.specs.Facts.{causes, count_by, is_alike, is_alike_one, is_refused}
use Rattle.pgo_show_text.specs.Shown.{cause_line}
use Rattle.pgo_show_text.proofs.Likeness.{alike_to, unlike}

-- ---- one attempt more

among : (a : AttemptLine) (cs : List Cause) (k : ℕ) (d : Cause) → k < length cs → is_alike (line_of (get_or cs k d)) a ≡ true → is_alike_one a (map line_of cs) ≡ true
among a [] k d below h = absurd (omega (arith, below))
among a (c ∷ cs) zero d below h = ap (λ b. b || is_alike_one a (map line_of cs)) h
among a (c ∷ cs) (suc k) d below h = or_right (is_alike (line_of c) a) (is_alike_one a (map line_of cs)) (among a cs k d (omega (arith, below)) h)

-- the sum where a term that is taken grows by one
grown : (t : Bool) (s u n m : ℕ) → m ≡ n + 1 → u + (if t then n else 0) ≡ s + (if t then m else 0) → u ≡ s + (if t then 1 else 0)
grown true s u n m e h = omega (arith, e, h)
grown false s u n m e h = omega (arith, h)

pub counted_at : (a : AttemptLine) (cs ds : List Cause) (k : ℕ) (c d : Cause) → ds ≡ set cs k c → c.attempt ≡ (get_or cs k d).attempt → c.count ≡ (get_or cs k d).count + 1
    → IsPlaceOf a cs k → IsOneMore a cs ds
counted_at a cs ds k c d put same more place = (lines, counts, omega (arith, all, more, all_put))
  where
    line : line_of c ≡ line_of (get_or cs k d)
    line = ap (λ t. attempt_view t.now) same

    lines : map line_of ds ≡ (if is_alike_one a (map line_of cs) then map line_of cs else map line_of cs ++ a ∷ [])
    lines =
        ap (map line_of) put
        ∙ map-set_same line_of cs k c d line
        ∙ ap (λ b. if b then map line_of cs else map line_of cs ++ a ∷ []) (sym (among a cs k d place.0 (place.1 d)))

    counts : (b : AttemptLine) → counted b ds ≡ counted b cs + (if is_alike b a then 1 else 0)
    counts b =
        let alike : is_alike b (line_of (get_or cs k d)) ≡ is_alike b a = alike_to b (line_of (get_or cs k d)) a (place.1 d) in
        let new : is_alike b (line_of c) ≡ is_alike b a = ap (is_alike b) line ∙ alike in
        grown (is_alike b a) (counted b cs) (counted b ds) (get_or cs k d).count c.count more
        (ap (λ es. counted b es + (if is_alike b a then (get_or cs k d).count else 0)) put
        ∙ ap (λ t. counted b (set cs k c) + (if t then (get_or cs k d).count else 0)) (sym alike)
        ∙ sum_by-set (counted_as b) cs k c d place.0
        ∙ ap (λ t. counted b cs + (if t then c.count else 0)) new)

    all : all_counted (set cs k c) + (get_or cs k d).count ≡ all_counted cs + c.count
    all = sum_by-set (λ e. e.count) cs k c d place.0

    all_put : all_counted ds ≡ all_counted (set cs k c)
    all_put = ap all_counted put

pub pushed : (a : AttemptLine) (cs ds : List Cause) (c : Cause) → ds ≡ cs ++ c ∷ [] → line_of c ≡ a → c.count ≡ 1 → is_alike_one a (map line_of cs) ≡ false → IsOneMore a cs ds
pushed a cs ds c put line one none = (
  ap (map line_of) put
      ∙ map-append line_of cs (c ∷ [])
      ∙ ap (λ x. map line_of cs ++ x ∷ []) line
      ∙ ap (λ b. if b then map line_of cs else map line_of cs ++ a ∷ []) (sym none),
  λ b. ap (counted b) put
      ∙ sum_by_push (counted_as b) cs c
      ∙ ap (λ n. counted b cs + (if is_alike b (line_of c) then n else 0)) one
      ∙ ap (λ x. counted b cs + (if is_alike b x then 1 else 0)) line,
  ap all_counted put ∙ sum_by_push (λ e. e.count) cs c ∙ ap (λ n. all_counted cs + n) one,
)

-- ---- what the loop keeps

abbrev pub AreKept : (all rest : List AttemptLine) → List Cause → Type 0
AreKept all rest cs =
    (causes [] all ≡ causes (map line_of cs) rest)
    × ((b : AttemptLine) → is_refused b ≡ true → counted b cs + count_by (is_alike b) rest ≡ count_by (is_alike b) all)

left_on : {A B : Type 0} (f : List AttemptLine → B) (view : A → AttemptLine) (xs : List A) (k : ℕ) (a : A) → k < length xs → a ≡ slice_index_or xs k a
    → f (map view (drop k xs)) ≡ f (view a ∷ map view (drop (k + 1) xs))
left_on f view xs k a below here =
    at_drop_more (λ ys. f (map view ys)) xs k a below ∙ (λ i. f (view (sym here i) ∷ map view (drop (k + 1) xs)))

turned : (r t : Bool) (old new : List AttemptLine) → r ≡ true → (if r && not t then new else old) ≡ (if t then old else new)
turned true true old new h = refl
turned true false old new h = refl
turned false t old new h = absurd (grind (arith, h))

one_less : (t : Bool) (c d n : ℕ) → d ≡ c + (if t then 1 else 0) → d + n ≡ c + (if t then suc n else n)
one_less true c d n e = omega (arith, e)
one_less false c d n e = omega (arith, e)

refused_before : (a : AttemptLine) (all rest : List AttemptLine) (cs ds : List Cause) → is_refused a ≡ true → IsOneMore a cs ds → AreKept all (a ∷ rest) cs → AreKept all rest ds
unfolding causes count_by
refused_before a all rest cs ds refused more kept = (
  kept.0 ∙ ap (λ found. causes found rest) (turned (is_refused a) (is_alike_one a (map line_of cs)) (map line_of cs) (map line_of cs ++ a ∷ []) refused ∙ sym more.0),
  λ b h. one_less (is_alike b a) (counted b cs) (counted b ds) (count_by (is_alike b) rest) (more.1 b) ∙ kept.1 b h,
)

other_before : (a : AttemptLine) (all rest : List AttemptLine) (cs : List Cause) → is_refused a ≡ false → AreKept all (a ∷ rest) cs → AreKept all rest cs
unfolding causes count_by
other_before a all rest cs other kept = (
  kept.0 ∙ ap (λ r. causes (if r && not (is_alike_one a (map line_of cs)) then map line_of cs ++ a ∷ [] else map line_of cs) rest) other,
  λ b h. ap (λ t. counted b cs + (if t then suc (count_by (is_alike b) rest) else count_by (is_alike b) rest)) (sym (unlike b a h other)) ∙ kept.1 b h,
)

kept_here : {A : Type 0} (view : A → AttemptLine) (xs : List A) (k : ℕ) (a : A) (cs : List Cause) → k < length xs → a ≡ slice_index_or xs k a
    → AreKept (map view xs) (map view (drop k xs)) cs → AreKept (map view xs) (view a ∷ map view (drop (k + 1) xs)) cs
kept_here view xs k a cs below here kept = (
  kept.0 ∙ left_on (causes (map line_of cs)) view xs k a below here,
  λ b h. ap (λ n. counted b cs + n) (sym (left_on (count_by (is_alike b)) view xs k a below here)) ∙ kept.1 b h,
)

-- the same, with so many counted at most
abbrev pub AreKeptAt : (all rest : List AttemptLine) → List Cause → ℕ → Type 0
AreKeptAt all rest cs n =
    (causes [] all ≡ causes (map line_of cs) rest)
    × ((b : AttemptLine) → is_refused b ≡ true → counted b cs + count_by (is_alike b) rest ≡ count_by (is_alike b) all)
    × (all_counted cs ≤ n)

-- a refusal more
pub refused_on : {A : Type 0} (view : A → AttemptLine) (xs : List A) (k : ℕ) (a : A) (cs ds : List Cause) → k < length xs → a ≡ slice_index_or xs k a
    → is_refused (view a) ≡ true → IsOneMore (view a) cs ds → AreKeptAt (map view xs) (map view (drop k xs)) cs k → AreKeptAt (map view xs) (map view (drop (k + 1) xs)) ds (k + 1)
refused_on view xs k a cs ds below here refused more kept =
    let next = refused_before (view a) (map view xs) (map view (drop (k + 1) xs)) cs ds refused more (kept_here view xs k a cs below here (kept.0, kept.1)) in
    (next.0, next.1, omega (arith, more.2, kept.2))

-- another attempt more
pub other_on : {A : Type 0} (view : A → AttemptLine) (xs : List A) (k : ℕ) (a : A) (cs : List Cause) → k < length xs → a ≡ slice_index_or xs k a
    → is_refused (view a) ≡ false → AreKeptAt (map view xs) (map view (drop k xs)) cs k → AreKeptAt (map view xs) (map view (drop (k + 1) xs)) cs (k + 1)
other_on view xs k a cs below here other kept =
    let next = other_before (view a) (map view xs) (map view (drop (k + 1) xs)) cs other (kept_here view xs k a cs below here (kept.0, kept.1)) in
    (next.0, next.1, omega (arith, kept.2))

none_left : (all : List AttemptLine) (cs : List Cause) → AreKept all [] cs
    → (map line_of cs ≡ causes [] all) × ((b : AttemptLine) → is_refused b ≡ true → counted b cs ≡ count_by (is_alike b) all)
unfolding causes count_by
none_left all cs kept = (sym kept.0, λ b h. with_none (counted b cs) ∙ kept.1 b h)
  where
    with_none : (n : ℕ) → n ≡ n + 0
    with_none n = omega arith

-- all are counted
pub at_end : {A : Type 0} (view : A → AttemptLine) (xs rest : List A) (cs : List Cause) → rest ≡ [] → AreKept (map view xs) (map view rest) cs
    → (map line_of cs ≡ causes [] (map view xs)) × ((b : AttemptLine) → is_refused b ≡ true → counted b cs ≡ count_by (is_alike b) (map view xs))
at_end view xs rest cs none kept = none_left (map view xs) cs (subst (λ r. AreKept (map view xs) (map view r) cs) none kept)

-- ---- the lines

abbrev AreRefused : List AttemptLine → Type 0
AreRefused as' = AllByRecursion (λ a. is_refused a ≡ true) as'

all_refused : (found : List AttemptLine) (a : AttemptLine) → AreRefused found → is_refused a ≡ true → AreRefused (found ++ a ∷ [])
all_refused [] a h t = (t, h)
all_refused (b ∷ found) a h t = (h.0, all_refused found a h.1 t)

one_found : (r t : Bool) (found : List AttemptLine) (a : AttemptLine) → is_refused a ≡ r → AreRefused found → AreRefused (if r && not t then found ++ a ∷ [] else found)
one_found true true found a e h = h
one_found true false found a e h = all_refused found a h e
one_found false t found a e h = h

causes_refused : (as' found : List AttemptLine) → AreRefused found → AreRefused (causes found as')
unfolding causes
causes_refused [] found h = h
causes_refused (a ∷ as') found h = causes_refused as' _ (one_found (is_refused a) (is_alike_one a found) found a refl h)

some_lines : (all : List AttemptLine) (cs ds : List Cause) → ((b : AttemptLine) → is_refused b ≡ true → counted b cs ≡ count_by (is_alike b) all) → AreRefused (map line_of ds)
    → map (line_in cs) ds ≡ map (cause_line all) (map line_of ds)
some_lines all cs [] counts h = refl
some_lines all cs (d ∷ ds) counts h =
    let one : line_in cs d ≡ cause_line all (line_of d) = ap (λ n. counted_line n (line_of d)) (counts (line_of d) h.0) in
    (λ i. one i ∷ some_lines all cs ds counts h.1 i)

-- the lines of causes with their counts are those of the causes among all attempts
pub lines_are : (all : List AttemptLine) (cs : List Cause) → map line_of cs ≡ causes [] all → ((b : AttemptLine) → is_refused b ≡ true → counted b cs ≡ count_by (is_alike b) all)
    → map (line_in cs) cs ≡ map (cause_line all) (causes [] all)
lines_are all cs found counts =
    some_lines all cs cs counts (subst AreRefused (sym found) (causes_refused all [] tt)) ∙ ap (map (cause_line all)) found

-- ---- the sum

as_much : (a : AttemptLine) (c : Cause) → counted_as a c ≤ c.count
as_much a c = go (is_alike a (line_of c))
  where
    go : (b : Bool) → (if b then c.count else 0) ≤ c.count
    go true = omega arith
    go false = omega arith

-- one count more is within all
pub fits : (a : AttemptLine) (cs : List Cause) (k : ℕ) (c : Cause) (n : ℕ) → k < length cs → c ≡ slice_index_or cs k c → n ≡ counted a (take k cs) → all_counted cs < 2 ^ 64
    → n + c.count < 2 ^ 64
fits a cs k c n below here sum small =
    let less : counted a (take k cs) + (get_or cs k c).count ≤ all_counted cs = sum_by_more_le_part (counted_as a) (λ e. e.count) cs k c below (as_much a) in
    let same : c.count ≡ (get_or cs k c).count = ap (λ e. e.count) here in
    omega (arith, sum, less, same, small)
