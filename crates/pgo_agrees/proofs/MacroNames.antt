-- Macros by their names: each name is that of one macro, at its place.
use Rattle.std.proofs.Common.{◌≡◌, ◌≤◌, ◌<◌, ℕ, zero, suc, ◌+◌, Bool, true, false, if◌then◌else◌, List, [], ◌∷◌, ◌++◌, map, length, Option, Some, None, option_map, refl, ap, sym, ◌∙◌, subst, arith}
use Rattle.std.proofs.lemmas.Bool.{ltb-true}
use Rattle.std.specs.Prelude.{nat_le, is_some, slice_get}
use Rattle.pgo_base.specs.Lookup.{Name, same_name, find}
use Rattle.pgo_model.specs.Machine.{nth}
use Rattle.pgo_model.specs.Names.{same_name-is, or_that, find_append}
use Rattle.pgo_syntax.specs.declared.macros.Macro.{Macro}
use Rattle.pgo_syntax.specs.declared.name.PlacedName.{PlacedName}
use Rattle.pgo_uses.specs.Heads.{macro_names}
use Rattle.pgo_uses.specs.Names.{Rows, has_row, first_at, is_below, is_earlier}
use Rattle.pgo_uses.specs.Tables.{macro_rows}
use Rattle.pgo_scope.specs.Findings.{found_if}
use Rattle.pgo_scope.specs.TextOrder.{in_place, in_text_order}
use Rattle.pgo_scope.specs.Twice.{repeated, repeated_in}
use Rattle.pgo_scope.specs.declared.errors.ScopeError.TheVariants as errors
use Rattle.pgo_bound.specs.Among.{none_left, none_right}
use Rattle.pgo_accept.proofs.Heads.{nothing_if}
use Rattle.pgo_accept.proofs.Counted.{one_if, times, one_place}

abbrev count : Name → List PlacedName → ℕ
count x ns = times x (map (λ n. n.name) ns)

counts_in_place : (x : Name) (place : PlacedName → ℕ) (t : PlacedName) (us : List PlacedName) → count x (in_place place t us) ≡ count x (t ∷ us)
counts_in_place x place t [] = refl
counts_in_place x place t (u ∷ us) = go (nat_le (place t) (place u)) (counts_in_place x place t us)
  where
    go : (b : Bool) → count x (in_place place t us) ≡ count x (t ∷ us) → count x (if b then t ∷ u ∷ us else u ∷ in_place place t us) ≡ count x (t ∷ u ∷ us)
    go true r = refl
    go false r = omega (arith, r)

counts_in_order : (x : Name) (place : PlacedName → ℕ) (ts : List PlacedName) → count x (in_text_order place ts) ≡ count x ts
counts_in_order x place [] = refl
counts_in_order x place (t ∷ ts) = omega (arith, counts_in_place x place t (in_text_order place ts), counts_in_order x place ts)

more_among : (x y : Name) (before : Rows) → has_row x before ≡ true → has_row x (before ++ (y, 0) ∷ []) ≡ true
more_among x y before h = ap is_some (find_append x before ((y, 0) ∷ [])) ∙ go (find x before) h
  where
    go : (o : Option ℕ) → is_some o ≡ true → is_some (or_that o (find x ((y, 0) ∷ []))) ≡ true
    go None g = absurd (cc)
    go (Some n) g = refl

last_among : (x y : Name) (before : Rows) → same_name x y ≡ true → has_row x (before ++ (y, 0) ∷ []) ≡ true
last_among x y before h = ap is_some (find_append x before ((y, 0) ∷ [])) ∙ go (find x before)
  where
    go : (o : Option ℕ) → is_some (or_that o (if same_name x y then Some 0 else None)) ≡ true
    go None = ap (λ b. is_some {T = ℕ} (if b then Some 0 else None)) h
    go (Some n) = refl

-- none stands twice, and none of those before stands again
once : (before : Rows) (xs : List PlacedName) → repeated before xs ≡ [] → (x : Name) → (has_row x before ≡ true → count x xs ≡ 0) × (count x xs ≤ 1)
once before [] h x = (λ e. refl, omega arith)
once before (y ∷ ys) h x = go (same_name x y.name) refl (once (before ++ (y.name, 0) ∷ []) ys rest x)
  where
    rest : repeated (before ++ (y.name, 0) ∷ []) ys ≡ []
    rest = none_right (found_if (has_row y.name before) y.place (errors.Twice y.name)) (repeated (before ++ (y.name, 0) ∷ []) ys) h

    new : has_row y.name before ≡ false
    new = nothing_if (has_row y.name before) y.place (errors.Twice y.name) (none_left (found_if (has_row y.name before) y.place (errors.Twice y.name)) (repeated (before ++ (y.name, 0) ∷ []) ys) h)

    go : (b : Bool) → same_name x y.name ≡ b → (has_row x (before ++ (y.name, 0) ∷ []) ≡ true → count x ys ≡ 0) × (count x ys ≤ 1) → (has_row x before ≡ true → one_if b + count x ys ≡ 0) × (one_if b + count x ys ≤ 1)
    go true e r =
        let z = r.0 (last_among x y.name before e) in
        (λ g. absurd (let s = same_name-is x y.name e in let q : true ≡ false = sym g ∙ ap (λ w. has_row w before) s ∙ new in cc), omega (arith, z))
    go false e r =
        let n = r.1 in (λ g. (let z = r.0 (more_among x y.name before g) in omega (arith, z)), omega (arith, n))

names_are : (ms : List Macro) → map (λ (n : PlacedName). n.name) (macro_names ms) ≡ map (λ (m : Macro). m.name.name) ms
names_are [] = refl
names_are (m ∷ ms) = ap (λ ns. m.name.name ∷ ns) (names_are ms)

pub macro_once : (ms : List Macro) → repeated_in (macro_names ms) ≡ [] → (x : Name) → times x (map (λ (m : Macro). m.name.name) ms) ≤ 1
macro_once ms h x =
    let o = (once [] (in_text_order (λ x. x.place) (macro_names ms)) h x).1 in
    let c = counts_in_order x (λ x. x.place) (macro_names ms) in
    let n = ap (times x) (names_are ms) in
    omega (arith, o, c, n)

nth_is : {A : Type 0} (xs : List A) (n : ℕ) → nth xs n ≡ slice_get xs n
nth_is [] n = refl
nth_is (x ∷ xs) zero = refl
nth_is (x ∷ xs) (suc n) = nth_is xs n

-- one place for each name
pub one_macro : (ms : List Macro) → repeated_in (macro_names ms) ≡ [] → (n m : ℕ) (a b : Macro) → slice_get ms n ≡ Some a → slice_get ms m ≡ Some b → a.name.name ≡ b.name.name → n ≡ m
one_macro ms h n m a b e f g = one_place (λ (m : Macro). m.name.name) ms (macro_once ms h) n m a b (nth_is ms n ∙ e) (nth_is ms m ∙ f) g

-- ---- rows

pub record FirstMacro (ms : List Macro) (x : Name) (j : ℕ) : Type 0 where
  pub it : Macro
  pub at' : slice_get ms j ≡ Some it
  pub named : it.name.name ≡ x
  pub row : find x (macro_rows ms) ≡ Some (length it.params)

pub first_macro : (ms : List Macro) (x : Name) (j : ℕ) → first_at x (macro_rows ms) ≡ Some j → FirstMacro ms x j
first_macro [] x j h = absurd (cc)
first_macro (m ∷ ms) x j h = go (same_name x m.name.name) refl j h (first_macro ms x)
  where
    later : (b : Bool) → same_name x m.name.name ≡ b → b ≡ false → (n : ℕ) → FirstMacro ms x n → FirstMacro (m ∷ ms) x (suc n)
    later b e f n r = record { it = r.it; at' = r.at'; named = r.named; row = ap (λ c. if c then Some (length m.params) else find x (macro_rows ms)) (e ∙ f) ∙ r.row }

    behind : (o : Option ℕ) → first_at x (macro_rows ms) ≡ o → (n : ℕ) → option_map suc o ≡ Some n → same_name x m.name.name ≡ false → ((k : ℕ) → first_at x (macro_rows ms) ≡ Some k → FirstMacro ms x k) → FirstMacro (m ∷ ms) x n
    behind None e n g f more = absurd (cc)
    behind (Some k) e n g f more =
        let same : suc k ≡ n = cc in subst (FirstMacro (m ∷ ms) x) same (later false f refl k (more k e))

    go : (b : Bool) → same_name x m.name.name ≡ b → (n : ℕ) → (if b then Some 0 else option_map suc (first_at x (macro_rows ms))) ≡ Some n → ((k : ℕ) → first_at x (macro_rows ms) ≡ Some k → FirstMacro ms x k) → FirstMacro (m ∷ ms) x n
    go true e n g more =
        let same : 0 ≡ n = cc in
        subst (FirstMacro (m ∷ ms) x) same (record { it = m; at' = refl; named = sym (same_name-is x m.name.name e); row = ap (λ c. if c then Some (length m.params) else find x (macro_rows ms)) e })
    go false e n g more = behind (first_at x (macro_rows ms)) refl n g e more

pub there_first : (x : Name) (rs : Rows) → has_row x rs ≡ true → (j : ℕ) × (first_at x rs ≡ Some j)
there_first x [] h = absurd (cc)
there_first x (r ∷ rs) h = go (same_name x r.0) h (there_first x rs)
  where
    go : (b : Bool) → is_some (if b then Some r.1 else find x rs) ≡ true → (has_row x rs ≡ true → (j : ℕ) × (first_at x rs ≡ Some j)) → (j : ℕ) × ((if b then Some 0 else option_map suc (first_at x rs)) ≡ Some j)
    go true k more = (0, refl)
    go false k more = let q = more k in (suc q.0, ap (option_map suc) q.1)

pub earlier_first : (i : ℕ) (x : Name) (rs : Rows) → is_earlier i x rs ≡ true → (j : ℕ) × (first_at x rs ≡ Some j) × (j < i)
earlier_first i x rs h = go (first_at x rs) refl h
  where
    go : (o : Option ℕ) → first_at x rs ≡ o → is_below i o ≡ true → (j : ℕ) × (first_at x rs ≡ Some j) × (j < i)
    go None e k = absurd (cc)
    go (Some j) e k = (j, e, ltb-true j i k)
