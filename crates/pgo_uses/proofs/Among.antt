-- Names among rows.
use Rattle.std.proofs.Common.{◌≡◌, ℕ, Bool, true, false, ◌||◌, [], ◌∷◌, ◌++◌, refl, ap, sym, ◌∙◌}
use Rattle.std.specs.Prelude.{if◌then◌else◌, Some, is_some}
use Rattle.pgo_base.specs.Lookup.{Name, same_name, find}
use Rattle.pgo_model.specs.Names.{same_name-is}
use Rattle.pgo_uses.specs.Names.{Rows, has_row, among_all}

pub among_cons : (x : Name) (r : Name × ℕ) (rs : Rows) → has_row x (r ∷ rs) ≡ same_name x r.0 || has_row x rs
among_cons x r rs = go (same_name x r.0)
  where
    go : (b : Bool) → is_some (if b then Some r.1 else find x rs) ≡ b || has_row x rs
    go true = refl
    go false = refl

or_swap : (a b c : Bool) → a || (b || c) ≡ b || (a || c)
or_swap true true c = refl
or_swap true false c = refl
or_swap false b c = refl

or_false : (a : Bool) → a || false ≡ a
or_false true = refl
or_false false = refl

-- one row more
pub among_push : (x : Name) (rows : Rows) (r : Name × ℕ) → has_row x (rows ++ r ∷ []) ≡ same_name x r.0 || has_row x rows
among_push x [] r = among_cons x r []
among_push x (q ∷ qs) r =
    among_cons x q (qs ++ r ∷ []) ∙ ap (λ b. same_name x q.0 || b) (among_push x qs r)
    ∙ or_swap (same_name x q.0) (same_name x r.0) (has_row x qs) ∙ ap (λ b. same_name x r.0 || b) (sym (among_cons x q qs))

-- a row that is there already
pub among_there : (x n : Name) (rows : Rows) → has_row n rows ≡ true → has_row x rows ≡ same_name x n || has_row x rows
among_there x n rows h = go (same_name x n) refl
  where
    go : (b : Bool) → same_name x n ≡ b → has_row x rows ≡ b || has_row x rows
    go true k = ap (λ y. has_row y rows) (same_name-is x n k) ∙ h
    go false k = refl

pub all_is : (b : Bool) (rows : Rows) (x : Name) → among_all b rows x ≡ has_row x rows || b
all_is b [] x = refl
all_is b (r ∷ rs) x = all_is (same_name x r.0 || b) rs x ∙ step (same_name x r.0) (has_row x rs) ∙ ap (λ c. c || b) (sym (among_cons x r rs))
  where
    step : (s t : Bool) → t || (s || b) ≡ (s || t) || b
    step true true = refl
    step true false = refl
    step false true = refl
    step false false = refl
