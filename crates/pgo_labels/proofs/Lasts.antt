-- The last statement of a block: it nests less deep, and whether the block jumps is whether it does.
use Rattle.std.proofs.Common.{◌≡◌, ◌≤◌, ◌-◌, ℕ, zero, suc, Bool, List, [], ◌∷◌, map, length, Some, None, refl, arith}
use Rattle.std.specs.List.{slice_get}
use Rattle.pgo_syntax.specs.declared.statement.Labeled.{Labeled}
use Rattle.pgo_syntax.specs.Statement.{labeled}
use Rattle.pgo_syntax.specs.StatementSize.{height, labeled_height}
use Rattle.pgo_syntax.specs.StatementView.{statement, labeled_pair}
use Rattle.pgo_labels.specs.NeedsLabel.{jumps, last_jumps}

pub record IsLast (ls : List Labeled) (l : Labeled) : Type 0 where
  pub low : height (statement l.statement) ≤ labeled_height (labeled (map labeled_pair ls))
  pub decides : (b : Bool) → last_jumps b (labeled (map labeled_pair ls)) ≡ jumps (statement l.statement)

one : (x l : Labeled) → Some l ≡ Some x → IsLast (x ∷ []) l
one x l e =
    let same : l ≡ x = cc in
    rw same (record { low = omega arith; decides = λ b. refl })

more : (x : Labeled) (ys : List Labeled) (l : Labeled) → IsLast ys l → IsLast (x ∷ ys) l
more x ys l h = record { low = omega (arith, h.low); decides = λ b. h.decides (jumps (statement x.statement)) }

last_by : (ls : List Labeled) (i : ℕ) (l : Labeled) → suc i ≡ length ls → Some l ≡ slice_get ls i → IsLast ls l
last_by [] i l h e = absurd (omega arith)
last_by (x ∷ []) zero l h e = one x l e
last_by (x ∷ []) (suc i) l h e = absurd (omega arith)
last_by (x ∷ y ∷ ys) zero l h e = absurd (omega arith)
last_by (x ∷ y ∷ ys) (suc i) l h e = more x (y ∷ ys) l (last_by (y ∷ ys) i l (omega arith) e)

pub is_last : (ls : List Labeled) (l : Labeled) → Some l ≡ slice_get ls (length ls - 1) → IsLast ls l
is_last [] l e = let n : Some l ≡ None = e in cc
is_last (x ∷ xs) l e = last_by (x ∷ xs) (length (x ∷ xs) - 1) l (omega arith) e
