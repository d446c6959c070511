-- The first finding in the text, of findings that may be there and of lists of them.
use Rattle.std.proofs.Common.{◌≡◌, ℕ, List, ◌++◌, Option, Some, None, ap, sym, ◌∙◌}
use Rattle.std.specs.List.{cons_option}
use Rattle.pgo_base.specs.Lookup.{Name}
use Rattle.pgo_syntax.proofs.Leasts.{sooner_assoc, sooner_none, least-append}
use Rattle.pgo_heads.specs.Refusals.{earlier, first_placed}

abbrev place : ℕ × Name → ℕ
place p = p.0

-- one that may be there, and then the others
pub placed_step : (best o : Option (ℕ × Name)) (fs : List (ℕ × Name)) → earlier best (first_placed (cons_option o fs)) ≡ earlier (earlier best o) (first_placed fs)
placed_step best None fs = ap (λ b. earlier b (first_placed fs)) (sym (sooner_none place best))
placed_step best (Some x) fs = sooner_assoc place best (Some x) (first_placed fs)

pub placed_append : (xs ys : List (ℕ × Name)) → first_placed (xs ++ ys) ≡ earlier (first_placed xs) (first_placed ys)
placed_append xs ys = least-append place xs ys

pub placed_more : (best : Option (ℕ × Name)) (xs ys : List (ℕ × Name)) → earlier best (first_placed (xs ++ ys)) ≡ earlier (earlier best (first_placed xs)) (first_placed ys)
placed_more best xs ys = ap (earlier best) (least-append place xs ys) ∙ sooner_assoc place best (first_placed xs) (first_placed ys)
