use Rattle.std.proofs.Common.{◌≡◌, ℕ, suc, ◌-◌, ◌+◌, ◌<◌, List, arith, sym, ap, ◌∙◌}
use Rattle.atomic_table.specs.Table.{turned}
use Rattle.pgo_table.specs.SeatCalls.{turned_by}
use Rattle.pgo_shared.proofs.instance_seat.turn_by.Goals as goal

one_more : {A : Type 0} (n i : ℕ) (xs ys zs : List (ℕ × A)) → i < n → ys ≡ turned xs → turned_by (n - i) xs ≡ zs → turned_by (n - (i + 1)) ys ≡ zs
one_more n i xs ys zs h e was = let step : n - i ≡ suc (n - (i + 1)) = omega arith in ap (turned_by (n - (i + 1))) e ∙ (sym (ap (λ (k : ℕ). turned_by k xs) step) ∙ was)

pub loop-i-preserved : goal.loop-i-preserved
loop-i-preserved g c = let v = c.loop-i.invariant in let m = c.turn.ensures.2 in let near : c.loop-i._i < c.args.n = omega arith in
    (c.turn.ensures.0 ∙ v.0, c.turn.ensures.1 ∙ v.1, ap (λ x. x.0) m ∙ v.2, one_more c.args.n c.loop-i._i _ _ _ near (ap (λ x. x.1) m) v.3)
