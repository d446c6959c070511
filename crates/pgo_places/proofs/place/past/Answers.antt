-- So many more are passed over.
use Rattle.std.proofs.Common.{◌≡◌, ◌+◌, suc, drop, ap, ◌∙◌, arith}
use Rattle.pgo_places.proofs.Moves.{drop_more_behind}
use Rattle.pgo_places.proofs.place.past.Goals as goal

pub returns-else-over-left : goal.returns-else-over-left
returns-else-over-left c = λ xs h.
    let e : c.args.position + 1 + c.args.over ≡ suc c.args.position + c.args.over = omega arith in
    ap (λ n. drop n xs) e ∙ drop_more_behind (suc c.args.position) c.args.over xs
