use Rattle.std.proofs.Common.{◌∙◌, ap, cond, Some}
use Rattle.pgo_heads.specs.NameMaps.{numbered}
use Rattle.pgo_heads.proofs.SameNumbers.{same_number_back}
use Rattle.pgo_heads.proofs.number_map.NumberMap.set.Goals as goal

pub returns : goal.returns
unfolding numbered
returns g c = λ n.
    c.in_ok-insert.ensures.updates.0 n
    ∙ ap (λ b. cond b (Some c.args.value) (numbered c.args.self.now.map n)) (same_number_back c.args.number n)
