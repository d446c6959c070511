use Rattle.std.proofs.Common.{◌∙◌, ◌+◌, Bool, drop, sym, ap}
use Rattle.std.specs.Prelude.{◌||◌}
use Rattle.std.specs.List.{list_any}
use Rattle.std.proofs.Math.Bool.{or_assoc}
use Rattle.pgo_base.specs.NameMaps.{has_name}
use Rattle.pgo_starts.specs.Mailboxes.{is_by_channel}
use Rattle.pgo_starts.proofs.OwnRows.{drop_step}
use Rattle.pgo_starts.proofs.kinds.add_all.Goals as goal

pub loop-binding-preserved : goal.loop-binding-preserved
loop-binding-preserved c = λ g.
    let xs = c.args.bindings.now in let n = c.loop-binding.binding-index in let x = c.binding-item.result in
    let had = has_name c.loop-binding.kinds g in let rest : Bool = list_any (λ b. is_by_channel g b.target) (drop (n + 1) xs) in
    ap (λ b. b || rest) (c.in_ok-add.ensures g)
    ∙ or_assoc had (is_by_channel g x.target) rest
    ∙ sym (ap (λ ys. had || list_any (λ b. is_by_channel g b.target) ys) (drop_step xs n x c.loop-binding-test.true c.binding-item.is))
    ∙ c.loop-binding.invariant g
