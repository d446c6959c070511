-- The line stands where the three places are.
use Rattle.std.proofs.Common.{◌∷◌, ◌++◌, []}
use Rattle.std.proofs.lemmas.Result.{IfOk-equal}
use Rattle.pgo_show_picture.specs.Picture.{link_line}
use Rattle.pgo_show_picture.proofs.noted.push_holder.Goals as goal

pub returns : goal.returns
returns c =
    IfOk-equal c.push_link.result _ _ _ c.push_link.ensures
    (λ i. c.args.lines.now ++ link_line (c.across-x.ensures.value i) (c.down-y.ensures.value i) (c.down-other.ensures.value i) ∷ [])
