use Rattle.std.proofs.Common.{◌++◌, ◌+◌, ap, ◌∙◌}
use Rattle.pgo_load.specs.Numbered.{numbered_line}
use Rattle.pgo_load.proofs.Texts.{one_more}
use Rattle.pgo_load.proofs.text.push_lines.Goals as goal

pub loop-i-preserved : goal.loop-i-preserved
loop-i-preserved c =
    let make = numbered_line c.args.before.now c.args.between.now c.args.behind.now in
    c.in_ok-push_line.ensures ∙ ap (λ z. z ++ make (c.loop-i.i + 1)) c.loop-i.invariant ∙ one_more make c.loop-i.i c.args.text.now.items
