-- One element more is numbered.
use Rattle.std.proofs.Common.{◌∙◌, ap, map, ◌+◌, ◌<◌, ◌^◌, w64, rules, to_z}
use Rattle.std.proofs.Math.Facts.{to_z_pos}
use Rattle.pgo_base.specs.declared.value.Value.TheVariants.{Int}
use Rattle.pgo_base.specs.Data.{integer}
use Rattle.pgo_base.specs.View.{pair_of}
use Rattle.pgo_value_text.proofs.Numbered.{numbered_more}
use Rattle.pgo_value_text.proofs.built.numbered.Goals as goal

pub loop-element-preserved : goal.loop-element-preserved
loop-element-preserved c =
    let n = c.len-in-loop-element.result + 1 in
    let small : n < 2 ^ 63 = search rules in (
      ap (map pair_of) c.in_ok-push.ensures.items
          ∙ numbered_more c.loop-element.numbered.items c.loop-element.yielded (Int (to_z w64 n)) c.in-Some.element n
          c.loop-element.invariant.0 (ap integer (to_z_pos w64 small)) (ap (λ n. n + 1) (search rules)),
      search rules,
    )
