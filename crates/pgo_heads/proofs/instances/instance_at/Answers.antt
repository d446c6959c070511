use Rattle.std.proofs.Common.{sym, ◌∙◌}
use Rattle.pgo_base.specs.ValueCode.{value_back}
use Rattle.pgo_heads.proofs.instances.instance_at.Goals as goal

pub returns : goal.returns
returns c = λ i. record {
  number = c.args.number;
  id = (c.in_ok-copy.ensures ∙ sym (value_back c.args.id.now)) i;
  process = c.in_ok-copy-2.ensures i;
  archetype = c.in_ok-copy-3.ensures i;
  bindings = c.from_vec.ensures i;
}
