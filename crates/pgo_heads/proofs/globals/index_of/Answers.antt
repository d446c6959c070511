use Rattle.std.proofs.Common.{Option, Some, Bor, option_map, ap, sym, ◌∙◌}
use Rattle.pgo_base.specs.View.{data_of}
use Rattle.pgo_base.specs.ValueCode.{value_from, value_back}
use Rattle.pgo_base.specs.declared.value.Value.{Value}
use Rattle.pgo_heads.proofs.globals.index_of.Goals as goal

pub returns-in_ok-copy-in-Some : goal.returns-in_ok-copy-in-Some
returns-in_ok-copy-in-Some c =
    ap Some (c.in_ok-copy-in-Some.ensures ∙ sym (value_back c.in-Some.v.now))
    ∙ ap (λ (o : Option (Bor Value)). option_map value_from (option_map (λ r. data_of r.now) o)) (sym c.in-Some.is)
