use Rattle.std.proofs.Common.{map, Option, Some, option_map, ap, sym, ◌∙◌}
use Rattle.pgo_base.specs.Data.{Data}
use Rattle.pgo_base.specs.View.{data_of}
use Rattle.pgo_base.specs.ValueCode.{value_from, value_back}
use Rattle.pgo_heads.specs.declared.errors.BindError.TheVariants as errors
use Rattle.pgo_heads.specs.Refusals.{first, repeated}
use Rattle.pgo_heads.proofs.same_id.ids_differ.Goals as goal

pub returns : goal.returns
returns c =
    let same = ap (map data_of) c.as_slice.ensures.value ∙ c.in_ok-list.ensures in
    ap (λ vs. option_map (λ (id : Data). errors.SameId (value_from id)) (first (repeated vs))) (sym same)
    ∙ ap (λ (o : Option Data). option_map (λ (id : Data). errors.SameId (value_from id)) o) (sym c.in-Some.ensures)
    ∙ (λ i. Some (errors.SameId ((value_back c.in-Some.id.now ∙ sym c.in_ok-copy-in-Some.ensures) i)))
