use Rattle.std.proofs.Common.{◌≡◌, false, Option, option_map, unwrap_or, Some, sym, ap, subst}
use Rattle.std.specs.Ordering.{is_eq}
use mathlib.Core.Bool.{not}
use Rattle.pgo_base.specs.Exact.{data_itself}
use Rattle.pgo_base.specs.View.{data_of}
use Rattle.pgo_base.specs.declared.value.Value.{Value}
use Rattle.pgo_model.specs.Log.{differs}
use Rattle.pgo_cells.proofs.cell.CellResource.is_changed.Goals as goal

pub returns-in-None : goal.returns-in-None
returns-in-None c =
    let b = data_of c.args.self.now.base in
    subst (λ (w : Option Value). false ≡ differs (Some b) (Some (unwrap_or (option_map data_of w) b))) (sym c.in-None.is)
    (sym (ap (λ o. not (is_eq o)) (data_itself b)))
