use Rattle.std.proofs.Common.{ap, sym, ◌∙◌, map}
use Rattle.pgo_meaning.specs.Parameters.{writes_by}
use Rattle.pgo_put_sizes.specs.Least.{yields}
use Rattle.pgo_put_sizes.proofs.LeadLaws.{read_yields}
use Rattle.pgo_syntax.specs.StatementView.{labeled_pair}
use Rattle.pgo_put_sizes.proofs.passes.writes_yield.Goals as goal

pub returns-in-Macro : goal.returns-in-Macro
returns-in-Macro c =
    read_yields c.row_leads.result (map labeled_pair c.as_slice.result.now) c.in-Macro.m.write c.row_leads.ensures c.as_slice.ensures
    ∙ ap (λ m. yields (writes_by m)) (sym c.in-Macro.is)
