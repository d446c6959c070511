use Rattle.std.proofs.Common.{map, ap, ◌∙◌}
use Rattle.pgo_bound.specs.Values.{define_of}
use Rattle.pgo_syntax.specs.PlacedNames.{names_of}
use Rattle.pgo_translate.proofs.DefinitionViews.{definitions_are}
use Rattle.pgo_translate.specs.ModuleOf.{declared, written_process}
use Rattle.pgo_translate.proofs.translate.translate.Goals as goal

pub returns : goal.returns
returns c =
    let p = c.args.p.now in
    λ i. record {
      name = c.in_ok-name.ensures i;
      constants = (c.in_ok-constants.ensures ∙ ap names_of c.as_slice.ensures) i;
      definitions = definitions_are p.header.definitions (define_of p.define) c.in_ok-definitions.definitions c.in_ok-definitions.ensures i;
      variables = (c.from_vec.ensures ∙ c.in_ok-variables.ensures) i;
      init = c.in_ok-init.ensures i;
      processes = (c.in_ok-processes.ensures ∙ ap (λ vs. map (written_process vs (declared p.globals)) p.processes) (c.as_slice-2.ensures.value ∙ c.in_ok-variables.ensures)) i;
    }
