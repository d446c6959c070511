-- A resource by its number.
use Rattle.std.proofs.Common.{◌<◌, Some, length, map, ap, sym, ◌∙◌, subst}
use Rattle.pgo_model.specs.Machine.{nth}
use Rattle.pgo_meaning.specs.System.{resource_of}
use Rattle.pgo_places.proofs.Identifiers.{nth_resource}
use Rattle.pgo_places.proofs.program.resource_in.Goals as goal

pub returns : goal.returns
returns c =
    ap (λ xs. nth (map resource_of xs) c.args.r) (sym c.as_slice.ensures)
    ∙ nth_resource c.as_slice.result.now c.args.r c.index-as_slice-r.result
    (subst (λ xs. c.args.r < length (map resource_of xs)) (sym c.as_slice.ensures) c.requires)
    ∙ ap (λ d. Some (resource_of d)) (sym c.index-as_slice-r.is)
