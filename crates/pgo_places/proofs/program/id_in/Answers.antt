-- The identifier of an instance.
use Rattle.std.proofs.Common.{◌<◌, length, map, ap, sym, ◌∙◌, subst}
use Rattle.pgo_model.specs.Machine.{nth}
use Rattle.pgo_meaning.specs.System.{member_of}
use Rattle.pgo_places.proofs.Identifiers.{nth_id}
use Rattle.pgo_places.proofs.program.id_in.Goals as goal

pub returns : goal.returns
returns c =
    ap (λ xs. nth (map (λ i. i.id) (map member_of xs)) c.args.instance) (sym c.as_slice.ensures)
    ∙ nth_id c.as_slice.result.now c.args.instance c.index-as_slice-instance.result
    (subst (λ xs. c.args.instance < length (map (λ i. i.id) (map member_of xs))) (sym c.as_slice.ensures) c.requires)
