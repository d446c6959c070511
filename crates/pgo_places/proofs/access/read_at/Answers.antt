-- The first of the reads that are left.
use Rattle.std.proofs.Common.{◌∷◌, ap, sym, ◌∙◌}
use Rattle.pgo_code.specs.See.{unmapped_view}
use Rattle.pgo_places.proofs.FirstReads.{read_here}
use Rattle.pgo_places.proofs.access.read_at.Goals as goal

pub returns-then-number-reads-clause-first : goal.returns-then-number-reads-clause-first
returns-then-number-reads-clause-first c =
    let h = read_here c.args.reads.now c.args.number c.index-reads-number.result c.if-number-reads.true in
    (h.0, h.1 ∙ ap (λ u. unmapped_view u ∷ h.0) (sym c.index-reads-number.is))
