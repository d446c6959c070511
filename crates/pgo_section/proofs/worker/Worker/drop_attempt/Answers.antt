use Rattle.std.proofs.Common.{◌∙◌, true, sym, subst}
use Rattle.pgo_model.specs.Core.{Reaches}
use Rattle.pgo_model.specs.Machine.{is_empty}
use Rattle.pgo_section.specs.Programs.{IsGood}
use Rattle.pgo_workers.specs.Holds as holds
use Rattle.pgo_workers.specs.Sentences.{Meets}
use Rattle.pgo_workers.specs.Settles.{Settled, settled_finished}
use Rattle.pgo_section.specs.Sight.{see, program_at}
use Rattle.pgo_section.proofs.Events.{world}
use Rattle.pgo_section.proofs.Gives.{phase_of}
use Rattle.pgo_section.proofs.worker.Worker.drop_attempt.Goals as goal

pub abort_all-requires-clause-held : goal.abort_all-requires-clause-held
abort_all-requires-clause-held g c = c.requires.drops.meets.taken ∙ holds.resources_aborted (g.B.Board.shows c.args.board.now).held

pub abort_all-requires-clause-once : goal.abort_all-requires-clause-once
abort_all-requires-clause-once g c = c.requires.drops.meets.once

pub returns-clause-met : goal.returns-clause-met
returns-clause-met g c =
    let a = c.args.self.now in let y = g.S.Sections.system c.args.sections.now in let tree = g.S.Sections.tree c.args.sections.now in let walk = g.S.Sections.walk c.args.sections.now in let b = g.B.Board.shows c.args.board.now in let w = see walk a in
    record {
      meets = subst (λ u. Meets (world y) (program_at y tree a) (Reaches y) (IsGood y) u (g.B.Board.shows c.abort_all.new.board))
          (λ i. record w { phase = sym (phase_of walk 0 a.taken.items _ _ (sym a.taken.ok.0) c.is_empty.ensures) i; dropped = true })
          (subst (Meets (world y) (program_at y tree a) (Reaches y) (IsGood y) (Rattle.pgo_workers.specs.Stops.gives_up w)) (sym c.abort_all.ensures.shows) c.requires.drops.meets);
      settles = subst Settled (sym (phase_of walk 0 a.taken.items _ _ (sym a.taken.ok.0) c.is_empty.ensures)) (settled_finished (is_empty a.taken.items));
      fits = record { instance = c.requires.drops.fits.instance; records = c.requires.drops.fits.records; taken = c.requires.drops.fits.taken; told = c.requires.drops.fits.told; listed = c.requires.drops.fits.listed };
    }
