use Rattle.pgo_bound.specs.BoundOf.{bound_of}
use Rattle.pgo_accounts.proofs.FinePlaces.{fine}
use Rattle.pgo_accounts.proofs.statuses_are_fine.Goals as goal

pub returns : goal.returns
returns c = record {
  fine = λ text s consts settings turns spells passes counted.
      let b = bound_of s consts in
      let keeps = c.texts_keep_states.ensures.kept text s consts spells passes counted in
      fine b keeps settings (c.system_fits.ensures.fits b settings keeps) turns;
}
