-- There are closed runs: where no attempt is to be made, workers just opened have ended, over boards that have seen nothing.
use Rattle.std.proofs.Common.{◌≡◌, ◌<◌, ℕ, Bool, true, false, [], Some, None, refl, sym, ap, arith}
use Rattle.std.specs.Prelude.{if◌then◌else◌, nat_eq}
use Rattle.pgo_workers.specs.Grown.{opened, opened_meets}
use Rattle.pgo_workers.specs.Sentences.{Runs}
use Rattle.pgo_workers.specs.View.{Told, View, World}
use Rattle.pgo_workers.specs.Worker.{Program, has_ended}
use Rattle.pgo_closed.specs.ClosedBoards.{HasEnded}
use Rattle.pgo_closed.specs.ClosedRuns.{ClosedRun}
use Rattle.pgo_closed.proofs.MadeEntries.{opened_stays}

abbrev nothing_told : Told
nothing_told = record { refused = []; takes = []; passed = [] }

module _ {S D : Type 0} (W : World S D) (P : Program S D) (Reaches : ℕ → ℕ → Type 0) (Good : S → Type 0) (runs : Runs W P Reaches Good) (none : P.attempts ≡ 0) where
  abbrev fresh : ℕ → View D
  fresh k = record { instance = k; resources = 0; steps = P.steps; share = 0; held = []; entries = []; notes = []; told = Some nothing_told; last = None }

  over : (k : ℕ) → has_ended W P (opened W P Reaches Good runs k) ≡ true
  over k = go (P.is_done k (W.own W.start k))
    where
      go : (b : Bool) → (if b then true else nat_eq 0 P.attempts) ≡ true
      go true = refl
      go false = ap (nat_eq 0) none

  ended : (k : ℕ) → k < P.instances → HasEnded W P Reaches Good k (opened W P Reaches Good runs k) (fresh k)
  ended k l = record {
    number = refl;
    meets = opened_meets W P Reaches Good runs k (fresh k) (record {
      number = l;
      instance = refl;
      steps = refl;
      share = omega (arith, none);
      held = refl;
      others = tt;
      other_notes = tt;
      told = λ t e. let same : nothing_told ≡ t = grind (arith, e) in (ap (λ (t : Told). t.refused) (sym same), ap (λ (t : Told). t.takes) (sym same), ap (λ (t : Told). t.passed) (sym same));
    }) (omega arith);
    stays = opened_stays W P Reaches Good runs k (fresh k) tt;
    ended = over k;
    whole = refl;
  }

  pub nothing_attempted : ClosedRun W P Reaches Good [] [] (opened W P Reaches Good runs) fresh (λ _. nothing_told)
  nothing_attempted = record {
    boards = record {
      room = omega arith;
      entries_numbered = λ p e h. absurd (grind (arith, h));
      notes_numbered = λ p n h. absurd (grind (arith, h));
      agrees = λ k m l h. absurd h;
      holder = λ k r h l has n. absurd has;
      journal_holder = λ k h l has. absurd has;
      once = λ k l i j x h g. absurd (grind (arith, h));
    };
    sees = λ k l. record { instance = refl; entries_more = []; notes_more = []; entries_are = refl; notes_are = refl; others = tt; other_notes = tt; own = refl };
    tells = λ k l. refl;
    ended = ended;
  }
