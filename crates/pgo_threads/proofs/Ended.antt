-- A worker that has run over its board, as the law of a closed journal takes it.
use Rattle.std.proofs.Common.{◌≡◌, ℕ, true, false, map, sym, ap, ◌∙◌, subst, arith}
use Rattle.pgo_model.specs.Core.{Settings, Reaches}
use Rattle.pgo_model.specs.Log.{Effect}
use Rattle.pgo_model.specs.Machine.{last_ends}
use Rattle.pgo_model.specs.System.{System}
use Rattle.pgo_syntax.specs.RecordView.{result_view, settings_view}
use Rattle.pgo_workers.specs.OneAccounts.{other_at}
use Rattle.pgo_workers.specs.Sentences.{Meets}
use Rattle.pgo_workers.specs.View.{View, Others}
use Rattle.pgo_workers.specs.Walk.{Walk}
use Rattle.pgo_workers.specs.Worker.{has_ended}
use Rattle.pgo_workers.specs.Worlds.{layout_of, world_of}
use Rattle.pgo_section.specs.Programs.{Trees, IsGood, program_of}
use Rattle.pgo_section.specs.Sight.{see}
use Rattle.pgo_section.specs.Turns.{Met, Same}
use Rattle.pgo_section.specs.declared.worker.Worker.{Worker}
use Rattle.pgo_closed.specs.ClosedBoards.{HasEnded}
use Rattle.pgo_closed.specs.MadeEntries.{Stays}
use Rattle.pgo_threads.specs.Drives.{Differing, HasRun, IsUnused, StaysAt}

module _ {C : Type 0} (y : System) (tree : Trees) (walk : C → Walk) where
  -- before its first turn, over a journal that has no entry of it
  pub unused_stays : (w : Worker C) (b : View Effect) → IsUnused w → Others w.number b.entries → StaysAt y tree walk w b
  unused_stays w b u others = record {
    made = λ p e h is good. absurd (other_at w.number b.entries p e others h is);
    undone = λ e. absurd (let z : last_ends (map result_view w.records.items) ≡ false = ap (λ l. last_ends (map result_view l)) u.records in let t : true ≡ false = sym e ∙ z in grind (arith, t));
  }

  pub has_ended_so : (settings : Settings) (asked : Differing y tree settings) (k : ℕ) (w : Worker C) (b : View Effect) (v : Worker C) (c : View Effect) → w.number ≡ k → settings_view w.settings ≡ settings → Same w v → StaysAt y tree walk w b → HasRun y tree walk w b v c → Met y tree walk v c
      → HasEnded (world_of (layout_of y)) (program_of y tree settings) (Reaches y) (IsGood y) k (see walk v) c
  has_ended_so settings asked k w b v c number is same first run met =
      let at : settings_view v.settings ≡ settings = ap settings_view same.settings ∙ is in
      record {
        number = same.number ∙ number;
        meets = subst (λ (s : Settings). Meets (world_of (layout_of y)) (program_of y tree s) (Reaches y) (IsGood y) (see walk v) c) at met.meets;
        stays = subst (λ (s : Settings). Stays (world_of (layout_of y)) (program_of y tree s) (IsGood y) (see walk v) c) at (run.keeps (subst (Differing y tree) (sym is) asked) first);
        ended = subst (λ (s : Settings). has_ended (world_of (layout_of y)) (program_of y tree s) (see walk v) ≡ true) at run.ended;
        whole = run.whole;
      }
