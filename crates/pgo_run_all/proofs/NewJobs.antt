-- A new worker over the board of a seat that has done nothing.
use Rattle.std.proofs.Common.{◌≡◌, ◌≤◌, ℕ, false, [], sym, ap, ◌∙◌, subst}
use Rattle.pgo_model.specs.Core.{Settings}
use Rattle.pgo_model.specs.Log.{Effect}
use Rattle.pgo_model.specs.System.{System}
use Rattle.pgo_resource.specs.declared.resource.Resource.{Ghosts}
use Rattle.pgo_section.specs.Programs.{Trees, RunsSystem}
use Rattle.pgo_section.specs.Turns.{IsFresh, Met}
use Rattle.pgo_section.specs.declared.worker.Worker.{Worker}
use Rattle.pgo_syntax.specs.RecordView.{settings_view}
use Rattle.pgo_workers.specs.View.{View}
use Rattle.pgo_workers.specs.Walk.{Walk}
use Rattle.pgo_workers.specs.Worlds.{layout_of}
use Rattle.pgo_table.specs.SeatViews.{TableTerms}
use Rattle.pgo_table.specs.Seen.{at_rest}
use Rattle.pgo_shared.specs.SeatBoards.{shows_of, table_of}
use Rattle.pgo_shared.specs.Seats.{IsFreshSeat, history_of}
use Rattle.pgo_shared.specs.Tables.{terms_of}
use Rattle.pgo_shared.specs.declared.seat_board.BoardSeat.{BoardSeat}
use Rattle.pgo_shared.specs.declared.seat_board.SeatBoard.{SeatBoard}
use Rattle.pgo_shared.specs.declared.shared.Shared.{Shared}
use Rattle.pgo_joined.specs.JoinedRuns.{IsNewJob}
use Rattle.pgo_joined.proofs.Runs.{fresh_board}

pub new_job : {C R : Type 0} {g : Ghosts R} (y : System) (tree : Trees) (walk : C → Walk) (settings : Settings) (shared : Shared R) (k : ℕ) (w : Worker C) (b : SeatBoard R g) (seat : BoardSeat R g)
    → IsFreshSeat shared k seat → table_of b ≡ shared → shows_of b ≡ at_rest (terms_of shared) (history_of seat)
    → w.number ≡ k → settings_view w.settings ≡ settings → w.records.items ≡ [] → w.out_of_memory ≡ false → w.dropped ≡ false → ((v : View Effect) → RunsSystem y tree settings → IsFresh y settings k v → Met y tree walk w v)
    → RunsSystem y tree settings → (terms_of shared).layout ≡ layout_of y → (terms_of shared).steps ≡ settings.steps → settings.attempts ≤ (terms_of shared).share → IsNewJob y tree walk settings shared k (record { worker = w; board = b; failed = false })
new_job y tree walk settings shared k w b seat fresh table shows number same records awake whole meets runs layout steps share = record {
  number = number;
  settings_are = same;
  fits = record {
    layout_is = ap (λ (t : TableTerms). t.layout) (b.terms ∙ ap terms_of table) ∙ layout;
    runs = subst (RunsSystem y tree) (sym same) runs;
    met = meets (shows_of b) runs (subst (IsFresh y settings k) (sym shows) (fresh_board y settings (terms_of shared) k (history_of seat) steps share fresh.1));
    unused = record { records = records; dropped = whole; awake = awake };
  };
  seat = seat;
  fresh = fresh;
  table = table;
  shows = shows;
}
