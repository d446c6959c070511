-- A worker over a board, until it has ended.
use Rattle.std.specs.Prelude.{◌≡◌, ◌++◌, Bool, true, false, map, [], Some}
use Rattle.pgo_model.specs.Core.{Settings, Reaches}
use Rattle.pgo_model.specs.Log.{Effect}
use Rattle.pgo_model.specs.System.{System}
use Rattle.pgo_syntax.specs.RecordView.{result_view, settings_view}
use Rattle.pgo_syntax.specs.declared.records.End as declared
use Rattle.pgo_workers.specs.CoreStands.{Differs}
use Rattle.pgo_workers.specs.Sentences.{refusals}
use Rattle.pgo_workers.specs.View.{View, Told}
use Rattle.pgo_workers.specs.Walk.{Walk}
use Rattle.pgo_workers.specs.Worker.{has_ended}
use Rattle.pgo_workers.specs.Worlds.{Layout, layout_of, world_of}
use Rattle.pgo_section.specs.Programs.{Trees, IsGood, RunsSystem, program_of}
use Rattle.pgo_section.specs.Sight.{see, program_at, end_of}
use Rattle.pgo_section.specs.Turns.{Met, Same}
use Rattle.pgo_section.specs.declared.worker.Worker.{Worker}
use Rattle.pgo_closed.specs.MadeEntries.{Stays}

-- it has no record, and has dropped nothing
pub record IsUnused {C : Type 0} (w : Worker C) : Type 0 where
  pub records : w.records.items ≡ []
  pub dropped : w.dropped ≡ false
  pub awake : w.out_of_memory ≡ false

-- what the board has told as refused since is what the worker has recorded as refused, in order
abbrev pub ToldAsRecorded : {C : Type 0} → View Effect → Worker C → View Effect → Type 0
ToldAsRecorded b v c = (t u : Told) → b.told ≡ Some t → c.told ≡ Some u → u.refused ≡ t.refused ++ refusals (map result_view v.records.items)

-- what is asked of a bound specification with trees of its sections: the trees do what the sections do, and entries are what
-- differs
pub record Differing (y : System) (tree : Trees) (settings : Settings) : Type 0 where
  pub runs : RunsSystem y tree settings
  pub differs : Differs (world_of (layout_of y)) (program_of y tree settings) (Reaches y) (IsGood y) runs

module _ {C : Type 0} (y : System) (tree : Trees) (walk : C → Walk) where
  -- its entries are what differs, and where its last record ends it, it isn't done
  abbrev pub StaysAt : Worker C → View Effect → Type 0
  StaysAt w b = Stays (world_of (layout_of y)) (program_at y tree w) (IsGood y) (see walk w) b

  abbrev pub KeepsOn : Worker C → View Effect → Worker C → View Effect → Type 0
  KeepsOn w b v c = Differing y tree (settings_view w.settings) → StaysAt w b → StaysAt v c

  -- it has ended, says how, and has dropped no attempt
  pub record HasRun (w : Worker C) (b : View Effect) (v : Worker C) (c : View Effect) : Type 0 where
    pub says : (e : declared.End) × (end_of v ≡ Some e)
    pub ended : has_ended (world_of (layout_of y)) (program_at y tree v) (see walk v) ≡ true
    pub awake : v.out_of_memory ≡ false
    pub whole : v.dropped ≡ false
    pub keeps : KeepsOn w b v c

  -- a worker before its first turn, and its board
  pub record FitsJob {B : Type 0} (layout : B → Layout) (shows : B → View Effect) (w : Worker C) (b : B) : Type 0 where
    pub layout_is : layout b ≡ layout_of y
    pub runs : RunsSystem y tree (settings_view w.settings)
    pub met : Met y tree walk w (shows b)
    pub unused : IsUnused w

  -- they have met since, nothing is held, and where memory wasn't wanting, the worker has ended
  pub record HasWorked {B : Type 0} (layout : B → Layout) (shows : B → View Effect) (stays : B → B → Type 0) (w : Worker C) (b : B) (v : Worker C) (c : B) (failed : Bool) : Type 0 where
    pub same : Same w v
    pub layout_is : layout c ≡ layout b
    pub stays_is : stays b c
    pub met : Met y tree walk v (shows c)
    pub nothing : (shows c).held ≡ []
    pub refused : ToldAsRecorded (shows b) v (shows c)
    pub ended : failed ≡ false → HasRun w (shows b) v (shows c)
