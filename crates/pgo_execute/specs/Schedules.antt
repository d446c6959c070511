-- Which instance makes a turn when, and on how many threads.
use Rattle.std.specs.Prelude.{ℕ, Bool, true, false, List}
use Rattle.pgo_execute.specs.declared.schedule.Schedule as memory
use Rattle.pgo_execute.specs.declared.schedule.Schedule.TheVariants as schedules

-- on one thread a list of turns, each by an instance; or rounds, in each of which every instance that hasn't ended makes one turn, in
-- the order of their numbers, until all have ended; or a thread for each instance, which makes its turns until it has ended
pub data Schedule : Type 0 where
  Turns : (turns : List ℕ) → Schedule
  Rounds : Schedule
  Threads : Schedule

abbrev pub schedule_view : memory.Schedule → Schedule
schedule_view (schedules.Turns ts) = Turns ts.items
schedule_view schedules.Rounds = Rounds

-- the run goes on until each instance has ended
abbrev pub ends_all : Schedule → Bool
ends_all (Turns ts) = false
ends_all Rounds = true
ends_all Threads = true

-- each instance has a thread, so the journal may be held by another
abbrev pub on_threads : Schedule → Bool
on_threads (Turns ts) = false
on_threads Rounds = false
on_threads Threads = true
