-- What a worker in memory is to contracts.
use Rattle.std.specs.Prelude.{ℕ, Bool, true, false, nat_eq, if◌then◌else◌, length, map, Option, Some, None, option_map}
use Rattle.pgo_base.specs.Lookup.{Vars, find}
use Rattle.pgo_model.specs.Outcome as outcome
use Rattle.pgo_model.specs.Core as core
use Rattle.pgo_model.specs.Log.{Effect}
use Rattle.pgo_model.specs.System.{System}
use Rattle.pgo_model.specs.Written.{pc, done}
pub use Rattle.pgo_syntax.specs.RecordView.{ended}
use Rattle.pgo_syntax.specs.RecordView.{result_view, settings_view}
use Rattle.pgo_syntax.specs.declared.records.End.{End}
use Rattle.pgo_syntax.specs.declared.records.End.TheVariants as ends
use Rattle.pgo_syntax.specs.ManyLeaves.{is_noted, counts_leaves}
use Rattle.pgo_syntax.specs.declared.records.AttemptResult.{AttemptResult}
use Rattle.pgo_syntax.specs.declared.records.AttemptResult.TheVariants as results
use Rattle.pgo_syntax.specs.declared.records.Refusal.{Refusal}
use Rattle.pgo_syntax.specs.declared.records.Refusal.TheVariants as refusals
use Rattle.pgo_workers.specs.View as view
use Rattle.pgo_workers.specs.Walk.{Walk}
use Rattle.pgo_workers.specs.Worker as spec
use Rattle.pgo_section.specs.Programs.{Trees, program_of}
use Rattle.pgo_section.specs.declared.worker.Turn.{Turn}
use Rattle.pgo_section.specs.declared.worker.Turn.TheVariants as turns
use Rattle.pgo_section.specs.declared.worker.Worker.{Worker}

abbrev pub phase_at : {C : Type 0} → (C → Walk) → Bool → Option C → ℕ → spec.Phase
phase_at walk true place readied = spec.Giving
phase_at walk false None readied = spec.Resting
phase_at walk false (Some c) readied = spec.Walking (walk c) readied

abbrev pub see : {C : Type 0} → (C → Walk) → Worker C → spec.Worker
see walk w = record {
  number = w.number;
  records = map result_view w.records.items;
  own = w.own;
  phase = phase_at walk w.giving w.place w.readied;
  taken = w.taken.items;
  dropped = w.dropped;
}

-- with an attempt at this place
abbrev pub placed : {C : Type 0} → Worker C → C → Worker C
placed w c = record w { place = Some c }

-- the program of a worker's settings
abbrev pub program_at : {C : Type 0} → System → Trees → Worker C → spec.Program Vars Effect
program_at y tree w = program_of y tree (settings_view w.settings)

abbrev pub refusal_turn : Refusal → spec.Turn
refusal_turn (refusals.Held r h) = spec.Refused (view.IsHeld r h)
refusal_turn (refusals.Down r o) = spec.IsDown r o
refusal_turn (refusals.Full n) = spec.Refused (view.IsFull n)
refusal_turn (refusals.Many leaves n) = spec.HasNoted outcome.Many n

-- the turn by which this becomes of an attempt
abbrev pub turn_of : AttemptResult → Turn
turn_of (results.Step n) = turns.Committed n
turn_of (results.Noted kind n) = turns.Noted kind n
turn_of (results.Refused x) = turns.Refused x

-- what a turn answers tells Many as it should
abbrev pub answer_tells_many : Turn → Bool
answer_tells_many turns.Went = true
answer_tells_many (turns.Committed n) = true
answer_tells_many (turns.Noted kind n) = is_noted kind
answer_tells_many (turns.Refused x) = counts_leaves x
answer_tells_many (turns.Idle e) = true
answer_tells_many turns.NoMemory = true

-- how an instance without an attempt has ended; none where it makes another
abbrev pub end_at_rest : {C : Type 0} → Worker C → Option End
end_at_rest w =
    if core.is_place done (find pc w.own) then Some ends.Done
    else option_map ended (core.end_or_spent (core.end_by (map result_view w.records.items)) (nat_eq (length w.records.items) w.settings.attempts))

abbrev pub end_between : {C : Type 0} → Worker C → Bool → Option C → Option End
end_between w true place = None
end_between w false (Some c) = None
end_between w false None = end_at_rest w

abbrev pub end_of : {C : Type 0} → Worker C → Option End
end_of w = if w.out_of_memory then Some ends.NoMemory else end_between w w.giving w.place
