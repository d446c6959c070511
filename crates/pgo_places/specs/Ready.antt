-- A place whose next event has come: what is there to be done.
use Rattle.std.specs.Prelude.{◌≡◌, ◌<◌, ℕ, zero, suc, Bool, true, false, [], ◌∷◌, drop, Option, None, Some}
use Rattle.pgo_code.specs.Steps.{Step, Assign, Set, Read, Write}
use Rattle.pgo_code.specs.declared.program.Program.{Program}
use Rattle.pgo_resource.specs.declared.sections.NextEvent.{NextEvent}
use Rattle.pgo_resource.specs.declared.sections.NextEvent.TheVariants as events
use Rattle.pgo_accesses.specs.Accesses.{Attempt}
use Rattle.pgo_places.specs.declared.place.Finish.{Finish}
use Rattle.pgo_places.specs.declared.place.Finish.TheVariants as finishes
use Rattle.pgo_places.specs.declared.place.Place.{Place}
use Rattle.pgo_places.specs.Flows.{IsKnown, IsTouchOf}
use Rattle.pgo_places.specs.PlaceView.{stand_view, fixed_view, attempt_view}
use Rattle.pgo_places.specs.PlaceWalk.{steps_at}
use Rattle.pgo_places.specs.Stands.{Fixed, Stand, resume}

-- instruction i is an access of this resource, whatever stands behind it
abbrev pub IsAccess : Attempt → Fixed → ℕ → Step → Stand → Type 0
IsAccess a k r i s = IsTouchOf r (resume a k (suc zero) (i ∷ []) s) × IsKnown i s

-- the instructions that may be an access once their reads are done
abbrev pub is_access_kind : Step → Bool
is_access_kind (Assign t w) = true
is_access_kind (Set t e) = true
is_access_kind (Read w c i) = true
is_access_kind (Write c i w) = true
is_access_kind i = false

-- the section has come to its end
abbrev pub IsEnded : Option Finish → Type 0
IsEnded (Some (finishes.Ended l)) = Unit {0}
IsEnded (Some (finishes.Noted kind)) = ⊥
IsEnded None = ⊥

-- the place is at an access, or at the end that the event says
abbrev pub IsReady : Program → Place → NextEvent → Type 0
IsReady p q (events.Access r) =
    (q.stopped ≡ None) × (0 < q.left) × (i : Step) × (drop q.position (steps_at p q) ≡ i ∷ drop (suc q.position) (steps_at p q))
    × IsAccess (attempt_view p.bound.now q.fixed.value) (fixed_view q.fixed.value) r i (stand_view q.stand)
IsReady p q events.Commit = IsEnded q.stopped
IsReady p q (events.Note kind) = Unit {0}

-- the event is an access
abbrev pub IsAccessEvent : NextEvent → Type 0
IsAccessEvent (events.Access r) = Unit {0}
IsAccessEvent events.Commit = ⊥
IsAccessEvent (events.Note kind) = ⊥
