-- What a turn gives of an expansion.
use Rattle.std.specs.Prelude.{List, ◌∷◌, map}
use Rattle.pgo_base.specs.Lookup.{Name}
use Rattle.pgo_sections.specs.Expansion.{Expansion, With, In, Skip, Await, Assert, Print, If, Either, End}
use Rattle.pgo_pluscal.specs.PartView.{expansions}
use Rattle.pgo_walk.specs.Frames.{Frame, goes, rest_of}
use Rattle.pgo_walk.specs.FrameView.{frames_view, state_view}
use Rattle.pgo_walk.specs.declared.event.Event.{Event}
use Rattle.pgo_walk.specs.declared.event.Event.TheVariants as events
use Rattle.pgo_walk.specs.declared.event.Move.{Move}
use Rattle.pgo_walk.specs.declared.event.Move.TheVariants as moves
use Rattle.pgo_walk.specs.declared.frames.State.{State}

-- the expansion of what is still to be done in a state
abbrev pub left_in : List Name → State → Expansion
left_in vs s = rest_of vs (state_view s)

-- the same with a frame before what is still to be done
abbrev pub with_frame : List Name → State → Frame → Expansion
with_frame vs s f = goes vs (f ∷ frames_view s.frames) s.current s.bound

-- a statement, and x behind it
abbrev pub moved : Move → Expansion → Expansion
moved (moves.With y e) x = With y e x
moved (moves.In y e) x = In y e x
moved moves.Skip x = Skip x
moved (moves.Await e) x = Await e x
moved (moves.Assert e) x = Assert e x
moved (moves.Print e) x = Print e x

-- the expansion, where this is given first, and x is the expansion of the state behind it
abbrev pub emitted : List Name → Event → Expansion → Expansion
emitted vs events.Quiet x = x
emitted vs (events.Step m) x = moved m x
emitted vs (events.If e other) x = If e x (left_in vs other)
emitted vs (events.Either arms) x = Either (expansions (map (left_in vs) arms.items))
emitted vs (events.End changes label) x = End changes.items label
