-- The variable that a name stands for, as it lies in memory.
use Rattle.std.specs.Prelude.{Option, Some, None}
use Rattle.pgo_base.specs.Lookup.{Name}
use Rattle.pgo_model.specs.Written.{written}
use Rattle.pgo_syntax.specs.declared.bound.Target.{Target}
use Rattle.pgo_syntax.specs.declared.bound.Target.TheVariants as targets
use Rattle.pgo_sections.specs.Code.{Place, Whole, Own}
use Rattle.pgo_effects.specs.declared.place.Place.{Place as Held}
use Rattle.pgo_effects.specs.declared.place.Place.TheVariants as held

abbrev pub place_view : Held → Place
place_view (held.Whole x) = Whole x
place_view (held.Own x) = Own x

-- the place of a parameter x that stands for this
abbrev pub target_place_of : Name → Name → Target → Option Place
target_place_of p x (targets.Value e) = Some (Own (written p x))
target_place_of p x (targets.Global g e None) = Some (Whole g)
target_place_of p x (targets.Global g e (Some m)) = None
