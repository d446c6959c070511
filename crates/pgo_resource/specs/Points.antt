-- The words of choice that a source in memory gives, and choice points as they lie there.
use Rattle.std.specs.Prelude.{◌<◌, ℕ, List, [], ◌∷◌, ◌++◌, map, take}
use Rattle.pgo_model.specs.Choice as choice
use Rattle.pgo_tries.specs.Chosen.{ChoiceMade}
use Rattle.pgo_resource.specs.declared.points.Point.{Point}
use Rattle.pgo_resource.specs.declared.points.Turn.{Turn}
use Rattle.pgo_resource.specs.declared.points.Source.{Source}
use Rattle.pgo_resource.specs.declared.points.Source.TheVariants as sources

abbrev pub source_of : Source → choice.Source
source_of (sources.Listed l) = choice.Listed l.items
source_of (sources.Seeded seed k a) = choice.Seeded seed k a

abbrev pub point_view : Point → ChoiceMade
point_view p = record { count = p.count; taken = p.taken }

abbrev pub IsPick : Point → Type 0
IsPick p = p.taken < p.count

-- the path that a turn leads to
abbrev pub turned_to : List Point → Turn → List ℕ
turned_to ps t = map (λ (p : Point). p.taken) (take t.at ps) ++ t.pick ∷ []
