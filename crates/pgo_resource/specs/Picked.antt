-- The words of choice of an attempt, and the choices that were made in the leaf under way.
use Rattle.std.specs.Prelude.{ℕ, List, map, reverse}
use Rattle.pgo_model.specs.Choice as choice
use Rattle.pgo_model.specs.System.{Words}
use Rattle.pgo_tries.specs.Chosen.{ChoiceMade}
use Rattle.pgo_tries.specs.Sections.{along}
use Rattle.pgo_resource.specs.declared.picks.Picks.{Picks}
use Rattle.pgo_resource.specs.Points.{source_of, point_view}

-- the words of the attempt, which are those of its first leaf
abbrev pub attempt_words : Picks → Words
attempt_words p = choice.words_of (source_of p.source)

-- the picks with which this leaf begins
abbrev pub path_of : Picks → List ℕ
path_of p = p.path.items

-- the words of this leaf: its path, and behind it those of the attempt
abbrev pub words_of : Picks → Words
words_of p = along 0 (path_of p) (attempt_words p)

-- the choices that were made in this leaf, in order
abbrev pub points_of : Picks → List ChoiceMade
points_of p = map point_view p.points.items

-- the same, the newest first
abbrev pub choices_of : Picks → List ChoiceMade
choices_of p = reverse (points_of p)
