-- Rule 7: there are more than 1,024 resources.
use Rattle.std.specs.Prelude.{ℕ, List, length}
use Rattle.pgo_bound.specs.BoundOf.{GlobalStart, all_parts}
use Rattle.pgo_heads.specs.Limits.{more_than}

-- the number of the resources, where it is too great
abbrev pub resources_past : List GlobalStart → List ℕ
resources_past gs = more_than 1024 (length (all_parts gs))
