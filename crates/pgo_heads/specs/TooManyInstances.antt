-- Rule 6: there are more than 64 instances.
use Rattle.std.specs.Prelude.{ℕ, List, length}
use Rattle.pgo_bound.specs.Runs.{Run, all_ids}
use Rattle.pgo_heads.specs.Limits.{more_than}

-- the number of the instances, where it is too great
abbrev pub instances_past : List Run → List ℕ
instances_past rs = more_than 64 (length (all_ids rs))
