-- What the records of a run say of pre-commits that were refused.
use Rattle.std.specs.Prelude.{◌≡◌, ℕ, Some}
use Rattle.pgo_model.specs.Core.{Reaches}
use Rattle.pgo_model.specs.Log.{Effect}
use Rattle.pgo_model.specs.Machine.{Down, Finished, nth}
use Rattle.pgo_model.specs.System.{System}

-- each refused pre-commit is of a resource that its instance is bound to
abbrev pub DownsReached : System → Finished Effect → Type 0
DownsReached y f = (k i r o : ℕ) → nth (f.records k) i ≡ Some (Down r o) → Reaches y k r
