-- States from which no instance has a step. Source: this project's choice.
use Rattle.std.proofs.Common.{◌≡◌, ◌<◌, ◌↔◌, ℕ, true, false, length}
use Rattle.pgo_base.specs.Lookup.{Vars}
use Rattle.pgo_model.specs.Core.{is_at_done}
use Rattle.pgo_model.specs.System.{Words}
use Rattle.pgo_syntax.specs.declared.bound.Bound.{Bound}
use Rattle.pgo_tries.specs.Attempts.{is_blocked}
use Rattle.pgo_meaning.specs.Enabled.{IsQuiet, quiet_try}
use Rattle.pgo_meaning.specs.System.{system_of}

-- some instance isn't at Done
abbrev pub SomeUndone : Bound → Vars → Type 0
SomeUndone b s = (k : ℕ) × (k < length b.instances) × (is_at_done (system_of b) k s ≡ false)

-- some instance isn't at Done, and none of these has a step
abbrev pub Quiet : Bound → Vars → Type 0
Quiet b s = SomeUndone b s × ((k : ℕ) → k < length b.instances → is_at_done (system_of b) k s ≡ false → IsQuiet b k s)

-- the attempts with these words, of each instance that isn't at Done, are Blocked
abbrev pub AreBlockedAt : Bound → Vars → (ℕ → Words) → Type 0
AreBlockedAt b s w = (k : ℕ) → k < length b.instances → is_at_done (system_of b) k s ≡ false → is_blocked ((system_of b).sect k s (w k)).end ≡ true

-- One attempt of each instance that isn't at Done decides it, with whatever words.
pub quiet_tells : (b : Bound) (s : Vars) (w : ℕ → Words) → (SomeUndone b s × AreBlockedAt b s w) ↔ Quiet b s
quiet_tells b s w = (
  λ h. (h.0, λ k low there. (quiet_try b k s (w k)).0 (h.1 k low there)),
  λ h. (h.0, λ k low there. (quiet_try b k s (w k)).1 (h.1 k low there)),
)
