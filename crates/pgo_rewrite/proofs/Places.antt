-- The name of a place is as long as the number behind it.
use Rattle.std.proofs.Common.{◌≡◌, ℕ, suc, length, ◌∙◌, ap}
use Rattle.std.proofs.lemmas.List.{length-replicate}
use Rattle.pgo_base.specs.Lookup.{Name}
use Rattle.pgo_sections.specs.Access.{place}

pub place_length : (k : ℕ) (name : Name) → name ≡ place k → length name ≡ suc k
place_length k name h = ap length h ∙ length-replicate (suc k) 35
