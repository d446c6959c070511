-- What instances hold, in one list in the order of taking.
use Rattle.std.specs.Prelude.{ℕ, zero, suc, Bool, true, false, ◌&&◌, List, [], ◌∷◌, Option, Some, None, if◌then◌else◌, nat_eq, nat_le}
use Rattle.pgo_resource.specs.declared.taken.Taken.{Taken}
use Rattle.pgo_core.specs.declared.claims.Claim.{Claim}

-- the resources that are held by anybody
abbrev pub claimed : List Claim → List ℕ
claimed [] = []
claimed (c ∷ cs) = c.resource ∷ claimed cs

abbrev pub taken_in : Claim → Taken
taken_in c = record { resource = c.resource; count = c.count }

-- those that instance k holds
abbrev pub taken_by : ℕ → List Claim → List Taken
taken_by k [] = []
taken_by k (c ∷ cs) = if nat_eq c.holder k then taken_in c ∷ taken_by k cs else taken_by k cs

-- who holds r
abbrev pub holder_of : List Claim → ℕ → Option ℕ
holder_of [] r = None
holder_of (c ∷ cs) r = if nat_eq c.resource r then Some c.holder else holder_of cs r

-- without the first of r
abbrev pub without_claim : List Claim → ℕ → List Claim
without_claim [] r = []
without_claim (c ∷ cs) r = if nat_eq c.resource r then cs else c ∷ without_claim cs r

-- each holder is at most m
abbrev pub are_within : ℕ → List Claim → Bool
are_within m [] = true
are_within m (c ∷ cs) = nat_le c.holder m && are_within m cs

-- none of the first i is of r
abbrev pub before : ℕ → List Claim → ℕ → Bool
before zero cs r = true
before (suc i) [] r = true
before (suc i) (c ∷ cs) r = if nat_eq c.resource r then false else before i cs r
