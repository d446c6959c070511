-- All choices of a member for each of several names, in order: the last name goes on first.
use Rattle.std.specs.Prelude.{◌≡◌, ℕ, ◌<◌, Bool, true, false, List, [], ◌∷◌, ◌++◌, length, map, drop, Option, Some}
use Rattle.pgo_base.specs.Data.{Data}
use Rattle.pgo_base.specs.Lookup.{Name}
use Rattle.pgo_base.specs.declared.bindings.BoundName.{BoundName}
use Rattle.pgo_base.specs.declared.expr.Quantifier.{Quantifier}
use Rattle.pgo_base.specs.declared.expr.Quantifier.TheVariants as quantifiers
use Rattle.pgo_model.specs.Operators.{or3, and3, put, spread, choices}
use Rattle.pgo_model.specs.Val.{sets_over}

-- a name with the members of its set
abbrev pub over_of : BoundName → Name × List Data
over_of b = (b.name, b.set)

-- the names with the members of their sets
abbrev pub over_bound : List BoundName → List (Name × List Data)
over_bound bs = map over_of bs

-- the sets
abbrev pub sets_of : List BoundName → List (List Data)
sets_of bs = sets_over (over_bound bs)

-- each name stands at a member of its set
abbrev pub AreAt : List BoundName → Type 0
AreAt [] = Unit {0}
AreAt (b ∷ bs) = (b.at < length b.set) × AreAt bs

-- each name stands at the first place of its set
abbrev pub AreFirst : List BoundName → Type 0
AreFirst [] = Unit {0}
AreFirst (b ∷ bs) = (b.at ≡ 0) × AreFirst bs

-- true where there is no member, else this
abbrev pub or_empty : List Data → Bool → Bool
or_empty [] rest = true
or_empty (m ∷ ms) rest = rest

-- some set has no member
abbrev pub has_empty : List BoundName → Bool
has_empty [] = false
has_empty (b ∷ bs) = or_empty b.set (has_empty bs)

-- the first of these members before a choice of the later names
abbrev pub with_member : List Data → List Data → List Data
with_member [] vs = []
with_member (m ∷ ms) vs = m ∷ vs

-- the members at which the names stand
abbrev pub chosen : List BoundName → List Data
chosen [] = []
chosen (b ∷ bs) = with_member (drop b.at b.set) (chosen bs)

-- the first member before the choices that are left of the later names, and each later member before all of them
abbrev pub from_member : List Data → List (List Data) → List (List Data) → List (List Data)
from_member [] now all = []
from_member (m ∷ ms) now all = put m now ++ spread ms all

-- the choices that are left: that at which the names stand, and those behind it
abbrev pub left : List BoundName → List (List Data)
left [] = [] ∷ []
left (b ∷ bs) = from_member (drop b.at b.set) (left bs) (choices (sets_of bs))

-- what a quantifier makes of two truth values
abbrev pub join : Quantifier → Option Bool → Option Bool → Option Bool
join quantifiers.Exists = or3
join quantifiers.Forall = and3

-- what a quantifier gives over nothing
abbrev pub over_none : Quantifier → Option Bool
over_none quantifiers.Exists = Some false
over_none quantifiers.Forall = Some true

-- whether a quantifier that has found this has it whatever else it finds
abbrev pub is_decided : Quantifier → Option Bool → Bool
is_decided quantifiers.Exists (Some true) = true
is_decided quantifiers.Forall (Some false) = true
is_decided _ _ = false

-- what a quantifier gives over these choices
abbrev pub over_choices : Quantifier → (List Data → Option Bool) → List (List Data) → Option Bool
over_choices q p [] = over_none q
over_choices q p (c ∷ cs) = join q (p c) (over_choices q p cs)

-- what is left to be done: the choices that are left, or none
abbrev pub still_left : Bool → List BoundName → List (List Data)
still_left true bs = left bs
still_left false bs = []

-- the name at this place of its set
abbrev pub at_place : ℕ → BoundName → BoundName
at_place n b = record b { at = n }

-- the name at the first place of its set
abbrev pub restarted : BoundName → BoundName
restarted b = at_place 0 b
