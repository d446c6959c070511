-- What an ordered map has under a name, and which numbers a set has.
use Rattle.std.specs.Prelude.{ℕ, Bool, List, Option, is_some}
use Rattle.std.specs.BTreeSet.{BTreeSet, contains_by}
use Rattle.std.specs.Map.{lookup}
use Rattle.std.specs.Ordering.{nat_cmp}
use Rattle.pgo_base.specs.Lookup.{Name, same_name}
use Rattle.pgo_base.specs.declared.name_map.NameMap.{NameMap}

-- what the entries have under it, where f gives the name of a key
abbrev pub found_in : {K V : Type 0} → (K → Name) → List (K × V) → Name → Option V
found_in f es n = lookup (λ k. same_name n (f k)) es

-- what a map of names has
unfoldable pub found : {V : Type 0} → NameMap V → Name → Option V
found m n = found_in (λ k. k.items) m.map.entries n

-- whether there is something under it
abbrev pub has_name : {V : Type 0} → NameMap V → Name → Bool
has_name m n = is_some (found m n)

-- whether the number is in the set
abbrev pub has_number : BTreeSet ℕ → ℕ → Bool
has_number s n = contains_by (nat_cmp n) s
