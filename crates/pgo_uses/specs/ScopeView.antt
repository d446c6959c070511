-- The names in scope as they lie in memory.
use Rattle.std.specs.Prelude.{[], ◌∷◌, take}
use Rattle.pgo_uses.specs.declared.scopes.Link.{Link}
use Rattle.pgo_uses.specs.declared.scopes.Link.TheVariants.{Empty, All, Within}
use Rattle.pgo_uses.specs.Scopes.{Groups, row_names}

abbrev pub groups_of : Link → Groups
groups_of Empty = []
groups_of (All ns) = row_names ns.now ∷ []
groups_of (Within ns n s) = take n (row_names ns.now) ∷ s.now
