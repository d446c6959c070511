-- The names around an expression as they lie in memory.
use Rattle.std.specs.Prelude.{[], ◌∷◌, take}
use Rattle.pgo_rewrite.specs.declared.scopes.Link.{Link}
use Rattle.pgo_rewrite.specs.declared.scopes.Link.TheVariants.{Empty, Within}
use Rattle.pgo_rewrite.specs.Scopes.{Groups}

abbrev pub groups_of : Link → Groups
groups_of Empty = []
groups_of (Within ns n s) = take n ns.now ∷ s.now
