-- Where values come from: `= e` or `\in e`.
use Rattle.pgo_base.specs.Tree.{Tree}
use Rattle.pgo_syntax.specs.declared.binding.Origin.{Origin}
use Rattle.pgo_syntax.specs.declared.binding.Origin.TheVariants.{Equals, In}

-- the expression behind `=` or `\in`
abbrev pub origin_tree : Origin → Tree
origin_tree (Equals e) = e
origin_tree (In e) = e
