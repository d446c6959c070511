-- What binds a name of a `with`, with another expression.
use Rattle.pgo_base.specs.Lookup.{Name}
use Rattle.pgo_base.specs.Tree.{Tree}
use Rattle.pgo_syntax.specs.declared.binding.Origin.{Origin}
use Rattle.pgo_syntax.specs.declared.binding.Origin.TheVariants.{Equals, In}
use Rattle.pgo_sections.specs.Code.{Code, Let, Pick}

-- the same origin with another expression
abbrev pub with_value : Origin → Tree → Origin
with_value (Equals e) v = Equals v
with_value (In e) v = In v

-- what binds the name x, where the expression is evaluated
abbrev pub binding_code : Origin → Name → Name → Tree → Code → Code
binding_code (Equals e) b x v c = Let b x v c
binding_code (In e) b x v c = Pick b x v c
