-- The domains that a bound system starts with are those of its start.
use Rattle.pgo_base.specs.Data.{graph, keys}
use Rattle.std.specs.Prelude.{refl}
use Rattle.pgo_syntax.specs.declared.bound.Bound.{Bound}
use Rattle.pgo_bound.specs.State.{IsState, IsStateOnDomains}

pub start_on_domains : (b : Bound) → IsState b b.start → IsStateOnDomains b b.start
start_on_domains b h =
    record { state = h; domains = λ n d q k. let e = h.elements n d q k in (keys (graph e.0), (e.0, e.1, refl), (e.0, e.1, refl)) }
