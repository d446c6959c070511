use Rattle.std.proofs.Common.{◌≡◌, ◌++◌, map}
use Rattle.pgo_base.specs.View.{data_of}
use Rattle.pgo_bundle.specs.View.{account_view}
use Rattle.pgo_bundle.proofs.noted.ids_of.Given as goal

abbrev pub invariant-loop-a : goal.invariant-loop-a
invariant-loop-a l = map data_of l.list.items ++ map (λ a. a.id) (map account_view l.a-iterator.rest.items) ≡ map (λ a. a.id) (map account_view l.fn.accounts)
