-- Names in scope that stand around others are fewer than those with the others.
use Rattle.std.specs.Prelude.{◌≡◌, ◌≤◌, ◌+◌, max, List, [], ◌∷◌, length, map}
use Rattle.std.proofs.Common.{arith}
use Rattle.pgo_base.specs.declared.bindings.Link.{Link}
use Rattle.pgo_base.specs.declared.bindings.Link.TheVariants.{Empty, More, Named, Bound}
use Rattle.pgo_base.specs.declared.bindings.Bindings.TheDeep.{deep-Link}
use Rattle.pgo_base.specs.BindingsView.{onto, names_of, named_view, bound_view}

pub length-onto : {A : Type 0} (xs ys : List A) → length (onto xs ys) ≡ length xs + length ys
length-onto [] ys = omega arith
length-onto (x ∷ xs) ys = omega (arith, length-onto xs (x ∷ ys))

pub link_falls : (l : Link) → max (deep-Link l) 0 ≤ length (names_of l)
link_falls Empty = omega arith
link_falls (More n v e) = omega arith
link_falls (Named n ns p e) = omega (arith, length-onto (map named_view (n.now ∷ ns.now)) e.now)
link_falls (Bound b bs p e) = omega (arith, length-onto (map bound_view (b.now ∷ bs.now)) e.now)
