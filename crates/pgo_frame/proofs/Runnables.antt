-- What is asked here is so of each specification that can be run.
use Rattle.std.proofs.Common.{◌≡◌, true, ap, ◌∙◌}
use Rattle.pgo_base.specs.Lookup.{Name}
use Rattle.pgo_model.specs.Log as log
use Rattle.pgo_model.specs.Names.{is_among}
use Rattle.pgo_syntax.specs.declared.bound.Bound.{Bound}
use Rattle.pgo_syntax.specs.declared.bound.Instance.{Instance}
use Rattle.pgo_bound.specs.Among.{from_map, from_flat_map, nth_among}
use Rattle.pgo_bound.specs.State.{id_of, own_names}
use Rattle.pgo_meaning.specs.System.{owned, owned_by, system_of}
use Rattle.pgo_accesses.specs.Runnable.{Runnable}
use Rattle.pgo_accesses.proofs.GoodStates.{named_from}
use Rattle.pgo_frame.specs.WellBound.{WellBound, IsLocal}

local : (b : Bound) (i : Instance) (x : Name) → is_among x (log.own_names (id_of i) (system_of b).own) ≡ true → IsLocal b x
local b i x h =
    let o = named_from x (id_of i) (system_of b).own h in
    let p = from_flat_map (owned_by b) o.0 b.spec.processes o.1 in
    let y = from_map (owned b p.0) o.0 (own_names b.spec p.0) p.2 in
    let at_p = nth_among p.0 b.spec.processes p.1 in
    let at_y = nth_among y.0 (own_names b.spec p.0) y.1 in
    (at_p.0, at_y.0, p.0, y.0, at_p.1, at_y.1, o.2 ∙ ap (λ q. q.variable) y.2)

pub well_bound : (b : Bound) → Runnable b → WellBound b
well_bound b R = record {
  differ = R.differ;
  bound = R.globals.bound;
  owns = λ k i x at_k h. local b i x (R.owns k i x at_k h);
  yields = R.yields;
}
