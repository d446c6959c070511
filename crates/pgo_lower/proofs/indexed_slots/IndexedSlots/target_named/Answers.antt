use Rattle.std.proofs.Common.{◌≡◌, Some, None, ap, sym, ◌∙◌}
use Rattle.std.proofs.lemmas.Option.{slice_get_past, slice_get-get_or}
use Rattle.std.specs.Prelude.{option_map, slice_get}
use Rattle.pgo_base.specs.Lookup.{find}
use Rattle.pgo_code.specs.See.{target_view}
use Rattle.pgo_lower.specs.SlotViews.{slot_views}
use Rattle.pgo_lower.proofs.FoundLaws.{target_found}
use Rattle.pgo_lower.proofs.indexed_slots.IndexedSlots.target_named.Goals as goal

pub returns-in-Some-get : goal.returns-in-Some-get
returns-in-Some-get c =
    let i = c.in-Some.place in
    let x = c.args.x.now in
    let got : Some c.in-Some-get.slot.now ≡ slice_get c.deref.result.now i =
    ap Some c.in-Some-get.ensures.lookup.1 ∙ sym (slice_get-get_or c.deref.result.now i c.in-Some-get.slot.now c.in-Some-get.ensures.lookup.3.0) in
    ap (option_map (λ s. target_view s.target)) (got ∙ ap (λ l. slice_get l i) c.deref.ensures.value)
    ∙ target_found x c.self.inside.list.items c.self.inside.names (Some i) c.self.invariant c.in-Some.ensures
    ∙ ap (λ l. find x (slot_views l)) c.self.view_is

pub returns-in-None-get : goal.returns-in-None-get
returns-in-None-get c =
    let i = c.in-Some.place in
    let x = c.args.x.now in
    ap (option_map (λ s. target_view s.target)) (sym (slice_get_past c.deref.result.now i c.in-None-get.ensures.lookup.3) ∙ ap (λ l. slice_get l i) c.deref.ensures.value)
    ∙ target_found x c.self.inside.list.items c.self.inside.names (Some i) c.self.invariant c.in-Some.ensures
    ∙ ap (λ l. find x (slot_views l)) c.self.view_is

pub returns-in-None : goal.returns-in-None
returns-in-None c =
    let x = c.args.x.now in
    target_found x c.self.inside.list.items c.self.inside.names None c.self.invariant c.in-None.ensures
    ∙ ap (λ l. find x (slot_views l)) c.self.view_is
