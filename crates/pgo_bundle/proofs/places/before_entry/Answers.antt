use Rattle.std.proofs.Common.{◌^◌, ◌-◌, min, map, take, sym, ap, ◌∙◌}
use Rattle.std.proofs.lemmas.List.{take-map}
use Rattle.pgo_bundle.specs.Places as spec
use Rattle.pgo_bundle.specs.View.{bundle_log_view, logged_entry_view}
use Rattle.pgo_bundle.proofs.Saturated.{sum_two}
use Rattle.pgo_bundle.proofs.places.before_entry.Goals as goal

pub returns : goal.returns
returns c =
    let l = bundle_log_view c.args.log.now in
    let n = c.args.entries in
    let list = ap (map logged_entry_view) (c.first.ensures ∙ ap (take n) c.as_slice.ensures) ∙ sym (take-map logged_entry_view n c.args.log.now.entries) in
    let size = c.entries_size-size.ensures ∙ ap (λ es. min (spec.entries_size l.version es) (2 ^ 64 - 1)) list in
    sum_two (2 ^ 64 - 1) (spec.front_size l) (spec.entries_size l.version (take n l.entries)) c.front_size.result c.entries_size-size.result c.saturating_add.result c.front_size.ensures size c.saturating_add.ensures
