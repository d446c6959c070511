use Rattle.std.proofs.Common.{◌+◌, ◌^◌, ◌-◌, min, map, take, sym, ap, ◌∙◌}
use Rattle.std.proofs.lemmas.List.{take-map}
use Rattle.pgo_bundle.specs.Places as spec
use Rattle.pgo_bundle.specs.View.{account_view, bundle_log_view, logged_entry_view}
use Rattle.pgo_bundle.proofs.Saturated.{sum_one, sum_two}
use Rattle.pgo_bundle.proofs.places.before_record.Goals as goal

pub returns : goal.returns
returns c =
    let l = bundle_log_view c.args.log.now in
    let k = c.args.instance in
    let m = 2 ^ 64 - 1 in
    let entries = c.entries_size-entries.ensures ∙ ap (λ es. min (spec.entries_size l.version (map logged_entry_view es)) (2 ^ 64 - 1)) c.as_slice.ensures in
    let list = ap (map account_view) (c.first.ensures ∙ ap (take k) c.as_slice-2.ensures) ∙ sym (take-map account_view k c.args.log.now.accounts) in
    let accounts = c.accounts_size-accounts.ensures ∙ ap (λ cs. min (spec.accounts_size cs) (2 ^ 64 - 1)) list in
    let one = sum_two m (spec.front_size l) (spec.entries_size l.version l.entries) c.front_size.result c.entries_size-entries.result c.saturating_add.result c.front_size.ensures entries c.saturating_add.ensures in
    let two = sum_two m (spec.front_size l + spec.entries_size l.version l.entries) (spec.accounts_size (take k l.accounts)) c.saturating_add.result c.accounts_size-accounts.result c.saturating_add-2.result one accounts c.saturating_add-2.ensures in
    sum_one m (spec.front_size l + spec.entries_size l.version l.entries + spec.accounts_size (take k l.accounts)) c.args.attempt c.saturating_add-2.result c.saturating_add-3.result two c.saturating_add-3.ensures
