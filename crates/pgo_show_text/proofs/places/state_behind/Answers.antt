use Rattle.std.proofs.Common.{◌≡◌, ◌<◌, length, ap, sym, arith}
use Rattle.std.proofs.lemmas.Bool.Decides.{nat_tests}
use Rattle.pgo_bundle.specs.View.{logged_entry_view}
use Rattle.pgo_show_text.proofs.States.{too_few}
use Rattle.pgo_show_text.proofs.places.state_behind.Goals as goal

pub returns-then-count-all-2 : goal.returns-then-count-all-2
returns-then-count-all-2 c =
    let log = c.args.log.now in
    let over = c.if-count-all-2.true in
    let all : length c.as_slice-entries.result.now ≡ length log.entries = ap (λ es. length es) c.as_slice-entries.ensures in
    let less : length log.entries < c.args.count = grind (arith, nat_tests) in
    sym (too_few (λ e. e.entry) logged_entry_view log.start log.entries c.args.count less)
