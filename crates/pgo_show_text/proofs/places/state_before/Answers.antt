use Rattle.std.proofs.Common.{◌≤◌, Some, length, take, map, ap, sym, ◌∙◌}
use Rattle.std.proofs.lemmas.Result.{IfOk-weaker}
use Rattle.pgo_bundle.specs.View.{logged_entry_view}
use Rattle.pgo_show_text.specs.Facts.{behind_all}
use Rattle.pgo_show_text.proofs.States.{at_front}
use Rattle.pgo_show_text.proofs.places.state_before.Goals as goal

pub returns-in_ok-copy-in-Some : goal.returns-in_ok-copy-in-Some
returns-in_ok-copy-in-Some c = ap Some c.in_ok-copy-in-Some.ensures ∙ sym (c.requires.states.kept c.args.count c.in-Some.state.now (sym c.in-Some.ensures.value))

pub returns-in-None : goal.returns-in-None
returns-in-None c =
    let log = c.args.log.now in
    let within : c.args.count ≤ length log.entries = c.requires.within in
    let front = c.front.ensures ∙ ap (take c.args.count) c.as_slice.ensures in
    IfOk-weaker c.behind_all.result _ _
    (λ o h. h ∙ ap (λ es. behind_all log.start (map (λ e. e.entry) (map logged_entry_view es))) front ∙ at_front (λ e. e.entry) logged_entry_view log.start log.entries c.args.count within) c.behind_all.ensures
