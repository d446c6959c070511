-- What is held is drawn so.
use Rattle.std.proofs.Common.{◌≡◌, map, sym, subst, IfOk}
use Rattle.pgo_bundle.specs.View.{attempt_view, logged_entry_view}
use Rattle.pgo_show_picture.specs.Picture.{with_attempt}
use Rattle.pgo_show_picture.proofs.noted.push_attempt.Goals as goal

pub returns-in-Held : goal.returns-in-Held
returns-in-Held c =
    subst
    (λ a. IfOk c.push_held.result
    (λ _. c.push_held.new.lines ≡ with_attempt (map logged_entry_view c.args.entries.now) c.args.size c.args.lane c.args.behind (attempt_view a) c.args.lines.now))
    (sym c.in-Held.is) c.push_held.ensures
