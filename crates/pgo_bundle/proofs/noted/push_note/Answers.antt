use Rattle.std.proofs.Common.{◌++◌, map, sym, ap, ◌∙◌}
use Rattle.std.proofs.lemmas.List.{map_push}
use Rattle.pgo_syntax.specs.RecordView.{note_view}
use Rattle.pgo_bundle.specs.Migrated.{note_told}
use Rattle.pgo_bundle.specs.View.{attempt_view}
use Rattle.pgo_bundle.proofs.noted.push_note.Goals as goal

pub returns-in_ok-push-in-Noted : goal.returns-in_ok-push-in-Noted
returns-in_ok-push-in-Noted c =
    let before = map note_view c.args.notes.now.items in
    ap (map note_view) c.in_ok-push-in-Noted.ensures.items ∙ map_push note_view c.args.notes.now.items _ ∙ ap (λ x. before ++ note_told c.args.instance c.args.attempt (attempt_view x)) (sym c.in-Noted.is)
