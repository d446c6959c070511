use Rattle.std.proofs.Common.{length, ap, sym, ◌∙◌}
use Rattle.std.proofs.lemmas.List.{length-map}
use Rattle.pgo_journal.specs.Journal.{JournalView}
use Rattle.pgo_model.specs.System.{System}
use Rattle.pgo_syntax.specs.RecordView.{settings_view}
use Rattle.pgo_run_all.proofs.Nobody.{nobody_left}
use Rattle.pgo_run_all.proofs.finishing.finished_by_nobody.Goals as goal

pub finished-requires-clause-left : goal.finished-requires-clause-left
finished-requires-clause-left g c =
    nobody_left (g.S.Sections.system c.args.sections.now) (g.S.Sections.tree c.args.sections.now) (settings_view c.args.settings.now) (g.S.Sections.walk c.args.sections.now) c.in_ok-journal.journal c.new.result.items
    (ap (λ (z : System). length z.members) c.requires.system ∙ length-map c.args.bound.now.instances _ ∙ c.requires.nobody)
    (ap (λ (j : JournalView). j.start) c.in_ok-journal.ensures ∙ ap (λ (z : System). z.start) (sym c.requires.system))
    (ap (λ (j : JournalView). j.entries) c.in_ok-journal.ensures)
    (ap (λ (j : JournalView). j.notes) c.in_ok-journal.ensures)
    c.new.ensures.items
