-- The options are read in one way; the list of turns, they and the constants behind them are read in one way.
use Rattle.std.proofs.Common.{List, true, ap, subst}
use Rattle.pgo_base.specs.Data.{Data}
use Rattle.pgo_base.specs.Lookup.{Name}
use Rattle.pgo_syntax.specs.declared.records.Settings as settings
use Rattle.pgo_words.specs.Items.{SpelledOnly}
use Rattle.pgo_words.specs.Parts.{ReadsOptions, now_of}
use Rattle.pgo_words.specs.Reads.{BothOnly, both_view}
use Rattle.pgo_words.proofs.ReadLaws.{at_none, at_some, step_none_options, step_none_turns, step_none_both, step_some}
use Rattle.pgo_words.proofs.read.read_step.Goals as goal

pub returns-in_default-clause-reads : goal.returns-in_default-clause-reads
returns-in_default-clause-reads c =
    let behind = c.args.behind.now in step_none_options behind (subst (ReadsOptions true behind) c.in_default.is c.in_ok-options.ensures)

pub returns-in_default-2-clause-reads : goal.returns-in_default-2-clause-reads
returns-in_default-2-clause-reads c =
    let behind = c.args.behind.now in
    let list = c.in-Some-turns.list.now in
    step_none_turns behind c.in-Some.options (subst (ReadsOptions true behind) c.in-Some.is c.in_ok-options.ensures) list (ap now_of c.in-Some-turns.is)
    (subst (SpelledOnly list) c.in_default-2.is c.in_ok-turns.ensures)

pub returns-in-None-clause-reads : goal.returns-in-None-clause-reads
returns-in-None-clause-reads c =
    let behind = c.args.behind.now in
    let options = c.in-Some.options in
    step_none_both behind options (subst (ReadsOptions true behind) c.in-Some.is c.in_ok-options.ensures) c.in-Some-turns.list.now (ap now_of c.in-Some-turns.is)
    (at_none (BothOnly options) both_view c.in_ok-settings.field-0 c.in-None.is c.in_ok-settings.ensures.reads)

pub returns-in-Some-3-clause-reads : goal.returns-in-Some-3-clause-reads
returns-in-Some-3-clause-reads c =
    let behind = c.args.behind.now in
    let options = c.in-Some.options in
    let list = c.in-Some-turns.list.now in
    let both : settings.Settings × List (Name × Data) = (c.in-Some-3.settings, c.in-Some-3.consts) in
    step_some behind options (subst (ReadsOptions true behind) c.in-Some.is c.in_ok-options.ensures) list (ap now_of c.in-Some-turns.is) c.in-Some-2.turns (both_view both)
    (subst (SpelledOnly list) c.in-Some-2.is c.in_ok-turns.ensures)
    (at_some (BothOnly options) both_view c.in_ok-settings.field-0 both c.in-Some-3.is c.in_ok-settings.ensures.reads)
