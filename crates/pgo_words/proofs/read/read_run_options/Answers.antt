-- The options are read in one way, and they and the constants behind them are read in one way.
use Rattle.std.proofs.Common.{List, false, subst}
use Rattle.pgo_base.specs.Data.{Data}
use Rattle.pgo_base.specs.Lookup.{Name}
use Rattle.pgo_syntax.specs.declared.records.Settings as settings
use Rattle.pgo_words.specs.Parts.{ReadsOptions}
use Rattle.pgo_words.specs.Reads.{BothOnly, both_view}
use Rattle.pgo_words.proofs.ReadLaws.{at_none, at_some, run_none_options, run_none_both, run_some}
use Rattle.pgo_words.proofs.read.read_run_options.Goals as goal

pub returns-in_default-clause-reads : goal.returns-in_default-clause-reads
returns-in_default-clause-reads c =
    let words = c.args.words.now in run_none_options words (subst (ReadsOptions false words) c.in_default.is c.in_ok-options.ensures)

pub returns-in-None-clause-reads : goal.returns-in-None-clause-reads
returns-in-None-clause-reads c =
    let words = c.args.words.now in
    let options = c.in-Some.options in
    run_none_both words options (subst (ReadsOptions false words) c.in-Some.is c.in_ok-options.ensures)
    (at_none (BothOnly options) both_view c.in_ok-settings.field-0 c.in-None.is c.in_ok-settings.ensures.reads)

pub returns-in-Some-2-clause-reads : goal.returns-in-Some-2-clause-reads
returns-in-Some-2-clause-reads c =
    let words = c.args.words.now in
    let options = c.in-Some.options in
    let both : settings.Settings × List (Name × Data) = (c.in-Some-2.settings, c.in-Some-2.consts) in
    run_some words options (subst (ReadsOptions false words) c.in-Some.is c.in_ok-options.ensures) (both_view both)
    (at_some (BothOnly options) both_view c.in_ok-settings.field-0 both c.in-Some-2.is c.in_ok-settings.ensures.reads)
