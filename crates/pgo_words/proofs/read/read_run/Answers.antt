-- `--park` stands behind options, or it doesn't; the other words are read without it.
use Rattle.std.proofs.Common.{◌∙◌, ◌+◌, ◌++◌, drop, option_map, ap, sym}
use Rattle.pgo_words.specs.Parts.{texts}
use Rattle.pgo_words.specs.Reads.{RunOnly}
use Rattle.pgo_words.specs.View.{request_view}
use Rattle.pgo_words.proofs.ParkReads.{if_found, run_with, run_without, with_park, without_park}
use Rattle.pgo_words.proofs.ReadLaws.{if_ok_more}
use Rattle.pgo_words.proofs.read.read_run.Goals as goal

pub returns-in_ok-others-in-Some-clause-reads : goal.returns-in_ok-others-in-Some-clause-reads
returns-in_ok-others-in-Some-clause-reads c =
    let p = c.in-Some.ensures in
    let later = texts (drop (c.in-Some.at + 1) c.args.behind.now) in
    let left = ap texts c.as_slice.ensures.value ∙ c.in_ok-others-in-Some.ensures ∙ ap (λ ws. ws ++ later) p.2 in
    if_ok_more c.read_run_options.result _ _ (λ o h. run_with (texts c.args.behind.now) p.0 later p.1 (texts c.as_slice.result.now) (option_map request_view o) left h) c.read_run_options.ensures.reads

pub returns-in_ok-others-in-Some-clause-parks : goal.returns-in_ok-others-in-Some-clause-parks
returns-in_ok-others-in-Some-clause-parks c =
    let p = c.in-Some.ensures in
    let later = texts (drop (c.in-Some.at + 1) c.args.behind.now) in
    if_found c.read_run_options.result request_view (RunOnly (texts c.as_slice.result.now)) _ _
    (λ r h e. e ∙ sym (with_park (texts c.args.behind.now) p.0 later p.1)) c.read_run_options.ensures.reads c.read_run_options.ensures.parks

pub returns-in-None-clause-reads : goal.returns-in-None-clause-reads
returns-in-None-clause-reads c =
    if_ok_more c.read_run_options-in-None.result _ _ (λ o h. run_without (texts c.args.behind.now) c.in-None.ensures (option_map request_view o) h) c.read_run_options-in-None.ensures.reads

pub returns-in-None-clause-parks : goal.returns-in-None-clause-parks
returns-in-None-clause-parks c =
    if_found c.read_run_options-in-None.result request_view (RunOnly (texts c.args.behind.now)) _ _
    (λ r h e. e ∙ sym (without_park (texts c.args.behind.now) (request_view r) h)) c.read_run_options-in-None.ensures.reads c.read_run_options-in-None.ensures.parks
