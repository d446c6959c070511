use Rattle.std.proofs.Common.{◌++◌, ◌∷◌, [], ap, ◌∙◌}
use Rattle.std.specs.Prelude.{codes}
use Rattle.pgo_model.specs.ExprText.{names_text}
use Rattle.pgo_model.specs.ModuleText.{line}
use Rattle.pgo_model.specs.Written.{default_init_value}
use Rattle.pgo_module_write.proofs.Words.{two_words, three_words, three_lines}
use Rattle.pgo_module_write.proofs.write.push_head.Goals as goal

pub returns : goal.returns
returns c =
    let old = c.args.bytes.now.items in
    let second = c.push_line-2.new.bytes.items in
    let m = c.args.m.now in
    three_lines old c.push_line.new.bytes.items second c.push_line-3.new.bytes.items
    (codes "---- MODULE " ++ m.name ++ codes " ----") (codes "EXTENDS Integers, Sequences, FiniteSets, TLC")
    (codes "CONSTANTS " ++ names_text (m.constants ++ (default_init_value ∷ [])))
    (c.in_ok-push_line.ensures ∙ ap (λ w. old ++ line w) (three_words (codes "---- MODULE ") c.as_bytes.result.now (codes " ----"))
    ∙ ap (λ n. old ++ line (codes "---- MODULE " ++ n ++ codes " ----")) c.as_bytes.ensures)
    c.in_ok-push_line-2.ensures
    (c.in_ok-push_line-3.ensures ∙ ap (λ w. second ++ line w) (two_words (codes "CONSTANTS ") c.as_slice.result.now)
    ∙ ap (λ n. second ++ line (codes "CONSTANTS " ++ n)) (c.as_slice.ensures.value ∙ c.in_ok-constants.ensures))
