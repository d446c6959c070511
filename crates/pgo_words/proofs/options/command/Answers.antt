use Rattle.std.proofs.Common.{rules, ◌≡◌, ◌∙◌, ap₂, refl, Bool, true, false, codes, [], ◌∷◌, if◌then◌else◌}
use Rattle.std.proofs.lemmas.Result.{IfOk-weaker}
use Rattle.clap.specs.Words.{rule_of, with_rule}
use Rattle.pgo_words.specs.Commands.{value_option, with_options, bare_command, command_of}
use Rattle.pgo_words.proofs.options.command.Goals as goal

in_turn : (is_step : Bool)
    → with_rule (with_rule (with_rule (with_rule (with_options bare_command (if is_step then (true, codes "turns") ∷ [] else [])) (value_option false (codes "seed"))) (value_option false (codes "attempts"))) (value_option false (codes "steps"))) (value_option false (codes "fail"))
    ≡ command_of is_step
in_turn true = refl
in_turn false = refl

pub returns : goal.returns
returns c =
    let seed : rule_of c.value_option.result ≡ value_option false (codes "seed") = search rules in
    let attempts : rule_of c.value_option-2.result ≡ value_option false (codes "attempts") = search rules in
    let steps : rule_of c.value_option-3.result ≡ value_option false (codes "steps") = search rules in
    let fail : rule_of c.value_option-4.result ≡ value_option false (codes "fail") = search rules in
    let one = c.in_ok-arg.ensures.shape c.value_option.ensures.own ∙ ap₂ with_rule c.in_ok-start.ensures seed in
    let two = c.in_ok-arg-2.ensures.shape c.value_option-2.ensures.own ∙ ap₂ with_rule one attempts in
    let three = c.in_ok-arg-3.ensures.shape c.value_option-3.ensures.own ∙ ap₂ with_rule two steps in
    IfOk-weaker c.arg-4.result _ _ (λ x h. h.shape c.value_option-4.ensures.own ∙ ap₂ with_rule three fail ∙ in_turn c.args.is_step) c.arg-4.ensures
