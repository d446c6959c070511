use Rattle.std.proofs.Common.{◌≡◌, ◌∙◌, ℕ, List, [], ap, sym, subst, take, codes, inl, inr}
use Rattle.clap.specs.Words.{first_of, found_of, is_simple, kind_of, matches_of}
use Rattle.clap.specs.Faults.{fault_of, is_simple_and_free}
use Rattle.clap.specs.Kinds.{IsAmong}
use Rattle.clap.specs.Simple.{App}
use Rattle.clap.proofs.WalkLemmas.{first_value-rows}
use Rattle.pgo_words.specs.Commands.{command_of}
use Rattle.pgo_words.specs.Parts.{HasOptions, texts}
use Rattle.pgo_words.proofs.OptionCuts.{tail_is}
use Rattle.pgo_words.proofs.OptionFaults.{simple, simple_alone}
use Rattle.pgo_words.proofs.OptionParts.{parts_of}
use Rattle.pgo_words.proofs.OptionReads.{reads, refuses}
use Rattle.pgo_words.proofs.options.read_options.Goals as goal

pub returns-in_default : goal.returns-in_default
returns-in_default c = λ os rest h. c.in_default.ensures os rest (parts_of c.args.is_step (texts c.args.words.now) os rest h)

pub returns-in-Ok : goal.returns-in-Ok
returns-in-Ok c =
    let ws = c.args.words.now in
    let end = c.in-Some.end in
    let app = c.in_ok-command.ensures in
    let cut = c.in-Some.ensures in
    let none : fault_of (command_of c.args.is_step) (texts (take end ws)) ≡ [] =
    ap (λ (a : App). fault_of a (texts (take end ws))) (sym app) ∙ c.in-Ok.ensures.kinds (ap is_simple_and_free app ∙ simple c.args.is_step) in
    let rows = (c.in-Ok.ensures.matches (ap is_simple app ∙ simple_alone c.args.is_step)).0 ∙ ap (λ (a : App). matches_of a (texts (take end ws))) app in
    let r = reads c.args.is_step ws end cut.0 cut.1 none in
    let value = λ (n : List ℕ). first_value-rows (found_of c.in-Ok.matches) n ∙ ap (first_of n) rows ∙ r.1 n in (
      cut.0,
      subst (λ rest. HasOptions c.args.is_step (texts ws) cut.0 (texts rest)) (sym (tail_is ws end)) r.0,
      record {
        turns = c.get_str.ensures ∙ value (codes "turns");
        seed = c.get_str-in-Ok.ensures ∙ value (codes "seed");
        attempts = c.get_str-in-Ok-2.ensures ∙ value (codes "attempts");
        steps = c.get_str-in-Ok-3.ensures ∙ value (codes "steps");
        fail = c.get_str-in-Ok-4.ensures ∙ value (codes "fail");
      },
    )

pub returns : goal.returns
returns c =
    let ws = c.args.words.now in
    let end = c.in-Some.end in
    let app = c.in_ok-command.ensures in
    let cut = c.in-Some.ensures in
    λ os rest h. elim (c.in-Err.ensures.kinds (ap is_simple_and_free app ∙ simple c.args.is_step)) [
      | inl none ↦ c.in_default-kind.not-OutOfMemory (c.kind.ensures ∙ none)
      | inr among ↦
          refuses c.args.is_step ws end cut.0 cut.1 (kind_of c.in-Err.error)
          (subst (λ (a : App). IsAmong (kind_of c.in-Err.error) (fault_of a (texts (take end ws)))) app among) os rest h
    ]
