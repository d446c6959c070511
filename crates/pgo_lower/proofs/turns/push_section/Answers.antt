use Rattle.std.proofs.Common.{◌≡◌, ◌∙◌, [], ◌∷◌, ap, refl}
use Rattle.std.proofs.lemmas.Result.{IfOk-at_ok, IfOk-weaker}
use Rattle.pgo_effects.specs.Todos.{code_of, codes_of}
use Rattle.pgo_meaning.specs.Statements.{Setting}
use Rattle.pgo_section_list.specs.Sections.{in_sequence}
use Rattle.pgo_lower.specs.Lowered.{Tables, lowered}
use Rattle.pgo_lower.specs.Work.{tasks_before}
use Rattle.pgo_lower.specs.declared.work.Task.TheVariants.{Do}
use Rattle.pgo_lower.proofs.WorkLaws.{section_begun}
use Rattle.pgo_lower.proofs.turns.push_section.Goals as goal

pub returns : goal.returns
returns c =
    let p = c.in_ok-end in
    let old = c.args.tasks.now in
    let e : p.end ≡ c.args.end = IfOk-at_ok (λ z. z ≡ c.args.end) p.ensures.second refl in
    let a = IfOk-at_ok _ p.ensures.first c.push_all.ensures in
    IfOk-weaker c.push.result _
    (λ _. (s : Setting) (t : Tables) → tasks_before s t c.push.new.self [] ≡ tasks_before s t old (lowered t (in_sequence (codes_of s c.args.todos.items) (code_of s c.args.end))))
    (λ _ h s t. section_begun s t old c.push_all.new.tasks c.push.new.self (codes_of s c.args.todos.items) c.args.end (λ is. a s t is) (h ∙ ap (λ d. Do d ∷ c.push_all.new.tasks) e))
    c.push.ensures
