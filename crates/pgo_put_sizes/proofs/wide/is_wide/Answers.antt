use Rattle.std.proofs.Common.{◌≡◌, ◌<◌, ◌≤◌, true, ap, sym, ◌∙◌, arith}
use Rattle.pgo_effects.specs.SettingView.{setting_view}
use Rattle.pgo_effects.specs.Todos.{code_of}
use Rattle.pgo_put_sizes.specs.Counted.{todo_nodes}
use Rattle.pgo_put_sizes.specs.Leads as spec
use Rattle.pgo_put_sizes.specs.Least.{least}
use Rattle.pgo_put_sizes.proofs.CountedLaws.{todo_least}
use Rattle.pgo_put_sizes.proofs.LeadLaws.{found_yields}
use Rattle.pgo_put_sizes.proofs.Taken.{less_than}
use Rattle.pgo_put_sizes.proofs.wide.is_wide.Goals as goal

pub returns-in-None : goal.returns-in-None
returns-in-None c = λ h.
    let s = setting_view c.args.setting in let t = c.args.todo.now in
    let all : spec.all_yield s.mapped ≡ true = ap spec.all_yield (sym c.bindings.ensures) ∙ sym c.all_yield.ensures ∙ h in
    let low : todo_nodes t ≤ least (code_of s t) = todo_least s (λ x m g. found_yields s.mapped x m all g) t in
    let less : c.args.left < todo_nodes t = less_than c.args.left (todo_nodes t) (sym c.in_ok-rest.ensures ∙ c.in-None.is) in
    omega arith
