use Rattle.std.proofs.Common.{◌≡◌, ◌+◌, ap, sym, ◌∙◌, refl, drop, map, [], ◌∷◌, List, arith}
use Rattle.std.proofs.lemmas.List.{drop_all}
use Rattle.pgo_syntax.specs.declared.assignment.Assignment.{Assignment}
use Rattle.pgo_meaning.specs.Statements.{assign_all}
use Rattle.pgo_effects.specs.declared.todo.Todo.{Todo}
use Rattle.pgo_effects.specs.declared.todo.Todo.TheVariants.{Change}
use Rattle.pgo_effects.specs.Around.{around_view}
use Rattle.pgo_effects.specs.Pieces.{code_with}
use Rattle.pgo_effects.specs.Puts.{puts_assignment}
use Rattle.pgo_effects.specs.SettingView.{setting_view}
use Rattle.pgo_effects.specs.Todos.{change_code, codes_of}
use Rattle.pgo_effects.proofs.AssignLaws.{one_assigned}
use Rattle.pgo_effects.proofs.Rests.{first_of_rest, codes_more}
use Rattle.pgo_effects.proofs.assign.add_assignments.Goals as goal

pub loop-a-init : goal.loop-a-init
loop-a-init c =
    let s = setting_view c.args.setting in let ls = (around_view c.args.around.now).layers in
    ap (λ (l : List Todo). code_with c.args.effects.now.items (assign_all s (map (puts_assignment ls) c.args.list.now) 0 (codes_of s l))) c.new-todos.ensures.items

pub loop-a-preserved : goal.loop-a-preserved
loop-a-preserved c =
    let s = setting_view c.args.setting in let ls = (around_view c.args.around.now).layers in let xs = c.args.list.now in let n = c.loop-a.a-index in let a = c.a-item.result in
    let es = c.loop-a.effects.items in let todos = c.loop-a.todos.items in
    let d : drop n xs ≡ a ∷ drop (n + 1) xs = first_of_rest xs n (n + 1) a refl (omega arith) c.a-item.is in
    one_assigned s c.args.effects.now.items es c.add_assignment.new.effects.items (codes_of s todos) (codes_of s c.push.new.self.items) (change_code c.in_ok-change.change) (puts_assignment ls a) (map (puts_assignment ls) (drop (n + 1) xs)) (map (puts_assignment ls) xs) c.loop-a.used c.in_ok-change.next
    (codes_more s todos c.push.new.self.items (Change c.in_ok-change.change) c.in_ok-push.ensures.items) (λ f. c.in_ok-change.ensures f)
    (ap (λ (l : List Assignment). code_with es (assign_all s (map (puts_assignment ls) l) c.loop-a.used (codes_of s todos))) (sym d) ∙ c.loop-a.invariant)

pub returns : goal.returns
returns c =
    let s = setting_view c.args.setting in let ls = (around_view c.args.around.now).layers in let xs = c.args.list.now in let n = c.loop-a.a-index in
    let d : drop n xs ≡ [] = drop_all n xs c.loop-a-test.false in
    sym (ap (λ (l : List Assignment). code_with c.loop-a.effects.items (assign_all s (map (puts_assignment ls) l) c.loop-a.used (codes_of s c.loop-a.todos.items))) d) ∙ c.loop-a.invariant
