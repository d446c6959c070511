use Rattle.std.proofs.Common.{◌≡◌, ◌+◌, ap, sym, ◌∙◌, map, drop, List, [], ◌∷◌, refl, arith}
use Rattle.std.proofs.lemmas.List.{drop_all}
use Rattle.pgo_syntax.specs.Statement.{statements}
use Rattle.pgo_syntax.specs.StatementView.{statement}
use Rattle.pgo_syntax.specs.declared.statement.Stmt.{Stmt}
use Rattle.pgo_effects.specs.Around.{around_view}
use Rattle.pgo_effects.specs.Pieces.{arms_then}
use Rattle.pgo_effects.specs.Todos.{code_of, codes_of}
use Rattle.pgo_effects.proofs.BranchLaws.{arms_at, arm_made, no_arm}
use Rattle.pgo_effects.proofs.Rests.{first_of_rest, codes_more}
use Rattle.pgo_effects.proofs.branches.alternatives.Goals as goal

pub loop-t-init : goal.loop-t-init
loop-t-init c = λ s. ap (λ l. arms_then (codes_of s l) (arms_at s (around_view c.args.around.now) (statements (map statement c.args.list.now)))) c.new-todos.ensures.items

pub loop-t-preserved : goal.loop-t-preserved
loop-t-preserved c =
    λ s. let a = around_view c.args.around.now in
    let xs = c.args.list.now in let t = c.t-item.result in let n = c.loop-t.t-index in
    let d : drop n xs ≡ t ∷ drop (n + 1) xs = first_of_rest xs n (n + 1) t refl (omega arith) c.t-item.is in
    arm_made s a (codes_of s c.loop-t.todos.items) (codes_of s c.push.new.self.items) (code_of s c.in_ok-part_todo.field-0) (statement t) (statements (map statement (drop (n + 1) xs))) (codes_more s c.loop-t.todos.items c.push.new.self.items c.in_ok-part_todo.field-0 c.in_ok-push.ensures.items) (c.in_ok-part_todo.ensures s)
    ∙ ap (λ (l : List Stmt). arms_then (codes_of s c.loop-t.todos.items) (arms_at s a (statements (map statement l)))) (sym d)
    ∙ c.loop-t.invariant s

pub returns : goal.returns
returns c =
    λ s. let a = around_view c.args.around.now in
    let xs = c.args.list.now in let n = c.loop-t.t-index in
    let d : drop n xs ≡ [] = drop_all n xs c.loop-t-test.false in
    sym (ap (arms_then (codes_of s c.loop-t.todos.items)) (ap (λ (l : List Stmt). arms_at s a (statements (map statement l))) d ∙ no_arm s a)) ∙ c.loop-t.invariant s
