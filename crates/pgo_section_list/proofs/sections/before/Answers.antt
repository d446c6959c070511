use Rattle.std.proofs.Common.{◌≡◌, ◌+◌, ◌++◌, ap, sym, subst, ◌∙◌, drop, [], ◌∷◌, refl, arith}
use Rattle.std.proofs.lemmas.List.{drop_all, append-nil}
use Rattle.pgo_section_list.specs.Sections.{in_sequence, end_code}
use Rattle.pgo_effects.specs.Todos.{code_of, codes_of}
use Rattle.pgo_effects.proofs.Rests.{first_of_rest, codes_more}
use Rattle.pgo_section_list.proofs.SectionFollows.{sequence-append, copied}
use Rattle.pgo_section_list.proofs.sections.before.Goals as goal

pub loop-todo-preserved : goal.loop-todo-preserved
loop-todo-preserved c =
    λ s. let xs = c.args.follow.now.todos.items in let ys = c.deref-todo-items.result.now in let t = c.todo-item.result in let n = c.loop-todo.todo-index in
    let d : drop n ys ≡ t ∷ drop (n + 1) ys = first_of_rest ys n (n + 1) t refl (omega arith) c.todo-item.is in
    let e : drop n xs ≡ t ∷ drop (n + 1) xs = subst (λ l. drop n l ≡ t ∷ drop (n + 1) l) c.deref-todo-items.ensures.value d in
    copied (codes_of s c.loop-todo.todos.items) (codes_of s c.push.new.self.items) (code_of s c.in_ok-copy.field-0) (code_of s t) (codes_of s (drop (n + 1) xs)) (codes_more s c.loop-todo.todos.items c.push.new.self.items c.in_ok-copy.field-0 c.in_ok-push.ensures.items) (c.in_ok-copy.ensures s)
    ∙ ap (λ l. codes_of s c.loop-todo.todos.items ++ codes_of s l) (sym e)
    ∙ c.loop-todo.invariant s

pub returns : goal.returns
returns c =
    λ s. let f = c.args.follow.now in let n = c.loop-todo.todo-index in
    let d : drop n f.todos.items ≡ [] = drop_all n f.todos.items (omega arith) in
    let all : codes_of s c.loop-todo.todos.items ≡ codes_of s c.args.todos.items ++ codes_of s f.todos.items =
    sym (append-nil (codes_of s c.loop-todo.todos.items)) ∙ ap (λ l. codes_of s c.loop-todo.todos.items ++ codes_of s l) (sym d) ∙ c.loop-todo.invariant s in
    ap (λ l. in_sequence l (end_code s f.end)) all
    ∙ sequence-append (codes_of s c.args.todos.items) (codes_of s f.todos.items) (end_code s f.end)
