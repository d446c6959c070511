-- Arguments put in place go through each form of a statement.
use Rattle.std.proofs.Common.{◌≡◌, ℕ, List, [], ◌∷◌, map, Option, refl, ap, sym, ◌∙◌}
use Rattle.pgo_base.specs.Tree.{Tree}
use Rattle.pgo_syntax.specs.Statement.{Statement, skip, assign, if_then, if_else, while_do, either_of, await_that, with_in, print_out, assert_that, go_to, call_macro, yield_as, block, Statements, no_statements, more_statements, LabeledStatements, no_labeled, more_labeled, GuardedStatements, no_guarded, more_guarded}
use Rattle.pgo_syntax.specs.declared.assignment.Assignment.{Assignment}
use Rattle.pgo_syntax.specs.declared.binding.Origin.TheVariants.{Equals, In}
use Rattle.pgo_syntax.specs.declared.binding.WithName.{WithName}
use Rattle.pgo_syntax.specs.declared.name.PlacedName.{PlacedName}
use Rattle.pgo_meaning.specs.MacrosPlaced.{Arguments, put_assignment, put_names, under_names, with_marked, walked, put}
use Rattle.pgo_effects.specs.Puts.{Layers, puts, puts_each, puts_among, puts_guarded, puts_tree, puts_assignment, puts_origin, puts_name, puts_names, behind_names}

pub each_none : (ls : Layers) → puts_each ls no_statements ≡ no_statements
each_none [] = refl
each_none (es ∷ ls) = each_none ls

pub each_more : (ls : Layers) (t : Statement) (ts : Statements) → puts_each ls (more_statements t ts) ≡ more_statements (puts ls t) (puts_each ls ts)
each_more [] t ts = refl
each_more (es ∷ ls) t ts = each_more ls _ _

pub among_none : (ls : Layers) → puts_among ls no_labeled ≡ no_labeled
among_none [] = refl
among_none (es ∷ ls) = among_none ls

pub among_more : (ls : Layers) (x : Option PlacedName) (t : Statement) (ts : LabeledStatements) → puts_among ls (more_labeled x t ts) ≡ more_labeled x (puts ls t) (puts_among ls ts)
among_more [] x t ts = refl
among_more (es ∷ ls) x t ts = among_more ls x _ _

pub guarded_none : (ls : Layers) → puts_guarded ls no_guarded ≡ no_guarded
guarded_none [] = refl
guarded_none (es ∷ ls) = guarded_none ls

pub guarded_more : (ls : Layers) (p : ℕ) (e : Tree) (t : Statement) (bs : GuardedStatements) → puts_guarded ls (more_guarded p e t bs) ≡ more_guarded p (puts_tree ls e) (puts ls t) (puts_guarded ls bs)
guarded_more [] p e t bs = refl
guarded_more (es ∷ ls) p e t bs = guarded_more ls p _ _ _

pub puts_skip : (ls : Layers) (p : ℕ) → puts ls (skip p) ≡ skip p
puts_skip [] p = refl
puts_skip (es ∷ ls) p = puts_skip ls p

same_assignments : (as' : List Assignment) → map (puts_assignment []) as' ≡ as'
same_assignments [] = refl
same_assignments (a ∷ as') = ap (λ l. a ∷ l) (same_assignments as')

more_assignments : (es : Arguments) (ls : Layers) (as' : List Assignment) → map (puts_assignment ls) (map (put_assignment es) as') ≡ map (puts_assignment (es ∷ ls)) as'
more_assignments es ls [] = refl
more_assignments es ls (a ∷ as') = ap (λ l. puts_assignment (es ∷ ls) a ∷ l) (more_assignments es ls as')

pub puts_assign : (ls : Layers) (p : ℕ) (as' : List Assignment) → puts ls (assign p as') ≡ assign p (map (puts_assignment ls) as')
puts_assign [] p as' = ap (assign p) (sym (same_assignments as'))
puts_assign (es ∷ ls) p as' = puts_assign ls p _ ∙ ap (assign p) (more_assignments es ls as')

pub puts_if : (ls : Layers) (p : ℕ) (bs : GuardedStatements) → puts ls (if_then p bs) ≡ if_then p (puts_guarded ls bs)
puts_if [] p bs = refl
puts_if (es ∷ ls) p bs = puts_if ls p _

pub puts_if_else : (ls : Layers) (p : ℕ) (bs : GuardedStatements) (t : Statement) → puts ls (if_else p bs t) ≡ if_else p (puts_guarded ls bs) (puts ls t)
puts_if_else [] p bs t = refl
puts_if_else (es ∷ ls) p bs t = puts_if_else ls p _ _

pub puts_while : (ls : Layers) (p : ℕ) (e : Tree) (t : Statement) → puts ls (while_do p e t) ≡ while_do p (puts_tree ls e) (puts ls t)
puts_while [] p e t = refl
puts_while (es ∷ ls) p e t = puts_while ls p _ _

pub puts_either : (ls : Layers) (p : ℕ) (ts : Statements) → puts ls (either_of p ts) ≡ either_of p (puts_each ls ts)
puts_either [] p ts = refl
puts_either (es ∷ ls) p ts = puts_either ls p _

pub puts_await : (ls : Layers) (p : ℕ) (e : Tree) → puts ls (await_that p e) ≡ await_that p (puts_tree ls e)
puts_await [] p e = refl
puts_await (es ∷ ls) p e = puts_await ls p _

pub puts_print : (ls : Layers) (p : ℕ) (e : Tree) → puts ls (print_out p e) ≡ print_out p (puts_tree ls e)
puts_print [] p e = refl
puts_print (es ∷ ls) p e = puts_print ls p _

pub puts_assert : (ls : Layers) (p : ℕ) (e : Tree) → puts ls (assert_that p e) ≡ assert_that p (puts_tree ls e)
puts_assert [] p e = refl
puts_assert (es ∷ ls) p e = puts_assert ls p _

pub puts_yield : (ls : Layers) (p : ℕ) (e : Tree) → puts ls (yield_as p e) ≡ yield_as p (puts_tree ls e)
puts_yield [] p e = refl
puts_yield (es ∷ ls) p e = puts_yield ls p _

pub puts_goto : (ls : Layers) (p : ℕ) (x : PlacedName) → puts ls (go_to p x) ≡ go_to p x
puts_goto [] p x = refl
puts_goto (es ∷ ls) p x = puts_goto ls p x

pub puts_call : (ls : Layers) (p : ℕ) (x : PlacedName) (ts : List Tree) → puts ls (call_macro p x ts) ≡ call_macro p x ts
puts_call [] p x ts = refl
puts_call (es ∷ ls) p x ts = puts_call ls p x ts

pub puts_block : (ls : Layers) (p : ℕ) (ts : LabeledStatements) → puts ls (block p ts) ≡ block p (puts_among ls ts)
puts_block [] p ts = refl
puts_block (es ∷ ls) p ts = puts_block ls p _

pub puts_walked : (ls : Layers) (p : ℕ) (t : Statement) → puts ls (walked p t) ≡ walked p (puts ls t)
puts_walked [] p t = refl
puts_walked (es ∷ ls) p t = puts_walked ls p _

same_names : (ws : List WithName) → puts_names [] ws ≡ ws
same_names [] = refl
same_names (w ∷ ws) = ap (λ l. w ∷ l) (same_names ws)

behind_same : (ws : List WithName) → behind_names [] ws ≡ []
behind_same [] = refl
behind_same (w ∷ ws) = behind_same ws

more_names : (es : Arguments) (ls : Layers) (ws : List WithName) → puts_names (es ∷ ls) ws ≡ puts_names ls (put_names es ws)
more_names es ls [] = refl
more_names es ls (w ∷ ws) = ap (λ l. puts_name (es ∷ ls) w ∷ l) (more_names (with_marked w es) _ ws)

behind_more : (es : Arguments) (ls : Layers) (ws : List WithName) → behind_names (es ∷ ls) ws ≡ under_names es ws ∷ behind_names ls (put_names es ws)
behind_more es ls [] = refl
behind_more es ls (w ∷ ws) = behind_more (with_marked w es) _ ws

pub puts_with : (ls : Layers) (p : ℕ) (ws : List WithName) (t : Statement) → puts ls (with_in p ws t) ≡ with_in p (puts_names ls ws) (puts (behind_names ls ws) t)
puts_with [] p ws t = λ i. with_in p (sym (same_names ws) i) (puts (sym (behind_same ws) i) t)
puts_with (es ∷ ls) p ws t =
    puts_with ls p (put_names es ws) (put (under_names es ws) t)
    ∙ (λ i. with_in p (sym (more_names es ls ws) i) (puts (sym (behind_more es ls ws) i) t))

pub puts_equals : (ls : Layers) (e : Tree) → puts_origin ls (Equals e) ≡ Equals (puts_tree ls e)
puts_equals [] e = refl
puts_equals (es ∷ ls) e = puts_equals ls _

pub puts_in : (ls : Layers) (e : Tree) → puts_origin ls (In e) ≡ In (puts_tree ls e)
puts_in [] e = refl
puts_in (es ∷ ls) e = puts_in ls _
