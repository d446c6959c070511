-- The nodes of an expression with arguments in place are its own and those of its operands.
use Rattle.std.proofs.Common.{◌≡◌, ◌+◌, ℕ, suc, Bool, true, false, List, [], ◌∷◌, Some, None, refl, ap, sym, ◌∙◌}
use Rattle.std.specs.Prelude.{if◌then◌else◌, unwrap_or}
use Rattle.pgo_base.specs.Lookup.{Name, find}
use Rattle.pgo_base.specs.Tree.{Tree, name}
use Rattle.pgo_effects.specs.Puts.{Layers, puts_tree}
use Rattle.pgo_meaning.specs.MacrosPlaced.{Arguments, argument, put_tree}
use Rattle.pgo_operands.specs.Operands.{operands}
use Rattle.pgo_rewrite.specs.Scoped.{names_by, under_at}
use Rattle.pgo_sections.specs.Access.{name_alone}
use Rattle.pgo_model.specs.Names.{is_among}
use Rattle.pgo_sections.specs.Nodes.{tree_nodes}
use Rattle.pgo_sections.specs.Replaced.{replaced}
use Rattle.pgo_sizes.specs.Sums.{nodes_in}
use Rattle.pgo_sizes.specs.Tuples.{own_nodes}
use Rattle.pgo_sizes.proofs.NodesIn.{nodes_are}
use Rattle.pgo_put_sizes.specs.Under.{puts_under}
use Rattle.pgo_put_sizes.specs.Levels.{parts_under, operands_under, level_nodes, free_name}
use Rattle.pgo_put_sizes.proofs.ReplacedOperands.{each, operands_each, own_same, still_none, around_same}

-- where no name is bound around
pub none_under : (ls : Layers) (e : Tree) → puts_tree ls e ≡ puts_under ls [] e
none_under [] e = refl
none_under (es ∷ ls) e = none_under ls (put_tree es e)

parts_none : (around : ℕ → List Name) (i : ℕ) (ts : List Tree) → parts_under [] around i ts ≡ ts
parts_none around i [] = refl
parts_none around i (t ∷ ts) = ap (λ l. t ∷ l) (parts_none around (suc i) ts)

parts_more : (es : Arguments) (ls : Layers) (around : ℕ → List Name) (i : ℕ) (ts : List Tree) → parts_under ls around i (each (argument es) around i ts) ≡ parts_under (es ∷ ls) around i ts
parts_more es ls around i [] = refl
parts_more es ls around i (t ∷ ts) = ap (λ l. puts_under (es ∷ ls) (around i) t ∷ l) (parts_more es ls around (suc i) ts)

own_under : (ls : Layers) (under : List Name) (t : Tree) → name_alone t ≡ None → own_nodes (puts_under ls under t) ≡ own_nodes t
own_under [] under t h = refl
own_under (es ∷ ls) under t h = own_under ls under (replaced (argument es) under t) (still_none (argument es) under t h) ∙ own_same (argument es) under t h

operands_are : (ls : Layers) (under : List Name) (t : Tree) → name_alone t ≡ None → operands (puts_under ls under t) ≡ operands_under ls under t
operands_are [] under t h = sym (parts_none (under_at t (names_by t) under) 0 (operands t))
operands_are (es ∷ ls) under t h =
    let u = replaced (argument es) under t in
    let around = under_at t (names_by t) under in
    operands_are ls under u (still_none (argument es) under t h)
    ∙ (λ z. parts_under ls (λ i. around_same (argument es) under t h i z) 0 (operands_each (argument es) under t h z))
    ∙ parts_more es ls around 0 (operands t)

form_level : (ls : Layers) (under : List Name) (t : Tree) → name_alone t ≡ None → tree_nodes (puts_under ls under t) ≡ level_nodes ls under t
form_level ls under t h = nodes_are (puts_under ls under t) ∙ (λ z. own_under ls under t h z + nodes_in (operands_are ls under t h z))

bound_stays : (ls : Layers) (under : List Name) (x : Name) → is_among x under ≡ true → puts_under ls under (name x) ≡ name x
bound_stays [] under x h = refl
bound_stays (es ∷ ls) under x h = ap (λ b. puts_under ls under (if b then name x else unwrap_or (find x es) (name x))) h ∙ bound_stays ls under x h

is_bound : (b : Bool) (x : Name) → (if b then None else Some x) ≡ None → b ≡ true
is_bound true x h = refl
is_bound false x h = absurd (cc h)

pub one_level : (ls : Layers) (under : List Name) (t : Tree) → free_name under t ≡ None → tree_nodes (puts_under ls under t) ≡ level_nodes ls under t
one_level ls under (name x) h = ap tree_nodes (bound_stays ls under x (is_bound (is_among x under) x h))
one_level ls under t h = form_level ls under t refl

pub last_level : (under : List Name) (t : Tree) → tree_nodes t ≡ level_nodes [] under t
last_level under t = nodes_are t ∙ ap (λ l. own_nodes t + nodes_in l) (sym (parts_none (under_at t (names_by t) under) 0 (operands t)))

is_free : (b : Bool) (x y : Name) → (if b then None else Some x) ≡ Some y → b ≡ false
is_free true x y h = absurd (cc h)
is_free false x y h = refl

-- a name that is not bound around gives way to what stands for it
pub one_put : (es : Arguments) (ls : Layers) (under : List Name) (t u : Tree) (x : Name) → free_name under t ≡ Some x → u ≡ unwrap_or (find x es) t → puts_under ls under u ≡ puts_under (es ∷ ls) under t
one_put es ls under (name y) u x h e =
    let b = is_free (is_among y under) y x h in
    let same : y ≡ x = go (is_among y under) h in
    ap (puts_under ls under) (e ∙ ap (λ z. unwrap_or (find z es) (name y)) (sym same))
    ∙ ap (λ c. puts_under ls under (if c then name y else unwrap_or (find y es) (name y))) (sym b)
  where
    go : (b : Bool) → (if b then None else Some y) ≡ Some x → y ≡ x
    go true h = absurd (cc h)
    go false h = cc h
one_put es ls under t u x h e = absurd (cc h)

-- where the arguments that are left give the same, and nothing of them stands for the expression itself
pub settled : (ls all : Layers) (under : List Name) (t e : Tree) → puts_under ls under t ≡ puts_under all under e → free_name under t ≡ None → level_nodes ls under t ≡ tree_nodes (puts_under all under e)
settled ls all under t e same h = sym (one_level ls under t h) ∙ ap tree_nodes same

pub settled_last : (all : Layers) (under : List Name) (t e : Tree) → t ≡ puts_under all under e → level_nodes [] under t ≡ tree_nodes (puts_under all under e)
settled_last all under t e same = sym (last_level under t) ∙ ap tree_nodes same
