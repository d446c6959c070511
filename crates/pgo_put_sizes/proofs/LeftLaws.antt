-- The indices of a left side with arguments in place are those of its own path and those that come in by its name.
use Rattle.std.proofs.Common.{◌≡◌, ◌+◌, ◌<◌, List, [], ◌∷◌, ◌++◌, map, length, get_or, Option, Some, None, option_map, refl, ap, sym, ◌∙◌, zero-add, arith}
use Rattle.pgo_base.specs.Lookup.{Name, find}
use Rattle.pgo_base.specs.ExprView.{tree}
use Rattle.pgo_base.specs.Tree.{Tree, name, index, field, trees}
use Rattle.pgo_base.specs.declared.expr.Expr.{Expr}
use Rattle.pgo_base.specs.TreeSize.{height}
use Rattle.pgo_effects.specs.Puts.{Layers, puts_tree, puts_left}
use Rattle.pgo_meaning.specs.MacrosPlaced.{Arguments, put_step, put_left, only, left_of, with_step}
use Rattle.pgo_model.specs.Options.{on}
use Rattle.pgo_put_sizes.specs.Lefts.{step_nodes, steps_nodes, spine_step, index_nodes, spine_nodes, head_of, name_nodes, left_nodes}
use Rattle.pgo_sections.specs.Access.{name_alone}
use Rattle.pgo_sections.specs.Nodes.{tree_nodes}
use Rattle.pgo_syntax.specs.declared.assignment.Left.{Left}
use Rattle.pgo_syntax.specs.declared.assignment.Step.{Step}
use Rattle.pgo_syntax.specs.declared.assignment.Step.TheVariants as step

steps-append : (ls : Layers) (p q : List Step) → steps_nodes ls (p ++ q) ≡ steps_nodes ls p + steps_nodes ls q
steps-append ls [] q = omega arith
steps-append ls (s ∷ p) q = omega (arith, steps-append ls p q)

step_more : (es : Arguments) (ls : Layers) (s : Step) → step_nodes ls (put_step es s) ≡ step_nodes (es ∷ ls) s
step_more es ls (step.Index e) = refl
step_more es ls (step.Field x) = refl

steps_more : (es : Arguments) (ls : Layers) (p : List Step) → steps_nodes ls (map (put_step es) p) ≡ steps_nodes (es ∷ ls) p
steps_more es ls [] = refl
steps_more es ls (s ∷ p) = λ i. step_more es ls s i + steps_more es ls p i

put_nodes : (es : Arguments) (ls : Layers) (l : Left) → left_nodes ls (put_left es l) ≡ left_nodes (es ∷ ls) l
put_nodes es ls l = go (on None (find l.name.name es) left_of)
  where
    go : (o : Option Left) → left_nodes ls (on (record { name = l.name; path = map (put_step es) l.path }) o (λ m. record { name = m.name; path = m.path ++ map (put_step es) l.path }))
        ≡ on (name_nodes ls l.name.name) o (λ m. steps_nodes ls m.path + name_nodes ls m.name.name) + steps_nodes (es ∷ ls) l.path
    go None = ap (λ n. name_nodes ls l.name.name + n) (steps_more es ls l.path)
    go (Some m) = omega (arith, steps-append ls m.path (map (put_step es) l.path), steps_more es ls l.path)

pub left_is : (ls : Layers) (l : Left) → left_nodes ls l ≡ steps_nodes [] (puts_left ls l).path
left_is [] l = omega arith
left_is (es ∷ ls) l = sym (put_nodes es ls l) ∙ left_is ls (put_left es l)

-- a step of a spine, and that of an index
abbrev SpineStep : Type 0
SpineStep = Option Tree × Tree

abbrev made_step : Option Tree → Tree → Option SpineStep
made_step i u = Some (i, u)

abbrev index_step : Tree → Option Tree → Option SpineStep
index_step f o = on None o (λ j. Some (Some j, f))

step_head : (o : Option Tree) (p : Option Left) (f u : Tree) (i : Option Tree) → index_step f o ≡ made_step i u → p ≡ left_of f
    → option_map (λ l. l.name.name) (left_of u) ≡ option_map (λ l. l.name.name) (on None o (λ j. option_map (with_step (step.Index j)) p))
step_head None p f u i h e = absurd (cc h)
step_head (Some j) None f u i h e = ap (λ q. option_map (λ l. l.name.name) q) (ap left_of (sym (snd h)) ∙ sym e)
  where
    snd : made_step (Some j) f ≡ made_step i u → f ≡ u
    snd k = ap (λ q. on f q (λ r. r.1)) k
step_head (Some j) (Some m) f u i h e = ap (λ q. option_map (λ l. l.name.name) q) (ap left_of (sym (snd h)) ∙ sym e)
  where
    snd : made_step (Some j) f ≡ made_step i u → f ≡ u
    snd k = ap (λ q. on f q (λ r. r.1)) k

field_head : (p : Option Left) (x : Name) → option_map (λ l. l.name.name) p ≡ option_map (λ l. l.name.name) (option_map (with_step (step.Field x)) p)
field_head None x = refl
field_head (Some m) x = refl

pub head_step : (t u : Tree) (i : Option Tree) → made_step i u ≡ spine_step t → head_of u ≡ head_of t
head_step (index f ts) u i h = step_head (only ts) (left_of f) f u i (sym h) refl
head_step (field r x) u i h = ap head_of (ap (λ q. on r q (λ s. s.1)) h) ∙ field_head (left_of r) x
head_step t u i h = absurd (cc h)

pub head_end : (t : Tree) → None ≡ spine_step t → name_alone t ≡ head_of t
head_end (index f ts) h = go (only ts) h
  where
    go : (o : Option Tree) → None ≡ index_step f o → None ≡ option_map (λ l. l.name.name) (on None o (λ i. option_map (with_step (step.Index i)) (left_of f)))
    go None e = refl
    go (Some i) e = absurd (cc e)
head_end (field r x) h = absurd (cc h)
head_end t h = refl

pub spine_more : (ls : Layers) (t u : Tree) (i : Option Tree) → made_step i u ≡ spine_step t → index_nodes ls i + spine_nodes ls u ≡ spine_nodes ls t
spine_more ls (index f ts) u i h = go (only ts) h
  where
    go : (o : Option Tree) → made_step i u ≡ index_step f o → index_nodes ls i + spine_nodes ls u ≡ on 0 o (λ j. tree_nodes (puts_tree ls j) + spine_nodes ls f)
    go None e = absurd (cc e)
    go (Some j) e = ap (λ q. on 0 q (λ r. index_nodes ls r.0 + spine_nodes ls r.1)) e
spine_more ls (field r x) u i h = ap (λ q. on 0 q (λ s. index_nodes ls s.0 + spine_nodes ls s.1)) h ∙ zero-add (spine_nodes ls r)
spine_more ls t u i h = absurd (cc h)

pub spine_end : (ls : Layers) (t : Tree) → None ≡ spine_step t → 0 ≡ spine_nodes ls t
spine_end ls (index f ts) h = go (only ts) h
  where
    go : (o : Option Tree) → None ≡ index_step f o → 0 ≡ on 0 o (λ j. tree_nodes (puts_tree ls j) + spine_nodes ls f)
    go None e = refl
    go (Some i) e = absurd (cc e)
spine_end ls (field r x) h = absurd (cc h)
spine_end ls t h = refl

pub spine_low : (t u : Tree) (i : Option Tree) → made_step i u ≡ spine_step t → height u < height t
spine_low (index f ts) u i h = go (only ts) h
  where
    go : (o : Option Tree) → made_step i u ≡ index_step f o → height u < height (index f ts)
    go None e = absurd (cc e)
    go (Some j) e = let same : height u ≡ height f = ap (λ q. on 0 q (λ r. height r.1)) e in omega arith
spine_low (field r x) u i h = let same : height u ≡ height r = ap (λ q. on 0 q (λ s. height s.1)) h in omega arith
spine_low t u i h = absurd (cc h)

index_path : (ls : Layers) (f : Tree) (o : Option Tree) (p : Option Left) (m : Left) → ((m' : Left) → p ≡ Some m' → steps_nodes ls m'.path ≡ spine_nodes ls f)
    → on None o (λ i. option_map (with_step (step.Index i)) p) ≡ Some m → steps_nodes ls m.path ≡ on 0 o (λ i. tree_nodes (puts_tree ls i) + spine_nodes ls f)
index_path ls f None p m ih h = absurd (cc h)
index_path ls f (Some i) None m ih h = absurd (cc h)
index_path ls f (Some i) (Some n) m ih h =
    let e : steps_nodes ls (n.path ++ step.Index i ∷ []) ≡ steps_nodes ls m.path = ap (λ q. on 0 q (λ l. steps_nodes ls l.path)) h in
    omega (arith, e, ih n refl, steps-append ls n.path (step.Index i ∷ []))

field_path : (ls : Layers) (r : Tree) (x : Name) (p : Option Left) (m : Left) → ((m' : Left) → p ≡ Some m' → steps_nodes ls m'.path ≡ spine_nodes ls r)
    → option_map (with_step (step.Field x)) p ≡ Some m → steps_nodes ls m.path ≡ spine_nodes ls r
field_path ls r x None m ih h = absurd (cc h)
field_path ls r x (Some n) m ih h =
    let e : steps_nodes ls (n.path ++ step.Field x ∷ []) ≡ steps_nodes ls m.path = ap (λ q. on 0 q (λ l. steps_nodes ls l.path)) h in
    omega (arith, e, ih n refl, steps-append ls n.path (step.Field x ∷ []))

path_is : (ls : Layers) (t : Tree) (m : Left) → left_of t ≡ Some m → steps_nodes ls m.path ≡ spine_nodes ls t
path_is ls (name x) m h = sym (ap (λ q. on 0 q (λ l. steps_nodes ls l.path)) h)
path_is ls (index f ts) m h = index_path ls f (only ts) (left_of f) m (λ n e. path_is ls f n e) h
path_is ls (field r x) m h = field_path ls r x (left_of r) m (λ n e. path_is ls r n e) h
path_is ls t m h = absurd (cc h)

-- no argument stands for the name
pub none_for : (es : Arguments) (ls : Layers) (x : Name) → None ≡ find x es → name_nodes (es ∷ ls) x ≡ name_nodes ls x
none_for es ls x h = ap (λ o. on (name_nodes ls x) (on None o left_of) (λ m. steps_nodes ls m.path + name_nodes ls m.name.name)) (sym h)

-- the argument spells no left side
pub none_spelled : (es : Arguments) (ls : Layers) (x : Name) (t : Tree) → Some t ≡ find x es → None ≡ head_of t → name_nodes (es ∷ ls) x ≡ name_nodes ls x
none_spelled es ls x t h n =
    ap (λ o. on (name_nodes ls x) (on None o left_of) (λ m. steps_nodes ls m.path + name_nodes ls m.name.name)) (sym h) ∙ go (left_of t) n
  where
    go : (o : Option Left) → None ≡ option_map (λ l. l.name.name) o → on (name_nodes ls x) o (λ m. steps_nodes ls m.path + name_nodes ls m.name.name) ≡ name_nodes ls x
    go None e = refl
    go (Some m) e = absurd (cc e)

pub one_spelled : (es : Arguments) (ls : Layers) (x y : Name) (t : Tree) → Some t ≡ find x es → Some y ≡ head_of t → name_nodes (es ∷ ls) x ≡ spine_nodes ls t + name_nodes ls y
one_spelled es ls x y t h n =
    ap (λ o. on (name_nodes ls x) (on None o left_of) (λ m. steps_nodes ls m.path + name_nodes ls m.name.name)) (sym h) ∙ go (left_of t) (λ m e. path_is ls t m e) n
  where
    go : (o : Option Left) → ((m : Left) → o ≡ Some m → steps_nodes ls m.path ≡ spine_nodes ls t) → Some y ≡ option_map (λ l. l.name.name) o
        → on (name_nodes ls x) o (λ m. steps_nodes ls m.path + name_nodes ls m.name.name) ≡ spine_nodes ls t + name_nodes ls y
    go None p e = absurd (cc e)
    go (Some m) p e = λ i. p m refl i + name_nodes ls (ap (λ q. on y q (λ z. z)) (sym e) i)

pub just_one : (es : List Expr) (ts : List Tree) (e : Expr) → map tree es ≡ ts → length es ≡ 1 → e ≡ get_or es 0 e → Some (tree e) ≡ only (trees ts)
just_one [] ts e h n g = absurd (omega arith)
just_one (f ∷ []) ts e h n g = ap (λ x. Some (tree x)) g ∙ ap (λ l. only (trees l)) h
just_one (f ∷ g' ∷ es) ts e h n g = absurd (omega arith)

-- other than one expression
pub not_one : (es : List Expr) (ts : List Tree) → map tree es ≡ ts → (length es ≡ 1 → ⊥) → None ≡ only (trees ts)
not_one [] ts e h = ap (λ l. only (trees l)) e
not_one (f ∷ []) ts e h = absurd (h refl)
not_one (f ∷ g ∷ es) ts e h = ap (λ l. only (trees l)) e
