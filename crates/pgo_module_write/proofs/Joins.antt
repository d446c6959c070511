-- The text of several lists of lines.
use Rattle.std.proofs.Common.{◌≡◌, ◌<◌, ◌+◌, ℕ, length, get_or, drop, List, [], ◌∷◌, ◌++◌, map, refl, ap, sym, ◌∙◌, append_assoc, add-one, drop-cons}
use Rattle.pgo_base.specs.Lookup.{Name}
use Rattle.pgo_base.specs.Tree.{Tree}
use Rattle.pgo_model.specs.ModuleText.{Line, flatten, flat_lines, action_lines, definition_lines, with_self, parameters_text}
use Rattle.pgo_model.specs.ExprText.{names_text}
use Rattle.std.specs.Prelude.{codes}

pub flatten_more : (ls ms : List Line) → flatten (ls ++ ms) ≡ flatten ls ++ flatten ms
flatten_more [] ms = refl
flatten_more (l ∷ ls) ms = ap (λ t. l ++ t) (flatten_more ls ms) ∙ sym (append_assoc l (flatten ls) (flatten ms))

-- one line list more, with the others behind it
pub lines_more : (a b : List ℕ) (ls : List Line) (rest : List (List Line)) → b ≡ a ++ flatten ls → b ++ flatten (flat_lines rest) ≡ a ++ flatten (flat_lines (ls ∷ rest))
lines_more a b ls rest e =
    ap (λ t. t ++ flatten (flat_lines rest)) e ∙ append_assoc a (flatten ls) (flatten (flat_lines rest)) ∙ ap (λ t. a ++ t) (sym (flatten_more ls (flat_lines rest)))

pub lines_joined : (a b d : List ℕ) (ls ms : List Line) → b ≡ a ++ flatten ls → d ≡ b ++ flatten ms → d ≡ a ++ flatten (ls ++ ms)
lines_joined a b d ls ms e f =
    f ∙ ap (λ t. t ++ flatten ms) e ∙ append_assoc a (flatten ls) (flatten ms) ∙ ap (λ t. a ++ t) (sym (flatten_more ls ms))

-- the lines of label actions, and the definition behind them
pub process_joined : (a b : List ℕ) (as' actions : List (Name × Tree)) (head : List ℕ) (e body : Tree) → as' ≡ actions → b ≡ a ++ flatten (flat_lines (map action_lines as')) → e ≡ body
    → b ++ flatten (definition_lines head e) ≡ a ++ flatten (flat_lines (map action_lines actions) ++ definition_lines head body)
process_joined a b as' actions head e body h k g =
    lines_joined a b (b ++ flatten (definition_lines head e)) (flat_lines (map action_lines actions)) (definition_lines head body) (k ∙ ap (λ l. a ++ flatten (flat_lines (map action_lines l))) h) (ap (λ t. b ++ flatten (definition_lines head t)) g)

pub self_head : (x : Name) → x ++ codes "(self)" ≡ with_self x
self_head x = simp append_assoc refl

pub drop_step : {A : Type 0} (xs : List A) (i : ℕ) (x : A) → i < length xs → x ≡ get_or xs i x → drop i xs ≡ x ∷ drop (i + 1) xs
drop_step xs i x h e = rw (add-one, drop-cons xs i x, ← e)

-- a loop over items, each with its lines
pub each_seen : {A B : Type 0} (v : A → B) (f : B → List Line) (xs : List A) (i : ℕ) (x : A) (a b whole : List ℕ) → i < length xs → x ≡ get_or xs i x → b ≡ a ++ flatten (f (v x))
    → a ++ flatten (flat_lines (map f (map v (drop i xs)))) ≡ whole → b ++ flatten (flat_lines (map f (map v (drop (i + 1) xs)))) ≡ whole
each_seen v f xs i x a b whole h e g k =
    lines_more a b (f (v x)) (map f (map v (drop (i + 1) xs))) g ∙ sym (ap (λ ys. a ++ flatten (flat_lines (map f (map v ys)))) (drop_step xs i x h e)) ∙ k

pub some_parameters : (xs : List Name) (x : Name) (rest : List Name) → xs ≡ x ∷ rest → parameters_text xs ≡ codes "(" ++ names_text xs ++ codes ")"
some_parameters xs x rest e = ap parameters_text e ∙ sym (ap (λ ys. codes "(" ++ names_text ys ++ codes ")") e)

-- the whole: nine lists of lines, one behind the other
pub nine_joined : (b1 b2 b3 b4 b5 b6 b7 b8 b9 : List ℕ) (l1 l2 l3 l4 l5 l6 l7 l8 l9 : List Line)
    → b1 ≡ [] ++ flatten l1 → b2 ≡ b1 ++ flatten l2 → b3 ≡ b2 ++ flatten l3 → b4 ≡ b3 ++ flatten l4 → b5 ≡ b4 ++ flatten l5
    → b6 ≡ b5 ++ flatten l6 → b7 ≡ b6 ++ flatten l7 → b8 ≡ b7 ++ flatten l8 → b9 ≡ b8 ++ flatten l9
    → b9 ≡ [] ++ flatten (l1 ++ l2 ++ l3 ++ l4 ++ l5 ++ l6 ++ l7 ++ l8 ++ l9)
nine_joined b1 b2 b3 b4 b5 b6 b7 b8 b9 l1 l2 l3 l4 l5 l6 l7 l8 l9 h1 h2 h3 h4 h5 h6 h7 h8 h9 =
    lines_joined [] b8 b9 (l1 ++ l2 ++ l3 ++ l4 ++ l5 ++ l6 ++ l7 ++ l8) l9 (
    lines_joined [] b7 b8 (l1 ++ l2 ++ l3 ++ l4 ++ l5 ++ l6 ++ l7) l8 (
    lines_joined [] b6 b7 (l1 ++ l2 ++ l3 ++ l4 ++ l5 ++ l6) l7 (
    lines_joined [] b5 b6 (l1 ++ l2 ++ l3 ++ l4 ++ l5) l6 (
    lines_joined [] b4 b5 (l1 ++ l2 ++ l3 ++ l4) l5 (
    lines_joined [] b3 b4 (l1 ++ l2 ++ l3) l4 (
    lines_joined [] b2 b3 (l1 ++ l2) l3 (lines_joined [] b1 b2 l1 l2 h1 h2) h3) h4) h5) h6) h7) h8) h9
