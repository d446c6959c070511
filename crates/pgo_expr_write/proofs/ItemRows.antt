-- The lists of canonical texts, kind by kind.
use Rattle.std.proofs.Common.{◌≡◌, ℕ, suc, Bool, true, false, List, [], ◌∷◌, ◌++◌, length, refl, ap, sym, ◌∙◌, cond, nat_le}
use Rattle.std.specs.Prelude.{codes}
use Rattle.std.proofs.lemmas.Bool.{and_parts, leb-true}
use Rattle.std.proofs.lemmas.List.{append_assoc}
use Rattle.pgo_base.specs.declared.expr.Infix.TheVariants as op
use Rattle.pgo_base.specs.Data.{string}
use Rattle.pgo_base.specs.Lookup.{Name}
use Rattle.pgo_base.specs.Tree.{Tree, Trees, no_trees, more_trees, NamedTrees, no_named, more_named, TreePairs, no_arms, more_arms, BoundTrees, no_bound, more_bound, PathTrees, no_paths, more_paths, trees, named, arms, bound, paths}
use Rattle.pgo_base.specs.Tree as e
use Rattle.pgo_model.specs.ValueText.{is_field, is_identifier}
use Rattle.pgo_model.specs.ExprText.{expr_text}
use Rattle.pgo_lexer.specs.declared.symbol.Bracket.TheVariants as bracket
use Rattle.pgo_lexer.specs.declared.symbol.Symbol.TheVariants as sign
use Rattle.pgo_lexer.specs.declared.symbol.Symbol.{Symbol}
use Rattle.pgo_lexer.specs.declared.token.Token.{Token}
use Rattle.pgo_lexer.specs.declared.token.Token.TheVariants as t
use Rattle.pgo_lexer.specs.declared.symbol.Bracket.{Bracket}
use Rattle.pgo_expr_read.specs.Kinds as kind
use Rattle.pgo_expr_read.specs.Spells.{names, more_names}
use Rattle.pgo_expr_read.specs.Spells as s
use Rattle.pgo_expr_write.specs.WellFormed.{IsName, AreNames, AreSomeNames}
use Rattle.pgo_expr_write.specs.Pieces.{Piece, written, operand, list_from, names_from, named_from, arms_from, binder_pieces, binders_from, bracketed, index_pieces, path_pieces, update_pieces, updates_from}
use Rattle.pgo_expr_write.proofs.Lexed.{Lexed, blank}
use Rattle.pgo_expr_write.proofs.FixedWords.{Ends, comma, arrow, box, defines, equal, member, bang_said, dot_said, square_open, square_close}
use Rattle.pgo_expr_write.proofs.Leaves.{name_said, name_begins, no_dot}
use Rattle.pgo_expr_write.proofs.Inners.{ahead, ahead_append, regroup, Says, Inner, Over}
use Rattle.pgo_expr_write.proofs.Rows.{One, More, Row, no_more, one_more, row_of}

-- ---- lists of trees

pub tree_list : Trees → List Tree
tree_list no_trees = []
tree_list (more_trees a as') = a ∷ tree_list as'

pub trees_back : (as' : Trees) → trees (tree_list as') ≡ as'
unfolding tree_list
trees_back no_trees = refl
trees_back (more_trees a as') = ap (λ z. more_trees a z) (trees_back as')

pub named_list : NamedTrees → List (Name × Tree)
named_list no_named = []
named_list (more_named x a as') = (x, a) ∷ named_list as'

pub named_back : (as' : NamedTrees) → named (named_list as') ≡ as'
unfolding named_list
named_back no_named = refl
named_back (more_named x a as') = ap (λ z. more_named x a z) (named_back as')

pub arm_list : TreePairs → List (Tree × Tree)
arm_list no_arms = []
arm_list (more_arms g a gs) = (g, a) ∷ arm_list gs

pub arms_back : (gs : TreePairs) → arms (arm_list gs) ≡ gs
unfolding arm_list
arms_back no_arms = refl
arms_back (more_arms g a gs) = ap (λ z. more_arms g a z) (arms_back gs)

pub bound_list : BoundTrees → List (List Name × Tree)
bound_list no_bound = []
bound_list (more_bound xs r bs) = (xs, r) ∷ bound_list bs

pub bound_back : (bs : BoundTrees) → bound (bound_list bs) ≡ bs
unfolding bound_list
bound_back no_bound = refl
bound_back (more_bound xs r bs) = ap (λ z. more_bound xs r z) (bound_back bs)

pub path_list : PathTrees → List (List Tree × Tree)
path_list no_paths = []
path_list (more_paths ps a us) = (tree_list ps, a) ∷ path_list us

pub paths_back : (us : PathTrees) → paths (path_list us) ≡ us
unfolding path_list
paths_back no_paths = refl
paths_back (more_paths ps a us) = ap (λ z. more_paths z a (paths (path_list us))) (trees_back ps) ∙ ap (λ z. more_paths ps a z) (paths_back us)

-- ---- lists of operands

pub data Inners : Trees → Type 0 where
  no_inner : Inners no_trees
  more_inner : {a : Tree} {as' : Trees} → Inner a → Inners as' → Inners (more_trees a as')

pub data InnerNamed : NamedTrees → Type 0 where
  no_field : InnerNamed no_named
  more_field : {x : Name} {a : Tree} {as' : NamedTrees} → IsName x → Inner a → InnerNamed as' → InnerNamed (more_named x a as')

pub data InnerArms : TreePairs → Type 0 where
  no_arm : InnerArms no_arms
  more_arm : {g a : Tree} {gs : TreePairs} → Inner g → Inner a → InnerArms gs → InnerArms (more_arms g a gs)

pub data InnerBound : BoundTrees → Type 0 where
  no_binder : InnerBound no_bound
  more_binder : {xs : List Name} {r : Tree} {bs : BoundTrees} → AreSomeNames xs → Over r → InnerBound bs → InnerBound (more_bound xs r bs)

pub data InnerPaths : PathTrees → Type 0 where
  no_update : InnerPaths no_paths
  more_update : {p a : Tree} {ps : Trees} {us : PathTrees} → Inner p → Inners ps → Inner a → InnerPaths us → InnerPaths (more_paths (more_trees p ps) a us)

-- ---- expressions

one_tree : (a : Tree) → Inner a → One kind.tree (operand a ∷ []) a
one_tree a i = record { tokens = i.tokens; item = s.tree i.spelled; begins = i.begins; said = i.said }

pub further_trees : (n : ℕ) (as' : Trees) → Inners as' → More kind.tree (list_from (codes ", ") (suc n) as') (tree_list as')
unfolding tree_list
further_trees n no_trees no_inner = no_more kind.tree
further_trees n (more_trees a as') (more_inner i is) =
    one_more kind.tree (written (codes ", ") ∷ []) (operand a ∷ []) (list_from (codes ", ") (suc (suc n)) as') a (tree_list as') refl (λ st rest us h. comma (h false)) (λ rest. (refl, refl))
    (one_tree a i) (further_trees (suc n) as' is)

pub row_of_trees : (a : Tree) (as' : Trees) → Inner a → Inners as' → Row kind.tree (list_from (codes ", ") 0 (more_trees a as')) (tree_list (more_trees a as'))
unfolding tree_list
row_of_trees a as' i is = row_of kind.tree (operand a ∷ []) (list_from (codes ", ") 1 as') a (tree_list as') (one_tree a i) (further_trees 0 as' is)

-- ---- names

pub further_names_end : (n : ℕ) (xs : List Name) (rest : List ℕ) → Ends rest → Ends (ahead (names_from (suc n) xs) rest)
further_names_end n [] rest h = h
further_names_end n (x ∷ xs) rest h = (refl, refl)

further_names : (n : ℕ) (xs : List Name) → AreNames xs → (st : List Bracket) (rest : List ℕ) (us : List Token) → Ends rest → Lexed st true rest us → Lexed st true (ahead (names_from (suc n) xs) rest) (more_names xs ++ us)
further_names n [] h st rest us ends d = d
further_names n (x ∷ xs) h st rest us ends d =
    comma (name_said x (ahead (names_from (suc (suc n)) xs) rest) h.0 (further_names_end (suc n) xs rest ends) (further_names (suc n) xs h.1 st rest us ends d))

pub names_said : (x : Name) (xs : List Name) → IsName x → AreNames xs → Says (ahead (names_from 0 (x ∷ xs))) (names x xs)
names_said x xs h hs st p rest us ends d = name_said x (ahead (names_from 1 xs) rest) h (further_names_end 0 xs rest ends) (further_names 0 xs hs st rest us ends d)

-- ---- fields and definitions

one_field : (v : Symbol) (bytes : List ℕ) (x : Name) (a : Tree) → ((st : List Bracket) (rest : List ℕ) (us : List Token) → Lexed st false rest us → Lexed st true (bytes ++ rest) (t.Symbol v ∷ us)) → ((rest : List ℕ) → Ends (bytes ++ rest))
    → IsName x → Inner a → One (kind.field v) (written x ∷ written bytes ∷ operand a ∷ []) (x, a)
one_field v bytes x a says ends h i = record {
  tokens = t.Name x ∷ (t.Symbol v ∷ i.tokens);
  item = s.field i.spelled;
  begins = λ rest. name_begins x (bytes ++ (expr_text false a ++ rest)) h;
  said = λ st p rest us e d. name_said x (bytes ++ (expr_text false a ++ rest)) h (ends (expr_text false a ++ rest)) (says st (expr_text false a ++ rest) (i.tokens ++ us) (i.said st false rest us e d));
}

module _ (v : Symbol) (bytes : List ℕ) (says : (st : List Bracket) (rest : List ℕ) (us : List Token) → Lexed st false rest us → Lexed st true (bytes ++ rest) (t.Symbol v ∷ us)) (ends : (rest : List ℕ) → Ends (bytes ++ rest)) where
  further_fields : (n : ℕ) (as' : NamedTrees) → InnerNamed as' → More (kind.field v) (named_from bytes (codes ", ") (suc n) as') (named_list as')
  unfolding named_list
  further_fields n no_named no_field = no_more (kind.field v)
  further_fields n (more_named x a as') (more_field h i is) =
      one_more (kind.field v) (written (codes ", ") ∷ []) (written x ∷ written bytes ∷ operand a ∷ []) (named_from bytes (codes ", ") (suc (suc n)) as') (x, a) (named_list as') refl (λ st rest us h. comma (h false)) (λ rest. (refl, refl))
      (one_field v bytes x a says ends h i) (further_fields (suc n) as' is)

  pub row_of_fields : (x : Name) (a : Tree) (as' : NamedTrees) → IsName x → Inner a → InnerNamed as' → Row (kind.field v) (named_from bytes (codes ", ") 0 (more_named x a as')) (named_list (more_named x a as'))
  unfolding named_list
  row_of_fields x a as' h i is =
      row_of (kind.field v) (written x ∷ written bytes ∷ operand a ∷ []) (named_from bytes (codes ", ") 1 as') (x, a) (named_list as') (one_field v bytes x a says ends h i) (further_fields 0 as' is)

one_definition : (x : Name) (a : Tree) → IsName x → Inner a → One kind.definition (written x ∷ written (codes " == ") ∷ operand a ∷ []) (x, a)
one_definition x a h i = record {
  tokens = t.Name x ∷ (t.Symbol sign.Defines ∷ i.tokens);
  item = s.definition i.spelled;
  begins = λ rest. name_begins x _ h;
  said = λ st p rest us e d. name_said x _ h (refl, refl) (defines (i.said st false rest us e d));
}

further_definitions : (n : ℕ) (as' : NamedTrees) → InnerNamed as' → More kind.definition (named_from (codes " == ") (codes " ") (suc n) as') (named_list as')
unfolding named_list
further_definitions n no_named no_field = no_more kind.definition
further_definitions n (more_named x a as') (more_field h i is) =
    one_more kind.definition (written (codes " ") ∷ []) (written x ∷ written (codes " == ") ∷ operand a ∷ []) (named_from (codes " == ") (codes " ") (suc (suc n)) as') (x, a) (named_list as') refl (λ st rest us h. blank (h true)) (λ rest. (refl, refl))
    (one_definition x a h i) (further_definitions (suc n) as' is)

pub row_of_definitions : (x : Name) (a : Tree) (as' : NamedTrees) → IsName x → Inner a → InnerNamed as' → Row kind.definition (named_from (codes " == ") (codes " ") 0 (more_named x a as')) (named_list (more_named x a as'))
unfolding named_list
row_of_definitions x a as' h i is =
    row_of kind.definition (written x ∷ written (codes " == ") ∷ operand a ∷ []) (named_from (codes " == ") (codes " ") 1 as') (x, a) (named_list as') (one_definition x a h i) (further_definitions 0 as' is)

-- ---- arms

one_arm : (g a : Tree) → Inner g → Inner a → One kind.arm (operand g ∷ written (codes " -> ") ∷ operand a ∷ []) (g, a)
one_arm g a j i = record {
  tokens = j.tokens ++ (t.Symbol sign.Arrow ∷ i.tokens);
  item = s.arm j.spelled i.spelled;
  begins = λ rest. j.begins _;
  said = λ st p rest us e d. regroup _ _ _ _ refl (sym (append_assoc j.tokens (t.Symbol sign.Arrow ∷ i.tokens) us)) (j.said st p _ (t.Symbol sign.Arrow ∷ (i.tokens ++ us)) (refl, refl) (arrow (i.said st false rest us e d)));
}

further_arms : (n : ℕ) (gs : TreePairs) → InnerArms gs → More kind.arm (arms_from (suc n) gs) (arm_list gs)
unfolding arm_list
further_arms n no_arms no_arm = no_more kind.arm
further_arms n (more_arms g a gs) (more_arm j i is) =
    one_more kind.arm (written (codes " [] ") ∷ []) (operand g ∷ written (codes " -> ") ∷ operand a ∷ []) (arms_from (suc (suc n)) gs) (g, a) (arm_list gs) refl (λ st rest us h. box (h false)) (λ rest. (refl, refl))
    (one_arm g a j i) (further_arms (suc n) gs is)

pub row_of_arms : (g a : Tree) (gs : TreePairs) → Inner g → Inner a → InnerArms gs → Row kind.arm (arms_from 0 (more_arms g a gs)) (arm_list (more_arms g a gs))
unfolding arm_list
row_of_arms g a gs j i is = row_of kind.arm (operand g ∷ written (codes " -> ") ∷ operand a ∷ []) (arms_from 1 gs) (g, a) (arm_list gs) (one_arm g a j i) (further_arms 0 gs is)

-- ---- binders

one_binder : (xs : List Name) (r : Tree) → AreSomeNames xs → Over r → One kind.binder (binder_pieces xs r) (xs, r)
one_binder [] r h o = absurd h
one_binder (x ∷ xs) r h o =
    let ps = names_from 0 (x ∷ xs) in
    let qs : List Piece = written (codes " \\in ") ∷ operand r ∷ [] in
    record {
      tokens = names x xs ++ (t.Symbol (sign.Infix op.In) ∷ o.tokens);
      item = s.binder o.range;
      begins = λ rest. name_begins x _ h.0;
      said = λ st p rest us e d.
          regroup _ _ _ _ (sym (ahead_append ps qs rest)) (sym (append_assoc (names x xs) (t.Symbol (sign.Infix op.In) ∷ o.tokens) us))
          (names_said x xs h.0 h.1 st p (ahead qs rest) (t.Symbol (sign.Infix op.In) ∷ (o.tokens ++ us)) (refl, refl) (member (o.said st false rest us e d)));
    }

further_binders : (n : ℕ) (bs : BoundTrees) → InnerBound bs → More kind.binder (binders_from (suc n) bs) (bound_list bs)
unfolding bound_list
further_binders n no_bound no_binder = no_more kind.binder
further_binders n (more_bound xs r bs) (more_binder h o is) =
    one_more kind.binder (written (codes ", ") ∷ []) (binder_pieces xs r) (binders_from (suc (suc n)) bs) (xs, r) (bound_list bs) refl (λ st rest us h. comma (h false)) (λ rest. (refl, refl))
    (one_binder xs r h o) (further_binders (suc n) bs is)

pub row_of_binders : (xs : List Name) (r : Tree) (bs : BoundTrees) → AreSomeNames xs → Over r → InnerBound bs → Row kind.binder (binders_from 0 (more_bound xs r bs)) (bound_list (more_bound xs r bs))
unfolding bound_list
row_of_binders xs r bs h o is = row_of kind.binder (binder_pieces xs r) (binders_from 1 bs) (xs, r) (bound_list bs) (one_binder xs r h o) (further_binders 0 bs is)

-- ---- paths and updates

pub record Step (a : Tree) : Type 0 where
  pub one : One kind.step (index_pieces a) a
  pub ends : (rest : List ℕ) → Ends (ahead (index_pieces a) rest)

one_bracketed : (a : Tree) → Inner a → One kind.step (bracketed a) a
one_bracketed a i = record {
  tokens = t.Symbol (sign.Open bracket.Square) ∷ (i.tokens ++ (t.Symbol (sign.Close bracket.Square) ∷ []));
  item = s.index_step i.spelled;
  begins = λ rest. (refl, refl, refl);
  said = λ st p rest us e d.
      regroup _ _ _ _ refl (ap (λ z. t.Symbol (sign.Open bracket.Square) ∷ z) (sym (append_assoc i.tokens (t.Symbol (sign.Close bracket.Square) ∷ []) us)))
      (square_open (expr_text false a ++ (93 ∷ rest)) (i.begins (93 ∷ rest)) (i.said _ false (93 ∷ rest) (t.Symbol (sign.Close bracket.Square) ∷ us) (refl, refl) (square_close rest d)));
}

pub dot_name : {st : List Bracket} {p : Bool} (x rest : List ℕ) {us : List Token} → IsName x → Ends rest → Lexed st true rest us → Lexed st p (46 ∷ (x ++ rest)) (t.Symbol sign.Dot ∷ (t.Name x ∷ us))
dot_name [] rest h e d = absurd (let z = h.0 in cc)
dot_name (y ∷ x) rest h e d = dot_said y (x ++ rest) (no_dot y x h) (name_said (y ∷ x) rest h e d)

one_field_step : (x : Name) → IsName x → One kind.step (written (codes ".") ∷ written x ∷ []) (e.text x)
one_field_step x h = record {
  tokens = t.Symbol sign.Dot ∷ (t.Name x ∷ []);
  item = s.field_step;
  begins = λ rest. (refl, refl, refl);
  said = λ st p rest us e d. dot_name x rest h e d;
}

text_step : (x : List ℕ) (c : Bool) → is_field (string x) ≡ c → Inner (e.text x) → One kind.step (cond c (written (codes ".") ∷ written x ∷ []) (bracketed (e.text x))) (e.text x)
text_step x true is i = let q = and_parts (is_identifier x) (nat_le (length x) 512) is in one_field_step x (q.0, leb-true (length x) 512 q.1)
text_step x false is i = one_bracketed (e.text x) i

text_ends : (x : List ℕ) (c : Bool) (rest : List ℕ) → Ends (ahead (cond c (written (codes ".") ∷ written x ∷ []) (bracketed (e.text x))) rest)
text_ends x true rest = (refl, refl)
text_ends x false rest = (refl, refl)

pub step_of : (a : Tree) → Inner a → Step a
step_of (e.text x) i = record { one = text_step x (is_field (string x)) refl i; ends = text_ends x (is_field (string x)) }
step_of (e.name x) i = record { one = one_bracketed (e.name x) i; ends = λ rest. (refl, refl) }
step_of (e.primed x) i = record { one = one_bracketed (e.primed x) i; ends = λ rest. (refl, refl) }
step_of (e.number z) i = record { one = one_bracketed (e.number z) i; ends = λ rest. (refl, refl) }
step_of (e.truth v) i = record { one = one_bracketed (e.truth v) i; ends = λ rest. (refl, refl) }
step_of e.at i = record { one = one_bracketed e.at i; ends = λ rest. (refl, refl) }
step_of (e.word w) i = record { one = one_bracketed (e.word w) i; ends = λ rest. (refl, refl) }
step_of (e.unary p a) i = record { one = one_bracketed (e.unary p a) i; ends = λ rest. (refl, refl) }
step_of (e.binary p a b) i = record { one = one_bracketed (e.binary p a b) i; ends = λ rest. (refl, refl) }
step_of (e.product ts) i = record { one = one_bracketed (e.product ts) i; ends = λ rest. (refl, refl) }
step_of (e.cond_of p a b) i = record { one = one_bracketed (e.cond_of p a b) i; ends = λ rest. (refl, refl) }
step_of (e.case_of gs) i = record { one = one_bracketed (e.case_of gs) i; ends = λ rest. (refl, refl) }
step_of (e.case_other gs a) i = record { one = one_bracketed (e.case_other gs a) i; ends = λ rest. (refl, refl) }
step_of (e.let_in ds a) i = record { one = one_bracketed (e.let_in ds a) i; ends = λ rest. (refl, refl) }
step_of (e.quantified q bs p) i = record { one = one_bracketed (e.quantified q bs p) i; ends = λ rest. (refl, refl) }
step_of (e.choose x r p) i = record { one = one_bracketed (e.choose x r p) i; ends = λ rest. (refl, refl) }
step_of (e.tuple ts) i = record { one = one_bracketed (e.tuple ts) i; ends = λ rest. (refl, refl) }
step_of (e.set_of ts) i = record { one = one_bracketed (e.set_of ts) i; ends = λ rest. (refl, refl) }
step_of (e.filter_of x r p) i = record { one = one_bracketed (e.filter_of x r p) i; ends = λ rest. (refl, refl) }
step_of (e.image a x r) i = record { one = one_bracketed (e.image a x r) i; ends = λ rest. (refl, refl) }
step_of (e.fun_of bs a) i = record { one = one_bracketed (e.fun_of bs a) i; ends = λ rest. (refl, refl) }
step_of (e.fun_set a b) i = record { one = one_bracketed (e.fun_set a b) i; ends = λ rest. (refl, refl) }
step_of (e.record_of ds) i = record { one = one_bracketed (e.record_of ds) i; ends = λ rest. (refl, refl) }
step_of (e.record_set ds) i = record { one = one_bracketed (e.record_set ds) i; ends = λ rest. (refl, refl) }
step_of (e.except f us) i = record { one = one_bracketed (e.except f us) i; ends = λ rest. (refl, refl) }
step_of (e.index f ts) i = record { one = one_bracketed (e.index f ts) i; ends = λ rest. (refl, refl) }
step_of (e.field r x) i = record { one = one_bracketed (e.field r x) i; ends = λ rest. (refl, refl) }
step_of (e.call x ts) i = record { one = one_bracketed (e.call x ts) i; ends = λ rest. (refl, refl) }
step_of (e.unchanged xs) i = record { one = one_bracketed (e.unchanged xs) i; ends = λ rest. (refl, refl) }

further_steps : (as' : Trees) → Inners as' → More kind.step (path_pieces as') (tree_list as')
unfolding tree_list
further_steps no_trees no_inner = no_more kind.step
further_steps (more_trees a as') (more_inner i is) =
    let z = step_of a i in
    one_more kind.step [] (index_pieces a) (path_pieces as') a (tree_list as') refl (λ st rest us h. h true) z.ends z.one (further_steps as' is)

row_of_steps : (a : Tree) (as' : Trees) → Inner a → Inners as' → Row kind.step (path_pieces (more_trees a as')) (tree_list (more_trees a as'))
unfolding tree_list
row_of_steps a as' i is = row_of kind.step (index_pieces a) (path_pieces as') a (tree_list as') (step_of a i).one (further_steps as' is)

one_update : (p : Tree) (ps : Trees) (a : Tree) → Inner p → Inners ps → Inner a → One kind.update (update_pieces (more_trees p ps) a) (tree_list (more_trees p ps), a)
one_update p ps a i is j =
    let row = row_of_steps p ps i is in
    let steps = path_pieces (more_trees p ps) in
    let qs : List Piece = written (codes " = ") ∷ operand a ∷ [] in
    record {
      tokens = t.Symbol sign.Bang ∷ (row.tokens ++ (t.Symbol (sign.Infix op.Equal) ∷ j.tokens));
      item = s.update row.items j.spelled;
      begins = λ rest. (refl, refl, refl);
      said = λ st q rest us e d.
          regroup _ _ _ _ (ap (λ z. 33 ∷ z) (sym (ahead_append steps qs rest))) (ap (λ z. t.Symbol sign.Bang ∷ z) (sym (append_assoc row.tokens (t.Symbol (sign.Infix op.Equal) ∷ j.tokens) us)))
          (bang_said (ahead steps (ahead qs rest)) (row.said st false (ahead qs rest) (t.Symbol (sign.Infix op.Equal) ∷ (j.tokens ++ us)) (refl, refl) (equal (j.said st false rest us e d))));
    }

further_updates : (n : ℕ) (us : PathTrees) → InnerPaths us → More kind.update (updates_from (suc n) us) (path_list us)
unfolding path_list
further_updates n no_paths no_update = no_more kind.update
further_updates n (more_paths no_trees a us) h = elim h [ ]
further_updates n (more_paths (more_trees p ps) a us) (more_update i is j more) =
    one_more kind.update (written (codes ", ") ∷ []) (update_pieces (more_trees p ps) a) (updates_from (suc (suc n)) us) (tree_list (more_trees p ps), a) (path_list us) refl (λ st rest us h. comma (h false)) (λ rest. (refl, refl))
    (one_update p ps a i is j) (further_updates (suc n) us more)

pub row_of_updates : (p : Tree) (ps : Trees) (a : Tree) (us : PathTrees) → Inner p → Inners ps → Inner a → InnerPaths us → Row kind.update (updates_from 0 (more_paths (more_trees p ps) a us)) (path_list (more_paths (more_trees p ps) a us))
unfolding path_list
row_of_updates p ps a us i is j more = row_of kind.update (update_pieces (more_trees p ps) a) (updates_from 1 us) (tree_list (more_trees p ps), a) (path_list us) (one_update p ps a i is j) (further_updates 0 us more)
