-- Forms in brackets, indices, fields and applications in canonical text.
use Rattle.std.proofs.Common.{◌+◌, ◌<◌, ℕ, Bool, true, false, List, [], ◌∷◌, ◌++◌, refl, ap, sym, subst, arith}
use Rattle.std.specs.Prelude.{codes}
use Rattle.std.proofs.lemmas.List.{append_assoc}
use Rattle.pgo_base.specs.declared.expr.Infix.TheVariants as op
use Rattle.pgo_base.specs.Lookup.{Name}
use Rattle.pgo_base.specs.Tree.{Tree, Trees, no_trees, more_trees, NamedTrees, more_named, BoundTrees, more_bound, PathTrees, more_paths}
use Rattle.pgo_base.specs.Tree as e
use Rattle.pgo_model.specs.ExprText.{expr_text}
use Rattle.pgo_lexer.specs.declared.symbol.Bracket.TheVariants as bracket
use Rattle.pgo_lexer.specs.declared.token.Token.{Token}
use Rattle.pgo_lexer.specs.declared.token.Token.TheVariants as t
use Rattle.pgo_lexer.specs.declared.symbol.Symbol.TheVariants as y
use Rattle.pgo_lexer.specs.declared.symbol.Bracket.{Bracket}
use Rattle.pgo_expr_read.specs.declared.table.Form.TheVariants as form
use Rattle.pgo_expr_read.specs.declared.read.Ending.TheVariants as ending
use Rattle.pgo_expr_read.specs.Spells.{Spelled, names}
use Rattle.pgo_expr_read.specs.Spells as s
use Rattle.pgo_expr_write.specs.WellFormed.{IsName, AreNames, AreSomeNames}
use Rattle.pgo_expr_write.specs.Pieces.{Piece, written, operand, list_from, names_from, named_from, binders_from, updates_from}
use Rattle.pgo_expr_write.proofs.Lexed.{Lexed}
use Rattle.pgo_expr_write.proofs.FixedWords.{Begins, round_open, round_close, square_open, square_close, angle_open, angle_close, curly_open, curly_close, colon, arrow, maps_to, member, except, unchanged}
use Rattle.pgo_expr_write.proofs.Leaves.{name_said, name_begins}
use Rattle.pgo_expr_write.proofs.Inners.{ahead, ahead_append, regroup, Says, Outer, Inner, Over, still_no_binder}
use Rattle.pgo_expr_write.proofs.ItemRows.{trees_back, named_back, bound_back, paths_back, Inners, InnerNamed, InnerBound, InnerPaths, no_inner, more_inner, further_trees, row_of_trees, names_said, row_of_fields, row_of_binders, row_of_updates, dot_name}

-- ---- tuples and sets

no_tuple_form : Outer (e.tuple no_trees)
no_tuple_form = record {
  outermost = form.Closed;
  last = ending.Closed;
  tokens = t.Symbol (y.Open bracket.Angle) ∷ (t.Symbol (y.Close bracket.Angle) ∷ []);
  spelled = s.no_tuple;
  closed = λ _. (refl, refl, refl);
  begins = λ rest. (refl, refl, refl);
  said = λ st p rest us ends d. angle_open (62 ∷ 62 ∷ rest) (angle_close rest d);
}

some_tuple_form : (a : Tree) (as' : Trees) → Inner a → Inners as' → Outer (e.tuple (more_trees a as'))
some_tuple_form a as' i is =
    let row = row_of_trees a as' i is in
    let ps = list_from (codes ", ") 0 (more_trees a as') in
    let ts : List Token = t.Symbol (y.Open bracket.Angle) ∷ (row.tokens ++ (t.Symbol (y.Close bracket.Angle) ∷ [])) in
    let P : Trees → Type 0 = λ z. Spelled form.Closed ending.Closed ts (e.tuple z) in
    record {
      outermost = form.Closed;
      last = ending.Closed;
      tokens = ts;
      spelled = subst P (trees_back (more_trees a as')) (s.tuple row.items);
      closed = λ _. (refl, refl, refl);
      begins = λ rest. (refl, refl, refl);
      said = λ st p rest us ends d.
          regroup _ _ _ _ (ap (λ z. 60 ∷ (60 ∷ z)) (sym (ahead_append ps (written (codes ">>") ∷ []) rest)))
          (ap (λ z. t.Symbol (y.Open bracket.Angle) ∷ z) (sym (append_assoc row.tokens (t.Symbol (y.Close bracket.Angle) ∷ []) us)))
          (angle_open (ahead ps (62 ∷ 62 ∷ rest)) (row.said _ false (62 ∷ 62 ∷ rest) (t.Symbol (y.Close bracket.Angle) ∷ us) (refl, refl) (angle_close rest d)));
    }

pub tuple_form : (as' : Trees) → Inners as' → Outer (e.tuple as')
tuple_form no_trees no_inner = no_tuple_form
tuple_form (more_trees a as') (more_inner i is) = some_tuple_form a as' i is

no_set_form : Outer (e.set_of no_trees)
no_set_form = record {
  outermost = form.Closed;
  last = ending.Closed;
  tokens = t.Symbol (y.Open bracket.Curly) ∷ (t.Symbol (y.Close bracket.Curly) ∷ []);
  spelled = s.no_set;
  closed = λ _. (refl, refl, refl);
  begins = λ rest. (refl, refl, refl);
  said = λ st p rest us ends d. curly_open (125 ∷ rest) (curly_close rest d);
}

some_set_form : (a : Tree) (as' : Trees) → Inner a → Inners as' → Outer (e.set_of (more_trees a as'))
some_set_form a as' i is =
    let more = further_trees 0 as' is in
    let ps = list_from (codes ", ") 1 as' in
    let ts : List Token = t.Symbol (y.Open bracket.Curly) ∷ (i.tokens ++ (more.tokens ++ (t.Symbol (y.Close bracket.Curly) ∷ []))) in
    let P : Trees → Type 0 = λ z. Spelled form.Closed ending.Closed ts (e.set_of (more_trees a z)) in
    record {
      outermost = form.Closed;
      last = ending.Closed;
      tokens = ts;
      spelled = subst P (trees_back as') (s.set i.no_binder i.spelled more.behind);
      closed = λ _. (refl, refl, refl);
      begins = λ rest. (refl, refl, refl);
      said = λ st p rest us ends d.
          regroup _ _ _ _ (ap (λ z. 123 ∷ (expr_text false a ++ z)) (sym (ahead_append ps (written (codes "}") ∷ []) rest)))
          (simp append_assoc)
          (curly_open (expr_text false a ++ ahead ps (125 ∷ rest)) (i.said _ false (ahead ps (125 ∷ rest)) (more.tokens ++ (t.Symbol (y.Close bracket.Curly) ∷ us)) (more.ends (125 ∷ rest) (refl, refl))
          (more.said _ (125 ∷ rest) (t.Symbol (y.Close bracket.Curly) ∷ us) (refl, refl) (curly_close rest d))));
    }

pub set_form : (as' : Trees) → Inners as' → Outer (e.set_of as')
set_form no_trees no_inner = no_set_form
set_form (more_trees a as') (more_inner i is) = some_set_form a as' i is

pub filter_form : (x : Name) (r c : Tree) → IsName x → Over r → Inner c → Outer (e.filter_of x r c)
filter_form x r c h o k = record {
  outermost = form.Closed;
  last = ending.Closed;
  tokens = t.Symbol (y.Open bracket.Curly) ∷ (t.Name x ∷ (t.Symbol (y.Infix op.In) ∷ (o.tokens ++ (t.Symbol y.Colon ∷ (k.tokens ++ (t.Symbol (y.Close bracket.Curly) ∷ []))))));
  spelled = s.filter o.range k.spelled;
  closed = λ _. (refl, refl, refl);
  begins = λ rest. (refl, refl, refl);
  said = λ st p rest us ends d.
      regroup _ _ _ _ refl (simp append_assoc)
      (curly_open _ (name_said x _ h (refl, refl) (member (o.said _ false _ (t.Symbol y.Colon ∷ (k.tokens ++ (t.Symbol (y.Close bracket.Curly) ∷ us))) (refl, refl)
      (colon (k.said _ false (125 ∷ rest) (t.Symbol (y.Close bracket.Curly) ∷ us) (refl, refl) (curly_close rest d)))))));
}

pub image_form : (c : Tree) (x : Name) (r : Tree) → Inner c → IsName x → Over r → Outer (e.image c x r)
image_form c x r k h o = record {
  outermost = form.Closed;
  last = ending.Closed;
  tokens = t.Symbol (y.Open bracket.Curly) ∷ (k.tokens ++ (t.Symbol y.Colon ∷ (t.Name x ∷ (t.Symbol (y.Infix op.In) ∷ (o.tokens ++ (t.Symbol (y.Close bracket.Curly) ∷ []))))));
  spelled = s.image k.no_binder k.spelled o.range;
  closed = λ _. (refl, refl, refl);
  begins = λ rest. (refl, refl, refl);
  said = λ st p rest us ends d.
      regroup _ _ _ _ refl (simp append_assoc)
      (curly_open _ (k.said _ false _ (t.Symbol y.Colon ∷ (t.Name x ∷ (t.Symbol (y.Infix op.In) ∷ (o.tokens ++ (t.Symbol (y.Close bracket.Curly) ∷ us))))) (refl, refl)
      (colon (name_said x _ h (refl, refl) (member (o.said _ false (125 ∷ rest) (t.Symbol (y.Close bracket.Curly) ∷ us) (refl, refl) (curly_close rest d)))))));
}

-- ---- functions and records

pub fun_form : (xs : List Name) (r : Tree) (bs : BoundTrees) (c : Tree) → AreSomeNames xs → Over r → InnerBound bs → Inner c → Outer (e.fun_of (more_bound xs r bs) c)
fun_form xs r bs c h o is k =
    let row = row_of_binders xs r bs h o is in
    let ps = binders_from 0 (more_bound xs r bs) in
    let qs : List Piece = written (codes " |-> ") ∷ operand c ∷ written (codes "]") ∷ [] in
    let ts : List Token = t.Symbol (y.Open bracket.Square) ∷ (row.tokens ++ (t.Symbol y.MapsTo ∷ (k.tokens ++ (t.Symbol (y.Close bracket.Square) ∷ [])))) in
    let P : BoundTrees → Type 0 = λ z. Spelled form.Closed ending.Closed ts (e.fun_of z c) in
    record {
      outermost = form.Closed;
      last = ending.Closed;
      tokens = ts;
      spelled = subst P (bound_back (more_bound xs r bs)) (s.fun_of row.items k.spelled);
      closed = λ _. (refl, refl, refl);
      begins = λ rest. (refl, refl, refl);
      said = λ st p rest us ends d.
          regroup _ _ _ _ (ap (λ z. 91 ∷ z) (sym (ahead_append ps qs rest))) (simp append_assoc)
          (square_open (ahead ps (ahead qs rest)) (row.begins (ahead qs rest)) (row.said _ false (ahead qs rest) (t.Symbol y.MapsTo ∷ (k.tokens ++ (t.Symbol (y.Close bracket.Square) ∷ us))) (refl, refl)
          (maps_to (k.said _ false (93 ∷ rest) (t.Symbol (y.Close bracket.Square) ∷ us) (refl, refl) (square_close rest d)))));
    }

pub fun_set_form : (a c : Tree) → Inner a → Inner c → Outer (e.fun_set a c)
fun_set_form a c i k = record {
  outermost = form.Closed;
  last = ending.Closed;
  tokens = t.Symbol (y.Open bracket.Square) ∷ (i.tokens ++ (t.Symbol y.Arrow ∷ (k.tokens ++ (t.Symbol (y.Close bracket.Square) ∷ []))));
  spelled = s.fun_set i.no_binder i.spelled k.spelled;
  closed = λ _. (refl, refl, refl);
  begins = λ rest. (refl, refl, refl);
  said = λ st p rest us ends d.
      regroup _ _ _ _ refl (simp append_assoc)
      (square_open _ (i.begins _) (i.said _ false _ (t.Symbol y.Arrow ∷ (k.tokens ++ (t.Symbol (y.Close bracket.Square) ∷ us))) (refl, refl)
      (arrow (k.said _ false (93 ∷ rest) (t.Symbol (y.Close bracket.Square) ∷ us) (refl, refl) (square_close rest d)))));
}

maps_to_said : (st : List Bracket) (rest : List ℕ) (us : List Token) → Lexed st false rest us → Lexed st true (codes " |-> " ++ rest) (t.Symbol y.MapsTo ∷ us)
maps_to_said st rest us d = maps_to d

colon_said : (st : List Bracket) (rest : List ℕ) (us : List Token) → Lexed st false rest us → Lexed st true (codes " : " ++ rest) (t.Symbol y.Colon ∷ us)
colon_said st rest us d = colon d

module _ (ps : List Piece) (row_tokens : List Token) (begins : (rest : List ℕ) → Begins (ahead ps rest)) (said : Says (ahead ps) row_tokens) where
  in_square : (st : List Bracket) (p : Bool) (rest : List ℕ) (us : List Token) → Lexed st true rest us → Lexed st p (91 ∷ ahead (ps ++ (written (codes "]") ∷ [])) rest) ((t.Symbol (y.Open bracket.Square) ∷ (row_tokens ++ (t.Symbol (y.Close bracket.Square) ∷ []))) ++ us)
  in_square st p rest us d =
      regroup _ _ _ _ (ap (λ z. 91 ∷ z) (sym (ahead_append ps (written (codes "]") ∷ []) rest))) (ap (λ z. t.Symbol (y.Open bracket.Square) ∷ z) (sym (append_assoc row_tokens (t.Symbol (y.Close bracket.Square) ∷ []) us)))
      (square_open (ahead ps (93 ∷ rest)) (begins (93 ∷ rest)) (said _ false (93 ∷ rest) (t.Symbol (y.Close bracket.Square) ∷ us) (refl, refl) (square_close rest d)))

pub record_form : (x : Name) (a : Tree) (ds : NamedTrees) → IsName x → Inner a → InnerNamed ds → Outer (e.record_of (more_named x a ds))
record_form x a ds h i is =
    let row = row_of_fields y.MapsTo (codes " |-> ") maps_to_said (λ rest. (refl, refl)) x a ds h i is in
    let ts : List Token = t.Symbol (y.Open bracket.Square) ∷ (row.tokens ++ (t.Symbol (y.Close bracket.Square) ∷ [])) in
    let P : NamedTrees → Type 0 = λ z. Spelled form.Closed ending.Closed ts (e.record_of z) in
    record {
      outermost = form.Closed;
      last = ending.Closed;
      tokens = ts;
      spelled = subst P (named_back (more_named x a ds)) (s.record_of row.items);
      closed = λ _. (refl, refl, refl);
      begins = λ rest. (refl, refl, refl);
      said = λ st p rest us ends d. in_square (named_from (codes " |-> ") (codes ", ") 0 (more_named x a ds)) row.tokens row.begins row.said st p rest us d;
    }

pub record_set_form : (x : Name) (a : Tree) (ds : NamedTrees) → IsName x → Inner a → InnerNamed ds → Outer (e.record_set (more_named x a ds))
record_set_form x a ds h i is =
    let row = row_of_fields y.Colon (codes " : ") colon_said (λ rest. (refl, refl)) x a ds h i is in
    let ts : List Token = t.Symbol (y.Open bracket.Square) ∷ (row.tokens ++ (t.Symbol (y.Close bracket.Square) ∷ [])) in
    let P : NamedTrees → Type 0 = λ z. Spelled form.Closed ending.Closed ts (e.record_set z) in
    record {
      outermost = form.Closed;
      last = ending.Closed;
      tokens = ts;
      spelled = subst P (named_back (more_named x a ds)) (s.record_set row.items);
      closed = λ _. (refl, refl, refl);
      begins = λ rest. (refl, refl, refl);
      said = λ st p rest us ends d. in_square (named_from (codes " : ") (codes ", ") 0 (more_named x a ds)) row.tokens row.begins row.said st p rest us d;
    }

pub except_form : (f : Tree) (q : Tree) (ps : Trees) (a : Tree) (us : PathTrees) → Inner f → Inner q → Inners ps → Inner a → InnerPaths us → Outer (e.except f (more_paths (more_trees q ps) a us))
except_form f q ps a vs k i is j more =
    let row = row_of_updates q ps a vs i is j more in
    let us' = more_paths (more_trees q ps) a vs in
    let ts : List Token = t.Symbol (y.Open bracket.Square) ∷ (k.tokens ++ (t.Symbol y.Except ∷ (row.tokens ++ (t.Symbol (y.Close bracket.Square) ∷ [])))) in
    let P : PathTrees → Type 0 = λ z. Spelled form.Closed ending.Closed ts (e.except f z) in
    record {
      outermost = form.Closed;
      last = ending.Closed;
      tokens = ts;
      spelled = subst P (paths_back us') (s.except k.no_binder k.spelled row.items);
      closed = λ _. (refl, refl, refl);
      begins = λ rest. (refl, refl, refl);
      said = λ st p rest us ends d.
          regroup _ _ _ _ (ap (λ z. 91 ∷ (expr_text false f ++ (codes " EXCEPT " ++ z))) (sym (ahead_append (updates_from 0 us') (written (codes "]") ∷ []) rest))) (simp append_assoc)
          (square_open _ (k.begins _) (k.said _ false _ (t.Symbol y.Except ∷ (row.tokens ++ (t.Symbol (y.Close bracket.Square) ∷ us))) (refl, refl)
          (except (row.said _ false (93 ∷ rest) (t.Symbol (y.Close bracket.Square) ∷ us) (refl, refl) (square_close rest d)))));
    }

-- ---- indices, fields, applications, UNCHANGED

pub index_form : (f a : Tree) (as' : Trees) → Inner f → Inner a → Inners as' → Outer (e.index f (more_trees a as'))
index_form f a as' k i is =
    let row = row_of_trees a as' i is in
    let ps = list_from (codes ", ") 0 (more_trees a as') in
    let ts : List Token = k.tokens ++ (t.Symbol (y.Open bracket.Square) ∷ (row.tokens ++ (t.Symbol (y.Close bracket.Square) ∷ []))) in
    let P : Trees → Type 0 = λ z. Spelled form.Closed ending.Closed ts (e.index f z) in
    record {
      outermost = form.Closed;
      last = ending.Closed;
      tokens = ts;
      spelled = subst P (trees_back (more_trees a as')) (s.index (omega arith) k.spelled row.items);
      closed = λ _. (refl, refl, still_no_binder k.tokens (t.Symbol (y.Open bracket.Square)) _ refl refl k.no_binder);
      begins = λ rest. k.begins _;
      said = λ st p rest us ends d.
          regroup _ _ _ _ refl (sym (append_assoc k.tokens (t.Symbol (y.Open bracket.Square) ∷ (row.tokens ++ (t.Symbol (y.Close bracket.Square) ∷ []))) us))
          (k.said st p _ ((t.Symbol (y.Open bracket.Square) ∷ (row.tokens ++ (t.Symbol (y.Close bracket.Square) ∷ []))) ++ us) (refl, refl) (in_square ps row.tokens row.begins row.said st true rest us d));
    }

pub field_form : (r : Tree) (x : Name) → Inner r → IsName x → Outer (e.field r x)
field_form r x k h = record {
  outermost = form.Closed;
  last = ending.Closed;
  tokens = k.tokens ++ (t.Symbol y.Dot ∷ (t.Name x ∷ []));
  spelled = s.select (omega arith) k.spelled;
  closed = λ _. (refl, refl, still_no_binder k.tokens (t.Symbol y.Dot) _ refl refl k.no_binder);
  begins = λ rest. k.begins _;
  said = λ st p rest us ends d.
      regroup _ _ _ _ refl (sym (append_assoc k.tokens (t.Symbol y.Dot ∷ (t.Name x ∷ [])) us))
      (k.said st p (46 ∷ (x ++ rest)) (t.Symbol y.Dot ∷ (t.Name x ∷ us)) (refl, refl) (dot_name x rest h ends d));
}

pub call_form : (x : Name) (a : Tree) (as' : Trees) → IsName x → Inner a → Inners as' → Outer (e.call x (more_trees a as'))
call_form x a as' h i is =
    let row = row_of_trees a as' i is in
    let ps = list_from (codes ", ") 0 (more_trees a as') in
    let ts : List Token = t.Name x ∷ (t.Symbol (y.Open bracket.Round) ∷ (row.tokens ++ (t.Symbol (y.Close bracket.Round) ∷ []))) in
    let P : Trees → Type 0 = λ z. Spelled form.Closed ending.Closed ts (e.call x z) in
    record {
      outermost = form.Closed;
      last = ending.Closed;
      tokens = ts;
      spelled = subst P (trees_back (more_trees a as')) (s.call row.items);
      closed = λ _. (refl, refl, refl);
      begins = λ rest. name_begins x _ h;
      said = λ st p rest us ends d.
          regroup _ _ _ _ (ap (λ z. x ++ (40 ∷ z)) (sym (ahead_append ps (written (codes ")") ∷ []) rest)))
          (ap (λ z. t.Name x ∷ (t.Symbol (y.Open bracket.Round) ∷ z)) (sym (append_assoc row.tokens (t.Symbol (y.Close bracket.Round) ∷ []) us)))
          (name_said x _ h (refl, refl) (round_open (ahead ps (41 ∷ rest)) (row.begins (41 ∷ rest)) (row.said _ false (41 ∷ rest) (t.Symbol (y.Close bracket.Round) ∷ us) (refl, refl) (round_close rest d))));
    }

pub unchanged_form : (x : Name) (xs : List Name) → IsName x → AreNames xs → Outer (e.unchanged (x ∷ xs))
unchanged_form x xs h hs =
    let ps = names_from 0 (x ∷ xs) in
    record {
      outermost = form.Closed;
      last = ending.Closed;
      tokens = t.Symbol y.Unchanged ∷ (t.Symbol (y.Open bracket.Angle) ∷ (names x xs ++ (t.Symbol (y.Close bracket.Angle) ∷ [])));
      spelled = s.unchanged;
      closed = λ _. (refl, refl, refl);
      begins = λ rest. (refl, refl, refl);
      said = λ st p rest us ends d.
          regroup _ _ _ _ (ap (λ z. codes "UNCHANGED <<" ++ z) (sym (ahead_append ps (written (codes ">>") ∷ []) rest)))
          (ap (λ z. t.Symbol y.Unchanged ∷ (t.Symbol (y.Open bracket.Angle) ∷ z)) (sym (append_assoc (names x xs) (t.Symbol (y.Close bracket.Angle) ∷ []) us)))
          (unchanged (angle_open (ahead ps (62 ∷ 62 ∷ rest)) (names_said x xs h hs _ false (62 ∷ 62 ∷ rest) (t.Symbol (y.Close bracket.Angle) ∷ us) (refl, refl) (angle_close rest d))));
    }
