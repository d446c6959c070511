-- What may not stand in an argument is noted once under each name that stands there; what is found in arguments, one after
-- another.
use Rattle.std.proofs.Common.{◌≡◌, Bool, true, false, not, ◌&&◌, ◌||◌, List, [], ◌∷◌, ◌++◌, map, drop, zero, suc, ℕ, ◌+◌, ◌<◌, ◌≤◌, length, get_or, cond, refl, ap, sym, ◌∙◌, arith, append_assoc, append-nil, Bor}
use Rattle.std.specs.Prelude.{Option, Some, None, slice_get, unwrap_or}
use Rattle.std.specs.BTreeSet.{BTreeSet}
use Rattle.std.proofs.lemmas.List.{drop_more, drop_all}
use Rattle.std.specs.Global.{Vec}
use Rattle.pgo_base.specs.declared.expr.Expr.{Expr}
use Rattle.pgo_base.specs.ExprView.{tree}
use Rattle.pgo_base.specs.Tree.{Tree}
use Rattle.pgo_base.specs.Lookup.{Name, same_name}
use Rattle.pgo_base.specs.NameMaps.{found}
use Rattle.pgo_model.specs.Names.{same_name-is}
use Rattle.pgo_uses.specs.declared.uses.Around.{Around}
use Rattle.pgo_uses.specs.declared.uses.Use.{Use}
use Rattle.pgo_uses.specs.Names.{Rows, has_row}
use Rattle.pgo_scope.specs.declared.binders.Binders.{Binders}
use Rattle.pgo_scope.specs.declared.finding.Finding.{Finding}
use Rattle.pgo_scope.specs.declared.handed.HandedOn.{HandedOn}
use Rattle.pgo_scope.specs.Binders.{some_binds, some_set_binds, some_set_of, is_handed, is_captured, or_if}
use Rattle.pgo_scope.specs.Twice.{CaptureTable, stands_of, stands_in, binds_of, is_bound_in, some_capture, forbidden_for_each, captured_at, captured_in}
use Rattle.pgo_scope.proofs.Gathering.{or_assoc}

pub or_back : (b c : Bool) → b || c ≡ c || b
or_back true true = refl
or_back true false = refl
or_back false true = refl
or_back false false = refl

-- one set more
pub set_added : (c : Bool) (b : Binders) (ss : List (Bor (BTreeSet ℕ))) (s : Bor (BTreeSet ℕ)) (x : Name) → some_set_binds c b (ss ++ s ∷ []) x ≡ some_binds b s.now x || some_set_binds c b ss x
set_added c b [] s x = refl
set_added c b (t ∷ ss) s x = set_added (some_binds b t.now x || c) b ss s x

-- what is found behind c is what is found behind none, and c
set_behind : (c d : Bool) (b : Binders) (ss : List (Bor (BTreeSet ℕ))) (x : Name) → some_set_binds (c || d) b ss x ≡ some_set_binds c b ss x || d
set_behind c d b [] x = refl
set_behind c d b (s ∷ ss) x = ap (λ e. some_set_binds e b ss x) (sym (or_assoc (some_binds b s.now x) c d)) ∙ set_behind (some_binds b s.now x || c) d b ss x

set_after : (c : Bool) (b : Binders) (o : Option (Vec (Bor (BTreeSet ℕ)))) (x : Name) → some_set_of c b o x ≡ some_set_of false b o x || c
set_after c b None x = refl
set_after c b (Some ss) x = set_behind false c b ss.items x

-- what is found under p, once what the name n had and one set more are put there
pub noted : (b : Binders) (old : Name → Bool) (n p x : Name) (v : Bool) (made : Option (Vec (Bor (BTreeSet ℕ)))) (list : Vec (Bor (BTreeSet ℕ))) (rest : Option (Vec (Bor (BTreeSet ℕ)))) → made ≡ cond (same_name p n) (Some list) rest → some_set_binds false b list.items x ≡ v || old n → (same_name p n ≡ false → some_set_of false b rest x ≡ old p) → some_set_of false b made x ≡ or_if (same_name p n) v (old p)
noted b old n p x v made list rest e h k = ap (λ o. some_set_of false b o x) e ∙ go (same_name p n) refl
  where
    go : (c : Bool) → same_name p n ≡ c → some_set_of false b (cond c (Some list) rest) x ≡ or_if c v (old p)
    go true q = h ∙ ap (λ y. v || old y) (sym (same_name-is p n q))
    go false q = k q

-- what was noted, or nothing
pub taken : (b : Binders) (o : Option (Vec (Bor (BTreeSet ℕ)))) (none : Vec (Bor (BTreeSet ℕ))) (x : Name) → none.items ≡ [] → some_set_binds false b (unwrap_or o none).items x ≡ some_set_of false b o x
taken b None none x e = ap (λ ss. some_set_binds false b ss x) e
taken b (Some ss) none x e = refl

-- a name that is among these isn't new
pub not_new : (n : Name) (seen : Rows) (p : Name) → has_row n seen ≡ true → same_name p n && not (has_row p seen) ≡ false
not_new n seen p h = go (same_name p n) refl
  where
    go : (b : Bool) → same_name p n ≡ b → b && not (has_row p seen) ≡ false
    go true e = ap not (ap (λ y. has_row y seen) (same_name-is p n e) ∙ h)
    go false e = refl

pub still_new : (n : Name) (seen : Rows) (p : Name) → has_row n seen ≡ false → same_name p n && not (has_row p seen) ≡ same_name p n
still_new n seen p h = go (same_name p n) refl
  where
    go : (b : Bool) → same_name p n ≡ b → b && not (has_row p seen) ≡ b
    go true e = ap not (ap (λ y. has_row y seen) (same_name-is p n e) ∙ h)
    go false e = refl

-- b, or where p stands among these and hasn't been seen before v
abbrev pub handed_from : Bool → Bool → Bool → Name → List Use → Bool
handed_from seen b v p [] = b
handed_from seen b v p (u ∷ us) =
    handed_from (stands_of p u u.form || seen) (or_if (stands_of p u u.form && not seen) v b) v p us

handed_seen : (b v : Bool) (p : Name) (us : List Use) → handed_from true b v p us ≡ b
handed_seen b v p [] = refl
handed_seen b v p (u ∷ us) = go (stands_of p u u.form) (handed_seen b v p us)
  where
    go : (c : Bool) → handed_from true b v p us ≡ b → handed_from (c || true) (or_if (c && false) v b) v p us ≡ b
    go true h = h
    go false h = h

pub handed_is : (b v : Bool) (p : Name) (us : List Use) → handed_from false b v p us ≡ or_if (stands_in p us) v b
handed_is b v p [] = refl
handed_is b v p (u ∷ us) = go (stands_of p u u.form) (handed_seen (v || b) v p us) (handed_is b v p us)
  where
    go : (c : Bool) → handed_from true (v || b) v p us ≡ v || b → handed_from false b v p us ≡ or_if (stands_in p us) v b → handed_from (c || false) (or_if (c && true) v b) v p us ≡ or_if (c || stands_in p us) v b
    go true h k = h
    go false h k = k

bound_behind : (b c : Bool) (us : List Use) (x : Name) → is_bound_in (b || c) us x ≡ is_bound_in b us x || c
bound_behind b c [] x = refl
bound_behind b c (u ∷ us) x =
    ap (λ d. is_bound_in d us x) (sym (or_assoc (binds_of x u u.form) b c)) ∙ bound_behind (binds_of x u u.form || b) c us x

-- what is bound, before what may not stand there else
bound_after : (c : Bool) (us : List Use) (x : Name) → c || is_bound_in false us x ≡ is_bound_in c us x
bound_after c us x = or_back c (is_bound_in false us x) ∙ sym (bound_behind false c us x)

parts : (o s b n : Bool) → (o || (s && n)) || (b && n) ≡ o || ((b || s) && n)
parts true s b n = refl
parts false false true n = refl
parts false false false n = refl
parts false true true true = refl
parts false true true false = refl
parts false true false true = refl
parts false true false false = refl

bound_first : (u : Use) (us : List Use) (x : Name) → is_bound_in false us x || binds_of x u u.form ≡ is_bound_in false (u ∷ us) x
bound_first u us x = sym (ap (λ d. is_bound_in d us x) (or_back (binds_of x u u.form) false) ∙ bound_behind false (binds_of x u u.form) us x)

-- what is bound so far and by those that are left, once what the next binds is added
pub bound_more : (us : List Use) (i : ℕ) (u : Use) (x : Name) (n old new all : Bool) → i < length us → u ≡ get_or us i u → new ≡ old || (binds_of x u u.form && n) → old || (is_bound_in false (drop i us) x && n) ≡ all → new || (is_bound_in false (drop (i + 1) us) x && n) ≡ all
bound_more us i u x n old new all low at h k =
    let rest = drop (i + 1) us in
    let left : drop i us ≡ u ∷ rest = drop_more us i u low ∙ ap (λ d. d ∷ rest) (sym at) in
    ap (λ b. b || (is_bound_in false rest x && n)) h ∙ parts old (binds_of x u u.form) (is_bound_in false rest x) n
    ∙ ap (λ b. old || (b && n)) (bound_first u rest x ∙ ap (λ l. is_bound_in false l x) (sym left)) ∙ k

-- what is there only under a condition
pub under : (b c : Bool) → (b ≡ false → c ≡ false) → b && c ≡ c
under true c h = refl
under false c h = sym (h refl)

-- what may not stand in the argument for each parameter
pub parameters_are : (table : CaptureTable) (us : List Use) (b : Binders) (k : HandedOn) (own : BTreeSet ℕ) → ((x : Name) → some_binds b own x ≡ is_bound_in false us x) → ((p : Name) (x : Name) → is_handed b k p x ≡ some_capture false table p us x) → (ps : List Name) → map (is_captured b k own) ps ≡ forbidden_for_each table us ps
parameters_are table us b k own bound h [] = refl
parameters_are table us b k own bound h (p ∷ ps) =
    let now : (x : Name) → is_captured b k own p x ≡ is_bound_in (some_capture false table p us x) us x =
    λ x. set_after (some_binds b own x) b (found k.map p) x ∙ ap (λ c. c || some_binds b own x) (h p x) ∙ ap (λ c. some_capture false table p us x || c) (bound x) ∙ bound_after (some_capture false table p us x) us x in
    λ i. (λ x. now x i) ∷ parameters_are table us b k own bound h ps i

module _ (see : BTreeSet ℕ → Name → Bool) (own : BTreeSet ℕ) where
  -- what may not stand in one of the arguments, and in those behind it
  turn : (hs : List (BTreeSet ℕ)) (i : ℕ) (a : Around) (t : Tree) (ts : List Tree) → captured_in (map see (drop i hs)) (see own) a (t ∷ ts) ≡ captured_at (see (unwrap_or (slice_get hs i) own)) a t ++ captured_in (map see (drop (suc i) hs)) (see own) a ts
  turn [] zero a t ts = refl
  turn [] (suc i) a t ts = refl
  turn (h ∷ hs) zero a t ts = refl
  turn (h ∷ hs) (suc i) a t ts = turn hs i a t ts

  captured_turn : (hs : List (BTreeSet ℕ)) (i : ℕ) (a : Around) (t : Tree) (ts : List Tree) → captured_in (map see (drop i hs)) (see own) a (t ∷ ts) ≡ captured_at (see (unwrap_or (slice_get hs i) own)) a t ++ captured_in (map see (drop (i + 1) hs)) (see own) a ts
  captured_turn hs i a t ts =
      let next : suc i ≡ i + 1 = omega arith in
      turn hs i a t ts ∙ ap (λ n. captured_at (see (unwrap_or (slice_get hs i) own)) a t ++ captured_in (map see (drop n hs)) (see own) a ts) next

  -- what is found so far and in the arguments that are left, once what is found in the next is added
  pub captured_more : (hs : List (BTreeSet ℕ)) (a : Around) (es : List Expr) (i : ℕ) (e : Expr) (out new all : List Finding) → i < length es → e ≡ get_or es i e → new ≡ out ++ captured_at (see (unwrap_or (slice_get hs i) own)) a (tree e) → out ++ captured_in (map see (drop i hs)) (see own) a (map tree (drop i es)) ≡ all → new ++ captured_in (map see (drop (i + 1) hs)) (see own) a (map tree (drop (i + 1) es)) ≡ all
  captured_more hs a es i e out new all low at h k =
      let f = captured_at (see (unwrap_or (slice_get hs i) own)) a (tree e) in
      let rest = captured_in (map see (drop (i + 1) hs)) (see own) a (map tree (drop (i + 1) es)) in
      let left : drop i es ≡ e ∷ drop (i + 1) es = drop_more es i e low ∙ ap (λ d. d ∷ drop (i + 1) es) (sym at) in
      let here : captured_in (map see (drop i hs)) (see own) a (map tree (drop i es)) ≡ f ++ rest = ap (λ l. captured_in (map see (drop i hs)) (see own) a (map tree l)) left ∙ captured_turn hs i a (tree e) (map tree (drop (i + 1) es)) in
      ap (λ l. l ++ rest) h ∙ append_assoc out f rest ∙ ap (λ l. out ++ l) (sym here) ∙ k

no_argument : (fs : List (Name → Bool)) (g : Name → Bool) (a : Around) → captured_in fs g a [] ≡ []
no_argument [] g a = refl
no_argument (f ∷ fs) g a = refl

-- behind the last argument nothing is found
pub captured_last : (fs : List (Name → Bool)) (g : Name → Bool) (a : Around) (es : List Expr) (i : ℕ) (out all : List Finding) → length es ≤ i → out ++ captured_in fs g a (map tree (drop i es)) ≡ all → out ≡ all
captured_last fs g a es i out all low k =
    sym (append-nil out) ∙ ap (λ l. out ++ l) (sym (ap (λ l. captured_in fs g a (map tree l)) (drop_all i es low) ∙ no_argument fs g a)) ∙ k
