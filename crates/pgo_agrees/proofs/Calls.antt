-- The parameters of a macro with the arguments of a call, and the ways in which a name stands among uses.
use Rattle.std.proofs.Common.{◌≡◌, Bool, true, false, ◌||◌, if◌then◌else◌, List, [], ◌∷◌, length, Some, None, refl, ap, sym, ◌∙◌, subst, inl, inr, arith}
use Rattle.std.specs.Prelude.{◌⊎◌}
use Rattle.std.specs.List.{AllByRecursion}
use Rattle.pgo_base.specs.Lookup.{Name, same_name, find}
use Rattle.pgo_base.specs.Tree.{Tree}
use Rattle.pgo_model.specs.Names.{same_name-self, same_name-is, is_among}
use Rattle.pgo_syntax.specs.declared.spec.Spec.{Spec}
use Rattle.pgo_uses.specs.StatementUses.{argument_uses}
use Rattle.pgo_uses.specs.Uses.{inside, uses}
use Rattle.pgo_uses.specs.declared.uses.Around.{Around}
use Rattle.pgo_uses.specs.declared.uses.Form.TheVariants as forms
use Rattle.pgo_uses.specs.declared.uses.Shape.{Shape}
use Rattle.pgo_uses.specs.declared.uses.Shape.TheVariants.{Bare, OneIndex, Further}
use Rattle.pgo_uses.specs.declared.uses.Use.{Use}
use Rattle.pgo_scope.specs.Assigned.{assigned_if, assigned_arguments}
use Rattle.pgo_scope.specs.Mapped.{argument_findings, arguments_findings}
use Rattle.pgo_scope.specs.Usage.{MacroTable, join, left_base, left_shape, left_uses, no_usage, either_usage, read_usage, write_usage, usage_if, read_of, reads_from, reads, reads_at, base_usage, writes_at, passed_usage, call_usage_from, usage_by, usage_from, usage_in, each_parameter}
use Rattle.pgo_scope.specs.declared.usage.Usage.{Usage}
use Rattle.pgo_bound.specs.Among.{IsAmong, none_left, none_right}
use Rattle.pgo_meaning.specs.MacrosPlaced.{handed}
use Rattle.pgo_agrees.specs.Spoken.{Spoken, ArgumentsSpoken}
use Rattle.pgo_agrees.proofs.Hoist.{never}
use Rattle.pgo_agrees.proofs.Placing.{reads_so, writes_so}
use Rattle.pgo_agrees.proofs.Stands.{or_first, or_second}
use Rattle.pgo_agrees.proofs.EachToken.{cut}

-- ---- parameters and arguments side by side

abbrev pub rows : (Name → Usage) → List Name → List (Name × Usage)
rows w [] = []
rows w (x ∷ xs) = (x, w x) ∷ rows w xs

pub each_rows : (known : MacroTable) (us : List Use) (xs : List Name) → each_parameter known us xs ≡ rows (λ x. usage_in known x us) xs
each_rows known us [] = refl
each_rows known us (x ∷ xs) = ap (λ rs. (x, usage_in known x us) ∷ rs) (each_rows known us xs)

abbrev pub InPairs : Name × Usage → Tree → List (Name × Usage) → List Tree → Type 0
InPairs p u [] ts = ⊥
InPairs p u (q ∷ qs) [] = ⊥
InPairs p u (q ∷ qs) (t ∷ ts) = ((p ≡ q) × (u ≡ t)) ⊎ InPairs p u qs ts

pub pair_of : (w : Name → Usage) (x : Name) (xs : List Name) (ts : List Tree) → length xs ≡ length ts → is_among x xs ≡ true → (t : Tree) × (find x (handed xs ts) ≡ Some t) × InPairs (x, w x) t (rows w xs) ts
pair_of w x [] ts e h = never h
pair_of w x (y ∷ ys) [] e h = absurd (omega (arith, e))
pair_of w x (y ∷ ys) (t ∷ ts) e h = go (same_name x y) refl h (pair_of w x ys ts (omega (arith, e)))
  where
    go : (b : Bool) → same_name x y ≡ b → (b || is_among x ys) ≡ true → (is_among x ys ≡ true → (u : Tree) × (find x (handed ys ts) ≡ Some u) × InPairs (x, w x) u (rows w ys) ts)
        → (u : Tree) × ((if b then Some t else find x (handed ys ts)) ≡ Some u) × InPairs (x, w x) u (rows w (y ∷ ys)) (t ∷ ts)
    go true f g more = let s = same_name-is x y f in (t, refl, inl (ap (λ z. (z, w z)) s, refl))
    go false f g more = let r = more g in (r.0, r.1, inr r.2)

pub not_handed : (x : Name) (xs : List Name) (ts : List Tree) → is_among x xs ≡ false → find x (handed xs ts) ≡ None
not_handed x [] ts h = refl
not_handed x (y ∷ ys) [] h = refl
not_handed x (y ∷ ys) (t ∷ ts) h = go (same_name x y) h (not_handed x ys ts)
  where
    go : (b : Bool) → (b || is_among x ys) ≡ false → (is_among x ys ≡ false → find x (handed ys ts) ≡ None) → (if b then Some t else find x (handed ys ts)) ≡ None
    go true f more = absurd (cc)
    go false f more = more f

pub assigned_at : (s : Spec) (u : Use) (p : Name × Usage) (t : Tree) (qs : List (Name × Usage)) (ts : List Tree) → InPairs p t qs ts → assigned_arguments s u qs ts ≡ [] → assigned_if s u p.0 p.1 t ≡ []
assigned_at s u p t [] ts h e = absurd h
assigned_at s u p t (q ∷ qs) [] h e = absurd h
assigned_at s u p t (q ∷ qs) (v ∷ ts) (inl g) e =
    (λ i. assigned_if s u (g.0 i).0 (g.0 i).1 (g.1 i)) ∙ none_left (assigned_if s u q.0 q.1 v) (assigned_arguments s u qs ts) e
assigned_at s u p t (q ∷ qs) (v ∷ ts) (inr g) e = assigned_at s u p t qs ts g (none_right (assigned_if s u q.0 q.1 v) (assigned_arguments s u qs ts) e)

pub mapped_at : (s : Spec) (a : Around) (p : Name × Usage) (t : Tree) (qs : List (Name × Usage)) (ts : List Tree) → InPairs p t qs ts → arguments_findings s a qs ts ≡ [] → argument_findings s a p.1 t ≡ []
mapped_at s a p t [] ts h e = absurd h
mapped_at s a p t (q ∷ qs) [] h e = absurd h
mapped_at s a p t (q ∷ qs) (v ∷ ts) (inl g) e =
    (λ i. argument_findings s a (g.0 i).1 (g.1 i)) ∙ none_left (argument_findings s a q.1 v) (arguments_findings s a qs ts) e
mapped_at s a p t (q ∷ qs) (v ∷ ts) (inr g) e = mapped_at s a p t qs ts g (none_right (argument_findings s a q.1 v) (arguments_findings s a qs ts) e)

pub spoken_at : (p : Name × Usage) (t : Tree) (qs : List (Name × Usage)) (ts : List Tree) → InPairs p t qs ts → ArgumentsSpoken ts → Spoken t
spoken_at p t [] ts h e = absurd h
spoken_at p t (q ∷ qs) [] h e = absurd h
spoken_at p t (q ∷ qs) (v ∷ ts) (inl g) e = subst Spoken (sym g.1) e.0
spoken_at p t (q ∷ qs) (v ∷ ts) (inr g) e = spoken_at p t qs ts g e.1

pub uses_at : (P : Use → Type 0) (ms : List Name) (a : Around) (p : Name × Usage) (t : Tree) (qs : List (Name × Usage)) (ts : List Tree) → InPairs p t qs ts → AllByRecursion P (argument_uses ms a ts) → AllByRecursion P (uses ms a t)
uses_at P ms a p t [] ts h e = absurd h
uses_at P ms a p t (q ∷ qs) [] h e = absurd h
uses_at P ms a p t (q ∷ qs) (v ∷ ts) (inl g) e =
    subst (λ z. AllByRecursion P (uses ms a z)) (sym g.1) (cut P (uses ms a v) (argument_uses ms a ts) e).0
uses_at P ms a p t (q ∷ qs) (v ∷ ts) (inr g) e = uses_at P ms a p t qs ts g (cut P (uses ms a v) (argument_uses ms a ts) e).1

-- ---- ways that are among others

pub record Among (v w : Usage) : Type 0 where
  pub reads : (h i : Bool) → reads_so v h i ≡ true → reads_so w h i ≡ true
  pub writes : (h : Shape) → writes_so v h ≡ true → writes_so w h ≡ true

same_ways : (v : Usage) → Among v v
same_ways v = record { reads = λ h i e. e; writes = λ h e. e }

pub among_trans : (u v w : Usage) → Among u v → Among v w → Among u w
among_trans u v w f g = record { reads = λ h i e. g.reads h i (f.reads h i e); writes = λ h e. g.writes h (f.writes h e) }

left_way : (v w : Usage) → Among v (either_usage v w)
left_way v w = record { reads = r; writes = q }
  where
    r : (h i : Bool) → reads_so v h i ≡ true → reads_so (either_usage v w) h i ≡ true
    r false false e = or_first v.plain w.plain e
    r false true e = or_first v.indexed w.indexed e
    r true false e = or_first v.hidden w.hidden e
    r true true e = or_first v.hidden_indexed w.hidden_indexed e

    q : (h : Shape) → writes_so v h ≡ true → writes_so (either_usage v w) h ≡ true
    q Bare e = or_first v.bare w.bare e
    q OneIndex e = or_first v.one_index w.one_index e
    q Further e = or_first v.further w.further e

right_way : (v w : Usage) → Among w (either_usage v w)
right_way v w = record { reads = r; writes = q }
  where
    r : (h i : Bool) → reads_so w h i ≡ true → reads_so (either_usage v w) h i ≡ true
    r false false e = or_second v.plain w.plain e
    r false true e = or_second v.indexed w.indexed e
    r true false e = or_second v.hidden w.hidden e
    r true true e = or_second v.hidden_indexed w.hidden_indexed e

    q : (h : Shape) → writes_so w h ≡ true → writes_so (either_usage v w) h ≡ true
    q Bare e = or_second v.bare w.bare e
    q OneIndex e = or_second v.one_index w.one_index e
    q Further e = or_second v.further w.further e

pub read_way_is : (h i : Bool) → reads_so (read_usage h i) h i ≡ true
read_way_is false false = refl
read_way_is false true = refl
read_way_is true false = refl
read_way_is true true = refl

pub write_way_is : (h : Shape) → writes_so (write_usage h) h ≡ true
write_way_is Bare = refl
write_way_is OneIndex = refl
write_way_is Further = refl

-- ---- of each use

ways_start : (known : MacroTable) (p : Name) (us : List Use) (w : Usage) → Among w (usage_from w known p us)
ways_start known p [] w = same_ways w
ways_start known p (u ∷ us) w =
    let v = either_usage w (usage_by known p u u.form) in
    among_trans w v (usage_from v known p us) (left_way w (usage_by known p u u.form)) (ways_start known p us v)

ways_use : (known : MacroTable) (p : Name) (us : List Use) (w : Usage) (u : Use) → IsAmong u us → Among (usage_by known p u u.form) (usage_from w known p us)
ways_use known p [] w u a = absurd a
ways_use known p (v ∷ us) w u (inl e) =
    let n = either_usage w (usage_by known p v v.form) in
    subst (λ (z : Use). Among (usage_by known p z z.form) (usage_from w known p (v ∷ us))) (sym e) (among_trans (usage_by known p v v.form) n (usage_from n known p us) (right_way w (usage_by known p v v.form)) (ways_start known p us n))
ways_use known p (v ∷ us) w u (inr a) = ways_use known p us (either_usage w (usage_by known p v v.form)) u a

pub use_among : (known : MacroTable) (p : Name) (us : List Use) (u : Use) → IsAmong u us → Among (usage_by known p u u.form) (usage_in known p us)
use_among known p us u a = ways_use known p us no_usage u a

reads_start : (p : Name) (us : List Use) (w : Usage) → Among w (reads_from w p us)
reads_start p [] w = same_ways w
reads_start p (u ∷ us) w =
    let v = either_usage w (read_of p u u.form) in
    among_trans w v (reads_from v p us) (left_way w (read_of p u u.form)) (reads_start p us v)

reads_use : (p : Name) (us : List Use) (w : Usage) (u : Use) → IsAmong u us → Among (read_of p u u.form) (reads_from w p us)
reads_use p [] w u a = absurd a
reads_use p (v ∷ us) w u (inl e) =
    let n = either_usage w (read_of p v v.form) in
    subst (λ (z : Use). Among (read_of p z z.form) (reads_from w p (v ∷ us))) (sym e) (among_trans (read_of p v v.form) n (reads_from n p us) (right_way w (read_of p v v.form)) (reads_start p us n))
reads_use p (v ∷ us) w u (inr a) = reads_use p us (either_usage w (read_of p v v.form)) u a

-- what is read among these uses
pub read_among : (us : List Use) (u : Use) → IsAmong u us → u.form ≡ forms.Alone → reads_so (reads u.name us) u.around.hidden u.around.indexed ≡ true
read_among us u a e =
    (reads_use u.name us no_usage u a).reads u.around.hidden u.around.indexed
    (ap (λ g. reads_so (read_of u.name u g) u.around.hidden u.around.indexed) e
    ∙ ap (λ b. reads_so (usage_if b (read_usage u.around.hidden u.around.indexed)) u.around.hidden u.around.indexed) (same_name-self u.name)
    ∙ read_way_is u.around.hidden u.around.indexed)

-- ---- of an argument

if_way : (b : Bool) (v : Usage) → b ≡ true → Among v (usage_if b v)
if_way true v e = same_ways v
if_way false v e = absurd (cc)

module _ (w : Usage) (a : Around) (p : Name) (t : Tree) where
  abbrev v1 : Usage
  v1 = usage_if w.plain (reads_at false false a p t)

  abbrev v2 : Usage
  v2 = usage_if w.indexed (reads_at false true a p t)

  abbrev v3 : Usage
  v3 = usage_if w.hidden (reads_at true false a p t)

  abbrev v4 : Usage
  v4 = usage_if w.hidden_indexed (reads_at true true a p t)

  abbrev v5 : Usage
  v5 = usage_if w.bare (writes_at Bare a p t)

  abbrev v6 : Usage
  v6 = usage_if w.one_index (writes_at OneIndex a p t)

  abbrev v7 : Usage
  v7 = usage_if w.further (writes_at Further a p t)

  abbrev w6 : Usage
  w6 = either_usage v6 v7

  abbrev w5 : Usage
  w5 = either_usage v5 w6

  abbrev w4 : Usage
  w4 = either_usage v4 w5

  abbrev w3 : Usage
  w3 = either_usage v3 w4

  abbrev w2 : Usage
  w2 = either_usage v2 w3

  up2 : Among w2 (passed_usage w a p t)
  up2 = right_way v1 w2

  up3 : Among w3 (passed_usage w a p t)
  up3 = among_trans w3 w2 (passed_usage w a p t) (right_way v2 w3) up2

  up4 : Among w4 (passed_usage w a p t)
  up4 = among_trans w4 w3 (passed_usage w a p t) (right_way v3 w4) up3

  up5 : Among w5 (passed_usage w a p t)
  up5 = among_trans w5 w4 (passed_usage w a p t) (right_way v4 w5) up4

  up6 : Among w6 (passed_usage w a p t)
  up6 = among_trans w6 w5 (passed_usage w a p t) (right_way v5 w6) up5

  pub passed_read : (h i : Bool) → reads_so w h i ≡ true → Among (reads_at h i a p t) (passed_usage w a p t)
  passed_read false false e = among_trans (reads_at false false a p t) v1 (passed_usage w a p t) (if_way w.plain (reads_at false false a p t) e) (left_way v1 w2)
  passed_read false true e = among_trans (reads_at false true a p t) w2 (passed_usage w a p t) (among_trans (reads_at false true a p t) v2 w2 (if_way w.indexed (reads_at false true a p t) e) (left_way v2 w3)) up2
  passed_read true false e = among_trans (reads_at true false a p t) w3 (passed_usage w a p t) (among_trans (reads_at true false a p t) v3 w3 (if_way w.hidden (reads_at true false a p t) e) (left_way v3 w4)) up3
  passed_read true true e = among_trans (reads_at true true a p t) w4 (passed_usage w a p t) (among_trans (reads_at true true a p t) v4 w4 (if_way w.hidden_indexed (reads_at true true a p t) e) (left_way v4 w5)) up4

  pub passed_write : (h : Shape) → writes_so w h ≡ true → Among (writes_at h a p t) (passed_usage w a p t)
  passed_write Bare e = among_trans (writes_at Bare a p t) w5 (passed_usage w a p t) (among_trans (writes_at Bare a p t) v5 w5 (if_way w.bare (writes_at Bare a p t) e) (left_way v5 w6)) up5
  passed_write OneIndex e = among_trans (writes_at OneIndex a p t) w6 (passed_usage w a p t) (among_trans (writes_at OneIndex a p t) v6 w6 (if_way w.one_index (writes_at OneIndex a p t) e) (left_way v6 v7)) up6
  passed_write Further e = among_trans (writes_at Further a p t) w6 (passed_usage w a p t) (among_trans (writes_at Further a p t) v7 w6 (if_way w.further (writes_at Further a p t) e) (right_way v6 v7)) up6

-- what is assigned, and what is read on the way
pub base_among : (h : Shape) (a : Around) (p : Name) (t : Tree) → left_base t ≡ Some p → writes_so (writes_at h a p t) (join (left_shape t) h) ≡ true
base_among h a p t e =
    (left_way (base_usage p (left_base t) (join (left_shape t) h)) (reads p (left_uses [] (inside a) t))).writes (join (left_shape t) h)
    (ap (λ o. writes_so (base_usage p o (join (left_shape t) h)) (join (left_shape t) h)) e
    ∙ ap (λ b. writes_so (usage_if b (write_usage (join (left_shape t) h))) (join (left_shape t) h)) (same_name-self p)
    ∙ write_way_is (join (left_shape t) h))

pub path_among : (h : Shape) (a : Around) (p : Name) (t : Tree) → Among (reads p (left_uses [] (inside a) t)) (writes_at h a p t)
path_among h a p t = right_way (base_usage p (left_base t) (join (left_shape t) h)) (reads p (left_uses [] (inside a) t))

call_start : (w : Usage) (qs : List (Name × Usage)) (a : Around) (p : Name) (ts : List Tree) → Among w (call_usage_from w qs a p ts)
call_start w [] a p ts = same_ways w
call_start w (q ∷ qs) a p [] = same_ways w
call_start w (q ∷ qs) a p (t ∷ ts) =
    let v = either_usage w (passed_usage q.1 a p t) in
    among_trans w v (call_usage_from v qs a p ts) (left_way w (passed_usage q.1 a p t)) (call_start v qs a p ts)

pub call_among : (w : Usage) (r : Name × Usage) (u : Tree) (qs : List (Name × Usage)) (a : Around) (p : Name) (ts : List Tree) → InPairs r u qs ts → Among (passed_usage r.1 a p u) (call_usage_from w qs a p ts)
call_among w r u [] a p ts h = absurd h
call_among w r u (q ∷ qs) a p [] h = absurd h
call_among w r u (q ∷ qs) a p (t ∷ ts) (inl e) =
    let v = either_usage w (passed_usage q.1 a p t) in
    let same : passed_usage q.1 a p t ≡ passed_usage r.1 a p u = sym (λ i. passed_usage (e.0 i).1 a p (e.1 i)) in
    subst (λ z. Among z (call_usage_from w (q ∷ qs) a p (t ∷ ts))) same (among_trans (passed_usage q.1 a p t) v (call_usage_from v qs a p ts) (right_way w (passed_usage q.1 a p t)) (call_start v qs a p ts))
call_among w r u (q ∷ qs) a p (t ∷ ts) (inr h) = call_among (either_usage w (passed_usage q.1 a p t)) r u qs a p ts h
