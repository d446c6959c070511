-- The marks that are put are those of the rules.
use Rattle.std.proofs.Common.{◌≡◌, ℕ, suc, ◌+◌, ◌≤◌, Bool, true, false, ◌&&◌, inl, inr, List, [], ◌∷◌, ◌++◌, Option, Some, None, refl, ap, sym, ◌∙◌, subst, arith, cond, nat_lt, nat_eq}
use Rattle.std.proofs.lemmas.Bool.{eq-eqb, eqb-true, and_parts}
use Rattle.std.proofs.lemmas.List.{append_assoc, append-nil}
use Rattle.std.proofs.lemmas.Bool.Decides.{leb_tells}
use Rattle.pgo_lexer.specs.declared.symbol.Junction.{Junction}
use Rattle.pgo_lexer.specs.declared.symbol.Bracket.{Bracket}
use Rattle.pgo_lexer.specs.declared.symbol.Bracket.TheVariants as bracket
use Rattle.pgo_lexer.specs.declared.token.Token.TheVariants as t
use Rattle.pgo_lexer.specs.declared.token.Lexeme.{Lexeme}
use Rattle.pgo_lexer.specs.declared.kind.Kind.{Kind}
use Rattle.pgo_lexer.specs.declared.kind.Kind.TheVariants as kind
use Rattle.pgo_lexer.specs.declared.kind.Role.{Role}
use Rattle.pgo_lexer.specs.declared.kind.Role.TheVariants as role
use Rattle.pgo_lexer.specs.declared.stack.Frame.{Frame}
use Rattle.pgo_lexer.specs.declared.stack.Frame.TheVariants as f
use Rattle.pgo_lexer.specs.declared.marker.Marker.{Marker}
use Rattle.pgo_lexer.specs.Kinds.{kind_of, role_of, bracket_code, is_same_bracket, ends_operand}
use Rattle.pgo_lexer.specs.Layout.{mark_at, list_close, Past, Marked, Bullets, Marks}
use Rattle.pgo_lexer.specs.Layout as l
use Rattle.pgo_lexer.specs.Marking.{at, start, bound, Settled, stays, closing, next_item, settle, unlisted, close_by, placed, step, finish, finish_by, run_by, marked}
use Rattle.pgo_lexer.proofs.MarksComplete.{Ends, Leaves, NoList, is_next, junction_is, is_junction_of, no_junction}

-- the tokens from inside a bracket on
pub record InBracket (k : Bracket) (b : ℕ) (p : Bool) (rs ms : List Lexeme) (Rest : Bool → List Lexeme → List Lexeme → Type 0) : Type 0 where
  pub xs : List Lexeme
  pub z : Lexeme
  pub ts : List Lexeme
  pub m : List Lexeme
  pub n : List Lexeme
  pub u : Bool
  pub split : rs ≡ xs ++ (z ∷ ts)
  pub marks : ms ≡ m ++ (z ∷ n)
  pub inner : Marked true b p xs m u
  pub low : b ≤ z.column
  pub closes : kind_of z.token ≡ kind.Close k
  pub rest : Rest true ts n

-- the tokens from inside an item on
pub record InList (op : Junction) (c : ℕ) (p : Bool) (rs ms : List Lexeme) (Rest : Bool → List Lexeme → List Lexeme → Type 0) : Type 0 where
  pub xs : List Lexeme
  pub ys : List Lexeme
  pub ts : List Lexeme
  pub l : List Lexeme
  pub m : List Lexeme
  pub n : List Lexeme
  pub u : Bool
  pub v : Bool
  pub split : rs ≡ xs ++ (ys ++ ts)
  pub marks : ms ≡ l ++ (m ++ (list_close ∷ n))
  pub inner : Marked false (c + 1) p xs l u
  pub bullets : Bullets op c u ys m v
  pub leaves : Leaves op c ts
  pub rest : Rest v ts n

-- how the tokens go on from what is open
abbrev pub Tail : List Frame → Bool → List Lexeme → List Lexeme → Type 0
Tail [] p rs ms = (q : Bool) × Marked true 0 p rs ms q
Tail (f.Bracket k b ∷ fs) p rs ms = InBracket k b p rs ms (Tail fs)
Tail (f.List op c ∷ fs) p rs ms = InList op c p rs ms (Tail fs)

tail_plain : (fs : List Frame) (p : Bool) (r : Lexeme) (rs ms : List Lexeme) → bound fs ≤ r.column → role_of p (kind_of r.token) ≡ role.Plain → Tail fs (ends_operand r.token) rs ms → Tail fs p (r ∷ rs) (r ∷ ms)
tail_plain [] p r rs ms low is h = (h.0, l.plain low is h.1)
tail_plain (f.Bracket k b ∷ fs) p r rs ms low is h = record { xs = r ∷ h.xs; z = h.z; ts = h.ts; m = r ∷ h.m; n = h.n; u = h.u; split = ap (λ x. r ∷ x) h.split; marks = ap (λ x. r ∷ x) h.marks; inner = l.plain low is h.inner; low = h.low; closes = h.closes; rest = h.rest }
tail_plain (f.List op c ∷ fs) p r rs ms low is h = record { xs = r ∷ h.xs; ys = h.ys; ts = h.ts; l = r ∷ h.l; m = h.m; n = h.n; u = h.u; v = h.v; split = ap (λ x. r ∷ x) h.split; marks = ap (λ x. r ∷ x) h.marks; inner = l.plain low is h.inner; bullets = h.bullets; leaves = h.leaves; rest = h.rest }

tail_separator : (fs : List Frame) (p : Bool) (r : Lexeme) (rs ms : List Lexeme) → NoList fs → bound fs ≤ r.column → kind_of r.token ≡ kind.Separator → Tail fs false rs ms → Tail fs p (r ∷ rs) (r ∷ ms)
tail_separator [] p r rs ms top low is h = (h.0, l.separator low is h.1)
tail_separator (f.Bracket k b ∷ fs) p r rs ms top low is h = record { xs = r ∷ h.xs; z = h.z; ts = h.ts; m = r ∷ h.m; n = h.n; u = h.u; split = ap (λ x. r ∷ x) h.split; marks = ap (λ x. r ∷ x) h.marks; inner = l.separator low is h.inner; low = h.low; closes = h.closes; rest = h.rest }
tail_separator (f.List op c ∷ fs) p r rs ms top low is h = absurd top

-- a whole bracket in front
in_front : (fs : List Frame) (p u : Bool) (k : Bracket) (o z : Lexeme) (xs ts m n : List Lexeme) → bound fs ≤ o.column → kind_of o.token ≡ kind.Open k → Marked true (bound fs) false xs m u → bound fs ≤ z.column → kind_of z.token ≡ kind.Close k → Tail fs true ts n → Tail fs p (o ∷ (xs ++ (z ∷ ts))) (o ∷ (m ++ (z ∷ n)))
in_front [] p u k o z xs ts m n low is d low2 is2 h = (h.0, l.bracket z low is d low2 is2 h.1)
in_front (f.Bracket k' b ∷ fs) p u k o z xs ts m n low is d low2 is2 h = record {
  xs = o ∷ (xs ++ (z ∷ h.xs));
  z = h.z;
  ts = h.ts;
  m = o ∷ (m ++ (z ∷ h.m));
  n = h.n;
  u = h.u;
  split = ap (λ x. o ∷ (xs ++ (z ∷ x))) h.split ∙ ap (λ x. o ∷ x) (sym (append_assoc xs (z ∷ h.xs) (h.z ∷ h.ts)));
  marks = ap (λ x. o ∷ (m ++ (z ∷ x))) h.marks ∙ ap (λ x. o ∷ x) (sym (append_assoc m (z ∷ h.m) (h.z ∷ h.n)));
  inner = l.bracket z low is d low2 is2 h.inner;
  low = h.low;
  closes = h.closes;
  rest = h.rest;
}
in_front (f.List op c ∷ fs) p u k o z xs ts m n low is d low2 is2 h = record {
  xs = o ∷ (xs ++ (z ∷ h.xs));
  ys = h.ys;
  ts = h.ts;
  l = o ∷ (m ++ (z ∷ h.l));
  m = h.m;
  n = h.n;
  u = h.u;
  v = h.v;
  split = ap (λ x. o ∷ (xs ++ (z ∷ x))) h.split ∙ ap (λ x. o ∷ x) (sym (append_assoc xs (z ∷ h.xs) (h.ys ++ h.ts)));
  marks = ap (λ x. o ∷ (m ++ (z ∷ x))) h.marks ∙ ap (λ x. o ∷ x) (sym (append_assoc m (z ∷ h.l) (h.m ++ (list_close ∷ h.n))));
  inner = l.bracket z low is d low2 is2 h.inner;
  bullets = h.bullets;
  leaves = h.leaves;
  rest = h.rest;
}

tail_open : (fs : List Frame) (p : Bool) (k : Bracket) (o : Lexeme) (rs ms : List Lexeme) → bound fs ≤ o.column → kind_of o.token ≡ kind.Open k → Tail (f.Bracket k (bound fs) ∷ fs) false rs ms → Tail fs p (o ∷ rs) (o ∷ ms)
tail_open fs p k o rs ms low is h =
    let P : List Lexeme → Type 0 = λ x. Tail fs p (o ∷ x) (o ∷ ms) in
    let Q : List Lexeme → Type 0 = λ x. Tail fs p (o ∷ (h.xs ++ (h.z ∷ h.ts))) (o ∷ x) in
    subst P (sym h.split) (subst Q (sym h.marks) (in_front fs p h.u k o h.z h.xs h.ts h.m h.n low is h.inner h.low h.closes h.rest))

not_plain : (p : Bool) (k : Kind) → Ends false k → role_of p k ≡ role.Plain → ⊥
not_plain p k (inl h) e = let q : role.Close h.0 ≡ role.Plain = ap (role_of p) (sym h.1) ∙ e in cc
not_plain p k (inr h) e = let q : role.Separator ≡ role.Plain = ap (role_of p) (sym h.1) ∙ e in cc

not_open : (b : Bracket) (k : Kind) → Ends false k → k ≡ kind.Open b → ⊥
not_open b k (inl h) e = let q = sym e ∙ h.1 in cc
not_open b k (inr h) e = let q = sym e ∙ h.1 in cc

-- no closing bracket begins the tokens of a bracket or an item
past_of : (s : Bool) (op : Junction) (c b : ℕ) (p q : Bool) (xs zs ms : List Lexeme) → Marked s b p xs ms q → Leaves op c (xs ++ zs) → Past op c xs
past_of s op c b p q xs zs ms l.done h = tt
past_of s op c b p q xs zs ms (l.plain low is d) (inl h) = inr h
past_of s op c b p q xs zs ms (l.plain {r = r} low is d) (inr h) = absurd (not_plain p (kind_of r.token) h is)
past_of s op c b p q xs zs ms (l.separator low is d) h = inl is
past_of s op c b p q xs zs ms (l.bracket z low is d low2 is2 d') (inl h) = inr h
past_of s op c b p q xs zs ms (l.bracket {k = k} {o = o} z low is d low2 is2 d') (inr h) = absurd (not_open k (kind_of o.token) h is)
past_of s op c b p q xs zs ms (l.list low is d d' past d'') (inl h) = inr h
past_of s op c b p q xs zs ms (l.list {op = op'} {r = r} low is d d' past d'') (inr h) = absurd (no_junction false op' (kind_of r.token) h is)

regroup : {A : Type 0} (a b c d : List A) → a ++ (b ++ (c ++ d)) ≡ (a ++ (b ++ c)) ++ d
regroup a b c d = simp append_assoc

-- a whole list in front
list_front : (fs : List Frame) (u v : Bool) (op : Junction) (r : Lexeme) (xs ys ts ls ms ns : List Lexeme) → bound fs ≤ r.column → kind_of r.token ≡ kind.Junction op → Marked false (r.column + 1) false xs ls u → Bullets op r.column u ys ms v → Leaves op r.column ts → Tail fs v ts ns
    → Tail fs false (r ∷ (xs ++ (ys ++ ts))) (mark_at (t.ListOpen op) r ∷ (ls ++ (ms ++ (list_close ∷ ns))))
list_front [] u v op r xs ys ts ls ms ns low is d d' leaves h =
    let P : List Lexeme → Type 0 = Leaves op r.column in
    (h.0, l.list low is d d' (past_of true op r.column 0 v h.0 ts [] ns h.1 (subst P (sym (append-nil ts)) leaves)) h.1)
list_front (f.Bracket k b ∷ fs) u v op r xs ys ts ls ms ns low is d d' leaves h =
    let P : List Lexeme → Type 0 = Leaves op r.column in
    let past = past_of true op r.column b v h.u h.xs (h.z ∷ h.ts) h.m h.inner (subst P h.split leaves) in
    record {
      xs = r ∷ (xs ++ (ys ++ h.xs));
      z = h.z;
      ts = h.ts;
      m = mark_at (t.ListOpen op) r ∷ (ls ++ (ms ++ (list_close ∷ h.m)));
      n = h.n;
      u = h.u;
      split = ap (λ x. r ∷ (xs ++ (ys ++ x))) h.split ∙ ap (λ x. r ∷ x) (regroup xs ys h.xs (h.z ∷ h.ts));
      marks = ap (λ x. mark_at (t.ListOpen op) r ∷ (ls ++ (ms ++ (list_close ∷ x)))) h.marks ∙ ap (λ x. mark_at (t.ListOpen op) r ∷ x) (regroup ls ms (list_close ∷ h.m) (h.z ∷ h.n));
      inner = l.list low is d d' past h.inner;
      low = h.low;
      closes = h.closes;
      rest = h.rest;
    }
list_front (f.List op' c ∷ fs) u v op r xs ys ts ls ms ns low is d d' leaves h =
    let P : List Lexeme → Type 0 = Leaves op r.column in
    let past = past_of false op r.column (c + 1) v h.u h.xs (h.ys ++ h.ts) h.l h.inner (subst P h.split leaves) in
    record {
      xs = r ∷ (xs ++ (ys ++ h.xs));
      ys = h.ys;
      ts = h.ts;
      l = mark_at (t.ListOpen op) r ∷ (ls ++ (ms ++ (list_close ∷ h.l)));
      m = h.m;
      n = h.n;
      u = h.u;
      v = h.v;
      split = ap (λ x. r ∷ (xs ++ (ys ++ x))) h.split ∙ ap (λ x. r ∷ x) (regroup xs ys h.xs (h.ys ++ h.ts));
      marks = ap (λ x. mark_at (t.ListOpen op) r ∷ (ls ++ (ms ++ (list_close ∷ x)))) h.marks ∙ ap (λ x. mark_at (t.ListOpen op) r ∷ x) (regroup ls ms (list_close ∷ h.l) (h.m ++ (list_close ∷ h.n)));
      inner = l.list low is d d' past h.inner;
      bullets = h.bullets;
      leaves = h.leaves;
      rest = h.rest;
    }

tail_bullet : (fs : List Frame) (op : Junction) (r : Lexeme) (rs ms : List Lexeme) → bound fs ≤ r.column → kind_of r.token ≡ kind.Junction op → Tail (f.List op r.column ∷ fs) false rs ms → Tail fs false (r ∷ rs) (mark_at (t.ListOpen op) r ∷ ms)
tail_bullet fs op r rs ms low is h =
    let P : List Lexeme → Type 0 = λ x. Tail fs false (r ∷ x) (mark_at (t.ListOpen op) r ∷ ms) in
    let Q : List Lexeme → Type 0 = λ x. Tail fs false (r ∷ (h.xs ++ (h.ys ++ h.ts))) (mark_at (t.ListOpen op) r ∷ x) in
    subst P (sym h.split) (subst Q (sym h.marks) (list_front fs h.u h.v op r h.xs h.ys h.ts h.l h.m h.n low is h.inner h.bullets h.leaves h.rest))

tail_next : (fs : List Frame) (op : Junction) (c : ℕ) (p : Bool) (r : Lexeme) (rs ms : List Lexeme) → r.column ≡ c → kind_of r.token ≡ kind.Junction op → Tail (f.List op c ∷ fs) false rs ms → Tail (f.List op c ∷ fs) p (r ∷ rs) (mark_at t.ListNext r ∷ ms)
tail_next fs op c p r rs ms same is h = record {
  xs = [];
  ys = r ∷ (h.xs ++ h.ys);
  ts = h.ts;
  l = [];
  m = mark_at t.ListNext r ∷ (h.l ++ h.m);
  n = h.n;
  u = p;
  v = h.v;
  split = ap (λ x. r ∷ x) (h.split ∙ sym (append_assoc h.xs h.ys h.ts));
  marks = ap (λ x. mark_at t.ListNext r ∷ x) (h.marks ∙ sym (append_assoc h.l h.m (list_close ∷ h.n)));
  inner = l.done;
  bullets = l.next is same h.inner h.bullets;
  leaves = h.leaves;
  rest = h.rest;
}

tail_pop : (fs : List Frame) (op : Junction) (c : ℕ) (p : Bool) (rs ms : List Lexeme) → Leaves op c rs → Tail fs p rs ms → Tail (f.List op c ∷ fs) p rs (list_close ∷ ms)
tail_pop fs op c p rs ms leaves h = record { xs = []; ys = []; ts = rs; l = []; m = []; n = ms; u = p; v = p; split = refl; marks = refl; inner = l.done; bullets = l.none; leaves = leaves; rest = h }

tail_close : (fs : List Frame) (k : Bracket) (b : ℕ) (p : Bool) (z : Lexeme) (rs ms : List Lexeme) → b ≤ z.column → kind_of z.token ≡ kind.Close k → Tail fs true rs ms → Tail (f.Bracket k b ∷ fs) p (z ∷ rs) (z ∷ ms)
tail_close fs k b p z rs ms low is h = record { xs = []; z = z; ts = rs; m = []; n = ms; u = p; split = refl; marks = refl; inner = l.done; low = low; closes = is; rest = h }

-- what is open is in columns further right than what it stands in
abbrev pub Nested : List Frame → Type 0
Nested [] = Unit {0}
Nested (f.Bracket k b ∷ fs) = (bound fs ≤ b) × Nested fs
Nested (f.List op c ∷ fs) = (bound fs ≤ c) × Nested fs

-- a token settles what is open by two tests
abbrev settled : Bool → Bool → Junction → ℕ → List Frame → Lexeme → Settled → Settled
settled x y op c fs r s = cond x (stays (f.List op c ∷ fs)) (cond y (next_item (f.List op c ∷ fs) r) (closing s))

settled_nested : (x y : Bool) (op : Junction) (c : ℕ) (fs : List Frame) (r : Lexeme) (s : Settled) → Nested (f.List op c ∷ fs) → Nested s.frames → Nested (settled x y op c fs r s).frames
settled_nested true y op c fs r s h k = h
settled_nested false true op c fs r s h k = h
settled_nested false false op c fs r s h k = k

settle_nested : (r : Lexeme) (fs : List Frame) → Nested fs → Nested (settle r fs).frames
settle_nested r [] h = h
settle_nested r (f.Bracket k b ∷ fs) h = h
settle_nested r (f.List op c ∷ fs) h = settled_nested (nat_lt c r.column) (is_next op c r) op c fs r (settle r fs) h (settle_nested r fs h.1)

unlisted_nested : (fs : List Frame) → Nested fs → Nested (unlisted fs).frames
unlisted_nested [] h = h
unlisted_nested (f.Bracket k b ∷ fs) h = h
unlisted_nested (f.List op c ∷ fs) h = unlisted_nested fs h.1

false_and : (a b : Bool) → (a && b) ≡ false → a ≡ true → b ≡ true → ⊥
false_and true true e p q = cc
false_and true false e p q = cc
false_and false b e p q = cc

not_lt : (a b : ℕ) → nat_lt a b ≡ false → b ≤ a
not_lt a b e = elim (leb_tells (suc a) b) [ inl k ↦ absurd (let q : true ≡ false = sym k.0 ∙ e in cc) | inr k ↦ omega (arith, k.1) ]

-- what the token ends and goes on with
settled_tail : (x y : Bool) (op : Junction) (c : ℕ) (fs : List Frame) (s : Settled) (p : Bool) (r : Lexeme) (rs ms : List Lexeme) → nat_lt c r.column ≡ x → is_next op c r ≡ y
    → (s.is_next ≡ true → Tail s.frames false rs ms → Tail fs p (r ∷ rs) (s.marks ++ ms)) × (s.is_next ≡ false → Tail s.frames p (r ∷ rs) ms → Tail fs p (r ∷ rs) (s.marks ++ ms))
    → ((settled x y op c fs r s).is_next ≡ true → Tail (settled x y op c fs r s).frames false rs ms → Tail (f.List op c ∷ fs) p (r ∷ rs) ((settled x y op c fs r s).marks ++ ms))
    × ((settled x y op c fs r s).is_next ≡ false → Tail (settled x y op c fs r s).frames p (r ∷ rs) ms → Tail (f.List op c ∷ fs) p (r ∷ rs) ((settled x y op c fs r s).marks ++ ms))
settled_tail true y op c fs s p r rs ms ex ey ih = (λ e h. cc, λ e h. h)
settled_tail false true op c fs s p r rs ms ex ey ih = (λ e h. (let b = and_parts _ _ ey in tail_next fs op c p r rs ms (sym (eqb-true c r.column b.0)) (junction_is op (kind_of r.token) b.1) h), λ e h. cc)
settled_tail false false op c fs s p r rs ms ex ey ih =
    let low = not_lt c r.column ex in
    let leaves : Leaves op c (r ∷ rs) = inl (low, λ same is. false_and _ _ ey (eq-eqb c r.column (sym same)) (is_junction_of op (kind_of r.token) is)) in
    (λ e h. tail_pop fs op c p (r ∷ rs) (s.marks ++ ms) leaves (ih.0 e h), λ e h. tail_pop fs op c p (r ∷ rs) (s.marks ++ ms) leaves (ih.1 e h))

settle_tail : (fs : List Frame) (p : Bool) (r : Lexeme) (rs ms : List Lexeme)
    → ((settle r fs).is_next ≡ true → Tail (settle r fs).frames false rs ms → Tail fs p (r ∷ rs) ((settle r fs).marks ++ ms))
    × ((settle r fs).is_next ≡ false → Tail (settle r fs).frames p (r ∷ rs) ms → Tail fs p (r ∷ rs) ((settle r fs).marks ++ ms))
settle_tail [] p r rs ms = (λ e h. cc, λ e h. h)
settle_tail (f.Bracket k b ∷ fs) p r rs ms = (λ e h. cc, λ e h. h)
settle_tail (f.List op c ∷ fs) p r rs ms = settled_tail (nat_lt c r.column) (is_next op c r) op c fs (settle r fs) p r rs ms refl refl (settle_tail fs p r rs ms)

-- ---- a token in its place

role_open : (p : Bool) (k : Kind) (b : Bracket) → role_of p k ≡ role.Open b → k ≡ kind.Open b
role_open p (kind.Open c) b e = let same : c ≡ b = cc in ap kind.Open same
role_open true (kind.Junction op) b e = cc
role_open false (kind.Junction op) b e = cc
role_open p (kind.Close c) b e = cc
role_open p kind.Separator b e = cc
role_open p kind.Plain b e = cc

role_close : (p : Bool) (k : Kind) (b : Bracket) → role_of p k ≡ role.Close b → k ≡ kind.Close b
role_close p (kind.Close c) b e = let same : c ≡ b = cc in ap kind.Close same
role_close true (kind.Junction op) b e = cc
role_close false (kind.Junction op) b e = cc
role_close p (kind.Open c) b e = cc
role_close p kind.Separator b e = cc
role_close p kind.Plain b e = cc

role_separator : (p : Bool) (k : Kind) → role_of p k ≡ role.Separator → k ≡ kind.Separator
role_separator p kind.Separator e = refl
role_separator true (kind.Junction op) e = cc
role_separator false (kind.Junction op) e = cc
role_separator p (kind.Open c) e = cc
role_separator p (kind.Close c) e = cc
role_separator p kind.Plain e = cc

role_bullet : (p : Bool) (k : Kind) (op : Junction) → role_of p k ≡ role.Bullet op → (p ≡ false) × (k ≡ kind.Junction op)
role_bullet true (kind.Junction op') op e = cc
role_bullet false (kind.Junction op') op e = let same : op' ≡ op = cc in (refl, ap kind.Junction same)
role_bullet p (kind.Open c) op e = cc
role_bullet p (kind.Close c) op e = cc
role_bullet p kind.Separator op e = cc
role_bullet p kind.Plain op e = cc

bracket_by : ℕ → Bracket
bracket_by n = cond (nat_eq n 0) bracket.Round (cond (nat_eq n 1) bracket.Square (cond (nat_eq n 2) bracket.Curly bracket.Angle))

bracket_of_code : (k : Bracket) → bracket_by (bracket_code k) ≡ k
unfolding bracket_by
bracket_of_code bracket.Round = refl
bracket_of_code bracket.Square = refl
bracket_of_code bracket.Curly = refl
bracket_of_code bracket.Angle = refl

bracket_same : (a b : Bracket) → is_same_bracket a b ≡ true → a ≡ b
bracket_same a b e = sym (bracket_of_code a) ∙ ap bracket_by (eqb-true (bracket_code a) (bracket_code b) e) ∙ bracket_of_code b

-- what the tokens before add to those after
abbrev pub Adds : List Lexeme → List Frame → Bool → List Lexeme → List Lexeme → Type 0
Adds out fs p rs all = (ms : List Lexeme) × (all ≡ out ++ ms) × Tail fs p rs ms

if_some : {A : Type 0} (b : Bool) (x y : A) → cond b (Some x) None ≡ Some y → (b ≡ true) × (x ≡ y)
if_some true x y e = (refl, cc)
if_some false x y e = cc

added : (fs : List Frame) (p : Bool) (out : List Lexeme) (r : Lexeme) (ms rs : List Lexeme) → Tail fs p rs (r ∷ ms) → Adds out fs p rs ((out ++ (r ∷ [])) ++ ms)
added fs p out r ms rs h = (r ∷ ms, append_assoc out (r ∷ []) ms, h)

close_tail : (fs : List Frame) (out : List Lexeme) (p : Bool) (k : Bracket) (r : Lexeme) (rs : List Lexeme) (st : Marker) (ms : List Lexeme) → Nested fs → bound fs ≤ r.column → kind_of r.token ≡ kind.Close k → close_by k r (out ++ (unlisted fs).marks) (unlisted fs).frames ≡ Some st → Tail st.frames st.after_operand rs ms → Adds out fs p (r ∷ rs) (st.out ++ ms)
close_tail [] out p k r rs st ms nest low is e h = cc
close_tail (f.Bracket l b ∷ fs) out p k r rs st ms nest low is e h =
    let q = if_some (is_same_bracket k l) _ st e in
    let same = bracket_same k l q.0 in
    let P : Marker → Type 0 = λ x. Tail x.frames x.after_operand rs ms → Adds out (f.Bracket l b ∷ fs) p (r ∷ rs) (x.out ++ ms) in
    subst P q.1 (λ h. (r ∷ ms, ap (λ x. (x ++ (r ∷ [])) ++ ms) (append-nil out) ∙ append_assoc out (r ∷ []) ms, tail_close fs l b p r rs ms low (is ∙ ap kind.Close same) h)) h
close_tail (f.List op c ∷ fs) out p k r rs st ms nest low is e h =
    let e2 : close_by k r ((out ++ (list_close ∷ [])) ++ (unlisted fs).marks) (unlisted fs).frames ≡ Some st = ap (λ x. close_by k r x (unlisted fs).frames) (append_assoc out (list_close ∷ []) (unlisted fs).marks) ∙ e in
    let g = close_tail fs (out ++ (list_close ∷ [])) p k r rs st ms nest.1 (omega (arith, nest.0)) is e2 h in
    (list_close ∷ g.0, g.1 ∙ append_assoc out (list_close ∷ []) g.0, tail_pop fs op c p (r ∷ rs) g.0 (inr (inl (k, is))) g.2)

separator_tail : (fs : List Frame) (out : List Lexeme) (p : Bool) (r : Lexeme) (rs ms : List Lexeme) → Nested fs → bound fs ≤ r.column → kind_of r.token ≡ kind.Separator → Tail (unlisted fs).frames false rs ms → Adds out fs p (r ∷ rs) (((out ++ (unlisted fs).marks) ++ (r ∷ [])) ++ ms)
separator_tail [] out p r rs ms nest low is h = (r ∷ ms, ap (λ x. (x ++ (r ∷ [])) ++ ms) (append-nil out) ∙ append_assoc out (r ∷ []) ms, tail_separator [] p r rs ms tt low is h)
separator_tail (f.Bracket k b ∷ fs) out p r rs ms nest low is h = (r ∷ ms, ap (λ x. (x ++ (r ∷ [])) ++ ms) (append-nil out) ∙ append_assoc out (r ∷ []) ms, tail_separator (f.Bracket k b ∷ fs) p r rs ms tt low is h)
separator_tail (f.List op c ∷ fs) out p r rs ms nest low is h =
    let g = separator_tail fs (out ++ (list_close ∷ [])) p r rs ms nest.1 (omega (arith, nest.0)) is h in
    (list_close ∷ g.0, ap (λ x. (x ++ (r ∷ [])) ++ ms) (sym (append_assoc out (list_close ∷ []) (unlisted fs).marks)) ∙ g.1 ∙ append_assoc out (list_close ∷ []) g.0, tail_pop fs op c p (r ∷ rs) g.0 (inr (inr (refl, is))) g.2)

placed_tail : (ρ : Role) (out : List Lexeme) (fs : List Frame) (p : Bool) (r : Lexeme) (rs : List Lexeme) (st : Marker) (ms : List Lexeme) → role_of p (kind_of r.token) ≡ ρ → Nested fs → bound fs ≤ r.column → placed ρ r out fs ≡ Some st → Tail st.frames st.after_operand rs ms → Adds out fs p (r ∷ rs) (st.out ++ ms)
placed_tail (role.Open k) out fs p r rs st ms is nest low e h =
    let q : at (out ++ (r ∷ [])) (f.Bracket k (bound fs) ∷ fs) false ≡ st = cc in
    let P : Marker → Type 0 = λ x. Tail x.frames x.after_operand rs ms → Adds out fs p (r ∷ rs) (x.out ++ ms) in
    subst P q (λ h. added fs p out r ms (r ∷ rs) (tail_open fs p k r rs ms low (role_open p (kind_of r.token) k is) h)) h
placed_tail (role.Close k) out fs p r rs st ms is nest low e h = close_tail fs out p k r rs st ms nest low (role_close p (kind_of r.token) k is) e h
placed_tail (role.Bullet op) out fs p r rs st ms is nest low e h =
    let q : at (out ++ (mark_at (t.ListOpen op) r ∷ [])) (f.List op r.column ∷ fs) false ≡ st = cc in
    let b = role_bullet p (kind_of r.token) op is in
    let P : Marker → Type 0 = λ x. Tail x.frames x.after_operand rs ms → Adds out fs p (r ∷ rs) (x.out ++ ms) in
    let Q : Bool → Type 0 = λ x. Tail fs x (r ∷ rs) (mark_at (t.ListOpen op) r ∷ ms) in
    subst P q (λ h. added fs p out (mark_at (t.ListOpen op) r) ms (r ∷ rs) (subst Q (sym b.0) (tail_bullet fs op r rs ms low b.1 h))) h
placed_tail role.Separator out fs p r rs st ms is nest low e h =
    let q : at ((out ++ (unlisted fs).marks) ++ (r ∷ [])) (unlisted fs).frames false ≡ st = cc in
    let P : Marker → Type 0 = λ x. Tail x.frames x.after_operand rs ms → Adds out fs p (r ∷ rs) (x.out ++ ms) in
    subst P q (λ h. separator_tail fs out p r rs ms nest low (role_separator p (kind_of r.token) is) h) h
placed_tail role.Plain out fs p r rs st ms is nest low e h =
    let q : at (out ++ (r ∷ [])) fs (ends_operand r.token) ≡ st = cc in
    let P : Marker → Type 0 = λ x. Tail x.frames x.after_operand rs ms → Adds out fs p (r ∷ rs) (x.out ++ ms) in
    subst P q (λ h. added fs p out r ms (r ∷ rs) (tail_plain fs p r rs ms low is h)) h

closed_nested : (fs : List Frame) (out : List Lexeme) (k : Bracket) (r : Lexeme) (st : Marker) → Nested fs → close_by k r out fs ≡ Some st → Nested st.frames
closed_nested [] out k r st nest e = cc
closed_nested (f.List op c ∷ fs) out k r st nest e = cc
closed_nested (f.Bracket l b ∷ fs) out k r st nest e =
    let q = if_some (is_same_bracket k l) (at (out ++ (r ∷ [])) fs true) st e in
    let P : Marker → Type 0 = λ x. Nested x.frames in
    subst P q.1 nest.1

placed_nested : (ρ : Role) (out : List Lexeme) (fs : List Frame) (r : Lexeme) (st : Marker) → Nested fs → bound fs ≤ r.column → placed ρ r out fs ≡ Some st → Nested st.frames
placed_nested (role.Open k) out fs r st nest low e =
    let q : at (out ++ (r ∷ [])) (f.Bracket k (bound fs) ∷ fs) false ≡ st = cc in
    let P : Marker → Type 0 = λ x. Nested x.frames in
    subst P q (omega arith, nest)
placed_nested (role.Close k) out fs r st nest low e = closed_nested (unlisted fs).frames (out ++ (unlisted fs).marks) k r st (unlisted_nested fs nest) e
placed_nested (role.Bullet op) out fs r st nest low e =
    let q : at (out ++ (mark_at (t.ListOpen op) r ∷ [])) (f.List op r.column ∷ fs) false ≡ st = cc in
    let P : Marker → Type 0 = λ x. Nested x.frames in
    subst P q (low, nest)
placed_nested role.Separator out fs r st nest low e =
    let q : at ((out ++ (unlisted fs).marks) ++ (r ∷ [])) (unlisted fs).frames false ≡ st = cc in
    let P : Marker → Type 0 = λ x. Nested x.frames in
    subst P q (unlisted_nested fs nest)
placed_nested role.Plain out fs r st nest low e =
    let q : at (out ++ (r ∷ [])) fs (ends_operand r.token) ≡ st = cc in
    let P : Marker → Type 0 = λ x. Nested x.frames in
    subst P q nest

-- a step is a rule
step_by : (b x : Bool) (s : Settled) (out : List Lexeme) (fs : List Frame) (p : Bool) (r : Lexeme) (rs : List Lexeme) (st : Marker) → s.is_next ≡ b → nat_lt r.column (bound s.frames) ≡ x → Nested s.frames
    → ((ms : List Lexeme) → (s.is_next ≡ true → Tail s.frames false rs ms → Tail fs p (r ∷ rs) (s.marks ++ ms)))
    → ((ms : List Lexeme) → (s.is_next ≡ false → Tail s.frames p (r ∷ rs) ms → Tail fs p (r ∷ rs) (s.marks ++ ms)))
    → cond b (Some (at (out ++ s.marks) s.frames false)) (cond x None (placed (role_of p (kind_of r.token)) r (out ++ s.marks) s.frames)) ≡ Some st
    → Nested st.frames × ((ms : List Lexeme) → Tail st.frames st.after_operand rs ms → Adds out fs p (r ∷ rs) (st.out ++ ms))
step_by true x s out fs p r rs st eb ex nest goes keeps e =
    let q : at (out ++ s.marks) s.frames false ≡ st = cc in
    let P : Marker → Type 0 = λ y. Nested y.frames × ((ms : List Lexeme) → Tail y.frames y.after_operand rs ms → Adds out fs p (r ∷ rs) (y.out ++ ms)) in
    subst P q (nest, λ ms h. (s.marks ++ ms, append_assoc out s.marks ms, goes ms eb h))
step_by false true s out fs p r rs st eb ex nest goes keeps e = cc
step_by false false s out fs p r rs st eb ex nest goes keeps e =
    let low = not_lt r.column (bound s.frames) ex in (
      placed_nested (role_of p (kind_of r.token)) (out ++ s.marks) s.frames r st nest low e,
      λ ms h. (let g = placed_tail (role_of p (kind_of r.token)) (out ++ s.marks) s.frames p r rs st ms refl nest low e h in (s.marks ++ g.0, g.1 ∙ append_assoc out s.marks g.0, keeps g.0 eb g.2)),
    )

step_tail : (out : List Lexeme) (fs : List Frame) (p : Bool) (r : Lexeme) (rs : List Lexeme) (st : Marker) → Nested fs → step (at out fs p) r ≡ Some st → Nested st.frames × ((ms : List Lexeme) → Tail st.frames st.after_operand rs ms → Adds out fs p (r ∷ rs) (st.out ++ ms))
unfolding step
step_tail out fs p r rs st nest e =
    step_by (settle r fs).is_next (nat_lt r.column (bound (settle r fs).frames)) (settle r fs) out fs p r rs st refl refl (settle_nested r fs nest)
    (λ ms. (settle_tail fs p r rs ms).0) (λ ms. (settle_tail fs p r rs ms).1) e

-- the end of the tokens
finish_tail : (fs : List Frame) (out : List Lexeme) (p : Bool) (all : List Lexeme) → finish_by (out ++ (unlisted fs).marks) (unlisted fs).frames ≡ Some all → Adds out fs p [] all
finish_tail [] out p all e = ([], (let q : out ++ [] ≡ all = cc in sym q), (p, l.done))
finish_tail (f.Bracket k b ∷ fs) out p all e = cc
finish_tail (f.List op c ∷ fs) out p all e =
    let g = finish_tail fs (out ++ (list_close ∷ [])) p all (ap (λ x. finish_by x (unlisted fs).frames) (append_assoc out (list_close ∷ []) (unlisted fs).marks) ∙ e) in
    (list_close ∷ g.0, g.1 ∙ append_assoc out (list_close ∷ []) g.0, tail_pop fs op c p [] g.0 tt g.2)

-- one token, and then the rest
runs_step : (rs : List Lexeme) (st : Marker) (r : Lexeme) (o : Option Marker) (all : List Lexeme) → ((new : Marker) → Nested new.frames → run_by (Some new) rs ≡ Some all → Adds new.out new.frames new.after_operand rs all) → Nested st.frames → step st r ≡ o → run_by o rs ≡ Some all → Adds st.out st.frames st.after_operand (r ∷ rs) all
runs_step rs st r None all go nest is e = cc
runs_step rs st r (Some new) all go nest is e =
    let s = step_tail st.out st.frames st.after_operand r rs new nest is in
    let g = go new s.0 e in
    let h = s.1 g.0 g.2 in
    (h.0, g.1 ∙ h.1, h.2)

runs : (rs : List Lexeme) (st : Marker) (all : List Lexeme) → Nested st.frames → run_by (Some st) rs ≡ Some all → Adds st.out st.frames st.after_operand rs all
unfolding finish
runs [] st all nest e = finish_tail st.frames st.out st.after_operand all e
runs (r ∷ rs) st all nest e = runs_step rs st r (step st r) all (λ new nest e. runs rs new all nest e) nest refl e

pub marks_found : (rs ms : List Lexeme) → marked rs ≡ Some ms → Marks rs ms
marks_found rs ms e =
    let g = runs rs start ms tt e in
    let P : List Lexeme → Type 0 = λ x. Marks rs x in
    subst P (sym g.1) g.2
