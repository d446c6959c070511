-- The marks that the rules give are put.
use Rattle.std.proofs.Common.{◌≡◌, ℕ, suc, ◌+◌, ◌<◌, ◌≤◌, Bool, true, false, ◌&&◌, ◌⊎◌, inl, inr, List, [], ◌∷◌, ◌++◌, Some, None, refl, ap, sym, ◌∙◌, subst, arith, cond, nat_lt, nat_eq}
use Rattle.std.proofs.lemmas.Bool.{lt-ltb, eq-eqb}
use Rattle.std.proofs.lemmas.List.{append_assoc, append-nil}
use Rattle.std.proofs.lemmas.Bool.Decides.{leb_tells, eqb_tells}
use Rattle.pgo_lexer.specs.declared.symbol.Junction.{Junction}
use Rattle.pgo_lexer.specs.declared.symbol.Junction.TheVariants as j
use Rattle.pgo_lexer.specs.declared.symbol.Bracket.{Bracket}
use Rattle.pgo_lexer.specs.declared.token.Token.TheVariants as t
use Rattle.pgo_lexer.specs.declared.token.Lexeme.{Lexeme}
use Rattle.pgo_lexer.specs.declared.kind.Kind.{Kind}
use Rattle.pgo_lexer.specs.declared.kind.Kind.TheVariants as kind
use Rattle.pgo_lexer.specs.declared.kind.Role.TheVariants as role
use Rattle.pgo_lexer.specs.declared.stack.Frame.{Frame}
use Rattle.pgo_lexer.specs.declared.stack.Frame.TheVariants as f
use Rattle.pgo_lexer.specs.Kinds.{kind_of, role_of, bracket_code, is_same_bracket, is_junction, ends_operand}
use Rattle.pgo_lexer.specs.Layout.{mark_at, list_close, Past, Marked, Bullets, Marks}
use Rattle.pgo_lexer.specs.Layout as l
use Rattle.pgo_lexer.specs.Marking.{at, start, bound, Settled, stays, closing, next_item, settle, unlisted, close_by, placed, placed_at, step, finish, finish_by, run_by, run, marked}

-- whether a token is the next bullet of a list
abbrev pub is_next : Junction → ℕ → Lexeme → Bool
is_next op c r = nat_eq c r.column && is_junction op (kind_of r.token)

settle_stays : (r : Lexeme) (fs : List Frame) → bound fs ≤ r.column → settle r fs ≡ stays fs
settle_stays r [] h = refl
settle_stays r (f.Bracket k b ∷ fs) h = refl
settle_stays r (f.List op c ∷ fs) h = ap (λ x. cond x (stays (f.List op c ∷ fs)) (cond (is_next op c r) (next_item (f.List op c ∷ fs) r) (closing (settle r fs)))) (lt-ltb c r.column (omega arith))

not_below : (a b : ℕ) → b ≤ a → nat_lt a b ≡ false
not_below a b h = elim (leb_tells (suc a) b) [ inl k ↦ absurd (omega (arith, k.1)) | inr k ↦ k.0 ]

-- a token that ends no list is put in its place
pub step_placed : (out : List Lexeme) (fs : List Frame) (p : Bool) (r : Lexeme) → bound fs ≤ r.column → step (at out fs p) r ≡ placed (role_of p (kind_of r.token)) r out fs
unfolding step
step_placed out fs p r h =
    ap (λ s. placed_at s (at out fs p) r) (settle_stays r fs h)
    ∙ ap (λ x. cond x None (placed (role_of p (kind_of r.token)) r (out ++ []) fs)) (not_below r.column (bound fs) h)
    ∙ ap (λ x. placed (role_of p (kind_of r.token)) r x fs) (append-nil out)

junction_self : (op : Junction) → is_junction op (kind.Junction op) ≡ true
junction_self j.And = refl
junction_self j.Or = refl

pub junction_is : (op : Junction) (k : Kind) → is_junction op k ≡ true → k ≡ kind.Junction op
junction_is j.And (kind.Junction j.And) e = refl
junction_is j.Or (kind.Junction j.Or) e = refl
junction_is j.And (kind.Junction j.Or) e = cc
junction_is j.Or (kind.Junction j.And) e = cc
junction_is j.And _ e = cc
junction_is j.Or _ e = cc

pub is_junction_of : (op : Junction) (k : Kind) → k ≡ kind.Junction op → is_junction op k ≡ true
is_junction_of op k e = ap (is_junction op) e ∙ junction_self op

-- what ends the tokens of a bracket, or of an item
abbrev pub Ends : Bool → Kind → Type 0
Ends s k = ((b : Bracket) × (k ≡ kind.Close b)) ⊎ ((s ≡ false) × (k ≡ kind.Separator))

abbrev pub StopsAt : Bool → ℕ → List Lexeme → Type 0
StopsAt s b [] = Unit {0}
StopsAt s b (r ∷ rs) = (r.column < b) ⊎ Ends s (kind_of r.token)

abbrev pub Leaves : Junction → ℕ → List Lexeme → Type 0
Leaves op c [] = Unit {0}
Leaves op c (r ∷ rs) = ((r.column ≤ c) × (r.column ≡ c → kind_of r.token ≡ kind.Junction op → ⊥)) ⊎ Ends false (kind_of r.token)

pub no_junction : (s : Bool) (op : Junction) (k : Kind) → Ends s k → k ≡ kind.Junction op → ⊥
no_junction s op k (inl h) e = let q = sym e ∙ h.1 in cc
no_junction s op k (inr h) e = let q = sym e ∙ h.1 in cc

is_false : (b : Bool) → (b ≡ true → ⊥) → b ≡ false
is_false true h = absurd (h refl)
is_false false h = refl

no_next : (op : Junction) (c : ℕ) (r : Lexeme) → (r.column ≡ c → kind_of r.token ≡ kind.Junction op → ⊥) → is_next op c r ≡ false
no_next op c r other =
    elim (eqb_tells c r.column) [
      | inl k ↦ ap (λ x. x && is_junction op (kind_of r.token)) k.0 ∙ is_false (is_junction op (kind_of r.token)) (λ e. other (sym k.1) (junction_is op (kind_of r.token) e))
      | inr k ↦ ap (λ x. x && is_junction op (kind_of r.token)) k.0
    ]

-- a list that is over is closed by what comes
settle_pops : (op : Junction) (c : ℕ) (fs : List Frame) (r : Lexeme) → r.column ≤ c → (r.column ≡ c → kind_of r.token ≡ kind.Junction op → ⊥) → settle r (f.List op c ∷ fs) ≡ closing (settle r fs)
settle_pops op c fs r h other =
    ap (λ x. cond x (stays (f.List op c ∷ fs)) (cond (is_next op c r) (next_item (f.List op c ∷ fs) r) (closing (settle r fs)))) (not_below c r.column h)
    ∙ ap (λ x. cond x (next_item (f.List op c ∷ fs) r) (closing (settle r fs))) (no_next op c r other)

-- the next bullet
settle_next : (op : Junction) (c : ℕ) (fs : List Frame) (r : Lexeme) → r.column ≡ c → kind_of r.token ≡ kind.Junction op → settle r (f.List op c ∷ fs) ≡ next_item (f.List op c ∷ fs) r
settle_next op c fs r same is =
    ap (λ x. cond x (stays (f.List op c ∷ fs)) (cond (is_next op c r) (next_item (f.List op c ∷ fs) r) (closing (settle r fs)))) (not_below c r.column (omega arith))
    ∙ ap (λ x. cond (x && is_junction op (kind_of r.token)) (next_item (f.List op c ∷ fs) r) (closing (settle r fs))) (eq-eqb c r.column (sym same))
    ∙ ap (λ x. cond x (next_item (f.List op c ∷ fs) r) (closing (settle r fs))) (is_junction_of op (kind_of r.token) is)

placed_closing : (s : Settled) (out : List Lexeme) (fs : List Frame) (op : Junction) (c : ℕ) (p : Bool) (r : Lexeme) → placed_at (closing s) (at out (f.List op c ∷ fs) p) r ≡ placed_at s (at (out ++ (list_close ∷ [])) fs p) r
placed_closing s out fs op c p r =
    ap (λ x. cond s.is_next (Some (at x s.frames false)) (cond (nat_lt r.column (bound s.frames)) None (placed (role_of p (kind_of r.token)) r x s.frames))) (sym (append_assoc out (list_close ∷ []) s.marks))

step_pops : (op : Junction) (c : ℕ) (out : List Lexeme) (fs : List Frame) (p : Bool) (r : Lexeme) → r.column ≤ c → (r.column ≡ c → kind_of r.token ≡ kind.Junction op → ⊥) → step (at out (f.List op c ∷ fs) p) r ≡ step (at (out ++ (list_close ∷ [])) fs p) r
unfolding step
step_pops op c out fs p r h other = ap (λ s. placed_at s (at out (f.List op c ∷ fs) p) r) (settle_pops op c fs r h other) ∙ placed_closing (settle r fs) out fs op c p r

-- a bracket's end, or a `;`, closes a list in whatever column it stands
pub placed_ends : (op : Junction) (c : ℕ) (out : List Lexeme) (fs : List Frame) (p : Bool) (r : Lexeme) (k : Kind) → Ends false k → placed (role_of p k) r out (f.List op c ∷ fs) ≡ placed (role_of p k) r (out ++ (list_close ∷ [])) fs
placed_ends op c out fs p r k (inl h) =
    let P : Kind → Type 0 = λ k. placed (role_of p k) r out (f.List op c ∷ fs) ≡ placed (role_of p k) r (out ++ (list_close ∷ [])) fs in
    let q : P (kind.Close h.0) = ap (λ x. close_by h.0 r x (unlisted fs).frames) (sym (append_assoc out (list_close ∷ []) (unlisted fs).marks)) in
    subst P (sym h.1) q
placed_ends op c out fs p r k (inr h) =
    let P : Kind → Type 0 = λ k. placed (role_of p k) r out (f.List op c ∷ fs) ≡ placed (role_of p k) r (out ++ (list_close ∷ [])) fs in
    let q : P kind.Separator = ap (λ x. Some (at (x ++ (r ∷ [])) (unlisted fs).frames false)) (sym (append_assoc out (list_close ∷ []) (unlisted fs).marks)) in
    subst P (sym h.1) q

step_ends : (op : Junction) (c : ℕ) (out : List Lexeme) (fs : List Frame) (p : Bool) (r : Lexeme) → Ends false (kind_of r.token) → c < r.column → bound fs ≤ c → step (at out (f.List op c ∷ fs) p) r ≡ step (at (out ++ (list_close ∷ [])) fs p) r
step_ends op c out fs p r ends h low =
    step_placed out (f.List op c ∷ fs) p r (omega arith) ∙ placed_ends op c out fs p r (kind_of r.token) ends ∙ sym (step_placed (out ++ (list_close ∷ [])) fs p r (omega arith))

pops : (op : Junction) (c : ℕ) (out : List Lexeme) (fs : List Frame) (p : Bool) (rs : List Lexeme) → bound fs ≤ c → Leaves op c rs → run (at out (f.List op c ∷ fs) p) rs ≡ run (at (out ++ (list_close ∷ [])) fs p) rs
unfolding finish
pops op c out fs p [] low h = ap (λ x. finish_by x (unlisted fs).frames) (sym (append_assoc out (list_close ∷ []) (unlisted fs).marks))
pops op c out fs p (r ∷ rs) low (inl h) = ap (λ s. run_by s rs) (step_pops op c out fs p r h.0 h.1)
pops op c out fs p (r ∷ rs) low (inr h) =
    elim (leb_tells r.column c) [
      | inl k ↦ ap (λ s. run_by s rs) (step_pops op c out fs p r k.1 (λ _ is. no_junction false op (kind_of r.token) h is))
      | inr k ↦ ap (λ s. run_by s rs) (step_ends op c out fs p r h k.1 low)
    ]

pub same_bracket : (k : Bracket) → is_same_bracket k k ≡ true
same_bracket k = eq-eqb (bracket_code k) (bracket_code k) refl

-- no list is the innermost that is open
abbrev pub NoList : List Frame → Type 0
NoList [] = Unit {0}
NoList (f.Bracket k b ∷ fs) = Unit {0}
NoList (f.List op c ∷ fs) = ⊥

pub no_list : (fs : List Frame) → NoList fs → unlisted fs ≡ stays fs
no_list [] h = refl
no_list (f.Bracket k b ∷ fs) h = refl
no_list (f.List op c ∷ fs) h = absurd h

-- reading on after the tokens of one bracket or item
abbrev pub Passes : Bool → ℕ → Bool → List Lexeme → List Lexeme → Bool → Type 0
Passes s b p rs ms q = (out : List Lexeme) (fs : List Frame) (rest : List Lexeme) → bound fs ≡ b → (s ≡ true → NoList fs) → StopsAt s b rest → run (at out fs p) (rs ++ rest) ≡ run (at (out ++ ms) fs q) rest

abbrev pub PassesBullets : Junction → ℕ → Bool → List Lexeme → List Lexeme → Bool → Type 0
PassesBullets op c p rs ms q = (out : List Lexeme) (fs : List Frame) (rest : List Lexeme) → StopsAt false (c + 1) rest → run (at out (f.List op c ∷ fs) p) (rs ++ rest) ≡ run (at (out ++ ms) (f.List op c ∷ fs) q) rest

passes_plain : (s : Bool) (b : ℕ) (p q : Bool) (r : Lexeme) (rs ms : List Lexeme) → b ≤ r.column → role_of p (kind_of r.token) ≡ role.Plain → Passes s b (ends_operand r.token) rs ms q → Passes s b p (r ∷ rs) (r ∷ ms) q
passes_plain s b p q r rs ms low is ih out fs rest same top st =
    ap (λ m. run_by m (rs ++ rest)) (step_placed out fs p r (omega arith) ∙ ap (λ x. placed x r out fs) is)
    ∙ ih (out ++ (r ∷ [])) fs rest same top st
    ∙ ap (λ x. run (at x fs q) rest) (append_assoc out (r ∷ []) ms)

passes_separator : (b : ℕ) (p q : Bool) (r : Lexeme) (rs ms : List Lexeme) → b ≤ r.column → kind_of r.token ≡ kind.Separator → Passes true b false rs ms q → Passes true b p (r ∷ rs) (r ∷ ms) q
passes_separator b p q r rs ms low is ih out fs rest same top st =
    ap (λ m. run_by m (rs ++ rest)) (step_placed out fs p r (omega arith) ∙ ap (λ x. placed (role_of p x) r out fs) is
    ∙ ap (λ (x : Settled). Some (at ((out ++ x.marks) ++ (r ∷ [])) x.frames false)) (no_list fs (top refl)) ∙ ap (λ x. Some (at (x ++ (r ∷ [])) fs false)) (append-nil out))
    ∙ ih (out ++ (r ∷ [])) fs rest same top st
    ∙ ap (λ x. run (at x fs q) rest) (append_assoc out (r ∷ []) ms)

passes_bracket : (s : Bool) (b : ℕ) (p u q : Bool) (k : Bracket) (o z : Lexeme) (xs rs ms ns : List Lexeme) → b ≤ o.column → kind_of o.token ≡ kind.Open k → b ≤ z.column → kind_of z.token ≡ kind.Close k → Passes true b false xs ms u → Passes s b true rs ns q → Passes s b p (o ∷ (xs ++ (z ∷ rs))) (o ∷ (ms ++ (z ∷ ns))) q
passes_bracket s b p u q k o z xs rs ms ns low is low2 is2 inner ih out fs rest same top st =
    ap (λ m. run_by m ((xs ++ (z ∷ rs)) ++ rest)) (step_placed out fs p o (omega arith) ∙ ap (λ x. placed (role_of p x) o out fs) is)
    ∙ ap (λ x. run (at (out ++ (o ∷ [])) (f.Bracket k (bound fs) ∷ fs) false) x) (append_assoc xs (z ∷ rs) rest)
    ∙ inner (out ++ (o ∷ [])) (f.Bracket k (bound fs) ∷ fs) (z ∷ (rs ++ rest)) same (λ _. tt) (inr (inl (k, is2)))
    ∙ ap (λ m. run_by m (rs ++ rest)) (step_placed ((out ++ (o ∷ [])) ++ ms) (f.Bracket k (bound fs) ∷ fs) u z (omega arith) ∙ ap (λ x. placed (role_of u x) z ((out ++ (o ∷ [])) ++ ms) (f.Bracket k (bound fs) ∷ fs)) is2
    ∙ ap (λ x. cond x (Some (at ((((out ++ (o ∷ [])) ++ ms) ++ []) ++ (z ∷ [])) fs true)) None) (same_bracket k))
    ∙ ih ((((out ++ (o ∷ [])) ++ ms) ++ []) ++ (z ∷ [])) fs rest same top st
    ∙ ap (λ x. run (at x fs q) rest) (simp (append_assoc, append-nil))

-- what follows an item ends it
item_stops : (op : Junction) (c : ℕ) (ys rest : List Lexeme) (p q : Bool) (ms : List Lexeme) → Bullets op c p ys ms q → StopsAt false (c + 1) rest → StopsAt false (c + 1) (ys ++ rest)
item_stops op c ys rest p q ms l.none st = st
item_stops op c ys rest p q ms (l.next is same d d') st = inl (omega arith)

weaker : (s : Bool) (k : Kind) → Ends s k → Ends false k
weaker s k (inl h) = inl h
weaker s k (inr h) = inr (refl, h.1)

past_leaves : (s : Bool) (op : Junction) (c b : ℕ) (rs rest : List Lexeme) → b ≤ c → Past op c rs → StopsAt s b rest → Leaves op c (rs ++ rest)
past_leaves s op c b [] [] low h st = tt
past_leaves s op c b [] (r ∷ rest) low h (inl k) = inl (omega arith, λ e _. omega arith)
past_leaves s op c b [] (r ∷ rest) low h (inr k) = inr (weaker s (kind_of r.token) k)
past_leaves s op c b (r ∷ rs) rest low (inl h) st = inr (inr (refl, h))
past_leaves s op c b (r ∷ rs) rest low (inr h) st = inl h

leaves_stops : (op : Junction) (c : ℕ) (rs : List Lexeme) → Leaves op c rs → StopsAt false (c + 1) rs
leaves_stops op c [] h = tt
leaves_stops op c (r ∷ rs) (inl h) = inl (omega (arith, h.0))
leaves_stops op c (r ∷ rs) (inr h) = inr h

passes_list : (s : Bool) (b : ℕ) (u v q : Bool) (op : Junction) (r : Lexeme) (xs ys rs ls ms ns : List Lexeme) → b ≤ r.column → kind_of r.token ≡ kind.Junction op → Bullets op r.column u ys ms v → Past op r.column rs → Passes false (r.column + 1) false xs ls u → PassesBullets op r.column u ys ms v → Passes s b v rs ns q
    → Passes s b false (r ∷ (xs ++ (ys ++ rs))) (mark_at (t.ListOpen op) r ∷ (ls ++ (ms ++ (list_close ∷ ns)))) q
passes_list s b u v q op r xs ys rs ls ms ns low is d past inner bullets ih out fs rest same top st =
    let one = mark_at (t.ListOpen op) r in
    let leaves = past_leaves s op r.column b rs rest low past st in
    let stops = leaves_stops op r.column (rs ++ rest) leaves in
    let flat : (xs ++ (ys ++ rs)) ++ rest ≡ xs ++ (ys ++ (rs ++ rest)) = simp append_assoc in
    ap (λ m. run_by m ((xs ++ (ys ++ rs)) ++ rest)) (step_placed out fs false r (omega arith) ∙ ap (λ x. placed (role_of false x) r out fs) is)
    ∙ ap (λ x. run (at (out ++ (one ∷ [])) (f.List op r.column ∷ fs) false) x) flat
    ∙ inner (out ++ (one ∷ [])) (f.List op r.column ∷ fs) (ys ++ (rs ++ rest)) refl (λ e. absurd (cc)) (item_stops op r.column ys (rs ++ rest) u v ms d stops)
    ∙ bullets ((out ++ (one ∷ [])) ++ ls) fs (rs ++ rest) stops
    ∙ pops op r.column (((out ++ (one ∷ [])) ++ ls) ++ ms) fs v (rs ++ rest) (omega arith) leaves
    ∙ ih ((((out ++ (one ∷ [])) ++ ls) ++ ms) ++ (list_close ∷ [])) fs rest same top st
    ∙ ap (λ x. run (at x fs q) rest) (simp append_assoc)

step_next : (op : Junction) (c : ℕ) (out : List Lexeme) (fs : List Frame) (p : Bool) (r : Lexeme) → r.column ≡ c → kind_of r.token ≡ kind.Junction op → step (at out (f.List op c ∷ fs) p) r ≡ Some (at (out ++ (mark_at t.ListNext r ∷ [])) (f.List op c ∷ fs) false)
unfolding step
step_next op c out fs p r same is = ap (λ s. placed_at s (at out (f.List op c ∷ fs) p) r) (settle_next op c fs r same is)

passes_next : (op : Junction) (c : ℕ) (p u q : Bool) (r : Lexeme) (xs ys ms ns : List Lexeme) → kind_of r.token ≡ kind.Junction op → r.column ≡ c → Bullets op c u ys ns q → Passes false (c + 1) false xs ms u → PassesBullets op c u ys ns q → PassesBullets op c p (r ∷ (xs ++ ys)) (mark_at t.ListNext r ∷ (ms ++ ns)) q
passes_next op c p u q r xs ys ms ns is same d inner ih out fs rest st =
    let one = mark_at t.ListNext r in
    ap (λ m. run_by m ((xs ++ ys) ++ rest)) (step_next op c out fs p r same is)
    ∙ ap (λ x. run (at (out ++ (one ∷ [])) (f.List op c ∷ fs) false) x) (append_assoc xs ys rest)
    ∙ inner (out ++ (one ∷ [])) (f.List op c ∷ fs) (ys ++ rest) refl (λ e. absurd (cc)) (item_stops op c ys rest u q ns d st)
    ∙ ih ((out ++ (one ∷ [])) ++ ms) fs rest st
    ∙ ap (λ x. run (at x (f.List op c ∷ fs) q) rest) (simp append_assoc)

mutual
  passes : {s : Bool} {b : ℕ} {p : Bool} {rs ms : List Lexeme} {q : Bool} → Marked s b p rs ms q → Passes s b p rs ms q
  passes (l.done {s} {b} {p}) = λ out fs rest same top st. ap (λ x. run (at x fs p) rest) (sym (append-nil out))
  passes (l.plain {s} {b} {p} {q} {r} {rs} {ms} low is d) = passes_plain s b p q r rs ms low is (passes d)
  passes (l.separator {b} {p} {q} {r} {rs} {ms} low is d) = passes_separator b p q r rs ms low is (passes d)
  passes (l.bracket {s} {b} {p} {u} {q} {k} {o} z {xs} {rs} {ms} {ns} low is d low2 is2 d') = passes_bracket s b p u q k o z xs rs ms ns low is low2 is2 (passes d) (passes d')
  passes (l.list {s} {b} {u} {v} {q} {op} {r} {xs} {ys} {rs} {ls} {ms} {ns} low is d d' past d'') = passes_list s b u v q op r xs ys rs ls ms ns low is d' past (passes d) (passes_bullets d') (passes d'')

  passes_bullets : {op : Junction} {c : ℕ} {p : Bool} {rs ms : List Lexeme} {q : Bool} → Bullets op c p rs ms q → PassesBullets op c p rs ms q
  passes_bullets (l.none {op} {c} {p}) = λ out fs rest st. ap (λ x. run (at x (f.List op c ∷ fs) p) rest) (sym (append-nil out))
  passes_bullets (l.next {op} {c} {p} {u} {q} {r} {xs} {ys} {ms} {ns} is same d d') = passes_next op c p u q r xs ys ms ns is same d' (passes d) (passes_bullets d')

pub marks_only : (rs ms : List Lexeme) → Marks rs ms → marked rs ≡ Some ms
unfolding finish
marks_only rs ms h = ap (λ x. run start x) (sym (append-nil rs)) ∙ passes h.1 [] [] [] refl (λ _. tt) tt ∙ ap Some (append-nil ms)
