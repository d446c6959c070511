-- The tokens that are marked up to a fault: what is taken, and what closes what is open there.
use Rattle.std.proofs.Common.{◌≡◌, ◌≤◌, ◌<◌, ◌+◌, ℕ, Bool, true, false, ◌&&◌, cond, nat_lt, nat_eq, List, [], ◌∷◌, ◌++◌, length, map, Option, Some, None, Result, Ok, Err, IfOk, IfErr, inl, refl, sym, ◌∙◌, ap, subst, arith}
use Rattle.std.specs.List.{All}
use Rattle.std.proofs.lemmas.List.{append_assoc, append-nil}
use Rattle.std.proofs.lemmas.List.Elements.{All-nil, All-cons, All-append, All-head, All-tail}
use Rattle.pgo_lexer.specs.declared.symbol.Bracket.{Bracket}
use Rattle.pgo_lexer.specs.declared.symbol.Junction.{Junction}
use Rattle.pgo_lexer.specs.declared.token.Lexeme.{Lexeme}
use Rattle.pgo_lexer.specs.declared.before.Before.{Before}
use Rattle.pgo_lexer.specs.declared.kind.Role.{Role}
use Rattle.pgo_lexer.specs.declared.kind.Role.TheVariants as role
use Rattle.pgo_lexer.specs.declared.stack.Frame.{Frame}
use Rattle.pgo_lexer.specs.declared.stack.Frame.TheVariants as f
use Rattle.pgo_lexer.specs.declared.marker.Marker.{Marker}
use Rattle.pgo_lexer.specs.Kinds.{kind_of, role_of, is_same_bracket, is_junction}
use Rattle.pgo_lexer.specs.Layout.{list_close, Marks}
use Rattle.pgo_lexer.specs.Marking.{at, start, bound, Settled, stays, closing, next_item, settle, unlisted, close_by, placed, step, finish, finish_by, run_by}
use Rattle.pgo_lexer.specs.declared.errors.TextStop.{TextStop}
use Rattle.pgo_lexer.specs.declared.errors.TextStop.TheVariants.{Syntax}
use Rattle.pgo_lexer.specs.Answers.{Gives}
use Rattle.pgo_lexer.specs.Ends.{end_of, ends, ended, IsRefusal}
use Rattle.pgo_lexer.specs.Prefixes.{LexesTo, StopsAt, IsMarkedTo, AreCounted, AreTokensBefore}
use Rattle.pgo_lexer.specs.Prefixes as p
use Rattle.pgo_lexer.proofs.Runs.{if_some, no_some, cond_true}
use Rattle.pgo_lexer.proofs.MarksComplete.{step_placed, placed_ends, same_bracket, marks_only}
use Rattle.pgo_lexer.proofs.MarksSound.{marks_found}

-- ---- the state behind tokens

abbrev pub steps : Option Marker → List Lexeme → Option Marker
steps None rs = None
steps (Some m) [] = Some m
steps (Some m) (r ∷ rs) = steps (step m r) rs

run_steps : (o : Option Marker) (xs ys : List Lexeme) → run_by o (xs ++ ys) ≡ run_by (steps o xs) ys
run_steps None xs ys = refl
run_steps (Some m) [] ys = refl
run_steps (Some m) (r ∷ rs) ys = run_steps (step m r) rs ys

steps_more : (o : Option Marker) (xs ys : List Lexeme) → steps o (xs ++ ys) ≡ steps (steps o xs) ys
steps_more None xs ys = refl
steps_more (Some m) [] ys = refl
steps_more (Some m) (r ∷ rs) ys = steps_more (step m r) rs ys

steps_end : (o : Option Marker) → steps o [] ≡ o
steps_end None = refl
steps_end (Some m) = refl

-- the tokens that were taken before those that are left, and the state behind them
pub record Taken (fault : ℕ) (tokens rest : List Lexeme) (m : Marker) : Type 0 where
  pub taken : List Lexeme
  pub both : tokens ≡ taken ++ rest
  pub before : All (λ t. t.start < fault) taken
  pub is : steps (Some start) taken ≡ Some m

pub taken_none : (fault : ℕ) (tokens : List Lexeme) → Taken fault tokens tokens start
taken_none fault tokens = record { taken = []; both = refl; before = All-nil (λ t. t.start < fault); is = refl }

pub taken_more : (fault : ℕ) (tokens rest : List Lexeme) (r : Lexeme) (m n : Marker) → Taken fault tokens (r ∷ rest) m → r.start < fault → step m r ≡ Some n → Taken fault tokens rest n
taken_more fault tokens rest r m n h less e = record {
  taken = h.taken ++ r ∷ [];
  both = h.both ∙ sym (append_assoc h.taken (r ∷ []) rest);
  before = All-append (λ (t : Lexeme). t.start < fault) h.taken (r ∷ []) h.before (All-cons (λ (t : Lexeme). t.start < fault) r [] less (All-nil (λ (t : Lexeme). t.start < fault)));
  is = steps_more (Some start) h.taken (r ∷ []) ∙ ap (λ o. steps o (r ∷ [])) h.is ∙ steps_end (step m r) ∙ e;
}

-- ---- what is open stands left of an end

abbrev Low : List Frame → Type 0
Low [] = Unit {0}
Low (f.Bracket k b ∷ fs) = (b ≤ 18446744073709551615) × Low fs
Low (f.List op c ∷ fs) = (c < 18446744073709551615) × Low fs

low_bound : (fs : List Frame) → Low fs → bound fs ≤ 18446744073709551615
low_bound [] h = omega arith
low_bound (f.Bracket k b ∷ fs) h = h.0
low_bound (f.List op c ∷ fs) h = let k = h.0 in omega (arith, k)

low_if : (b : Bool) (x y : Settled) → Low x.frames → Low y.frames → Low (cond b x y).frames
low_if true x y h k = h
low_if false x y h k = k

settled_low : (r : Lexeme) (fs : List Frame) → Low fs → Low (settle r fs).frames
settled_low r [] h = tt
settled_low r (f.Bracket k b ∷ fs) h = h
settled_low r (f.List op c ∷ fs) h =
    let all = f.List op c ∷ fs in
    low_if (nat_lt c r.column) (stays all) (cond (nat_eq c r.column && is_junction op (kind_of r.token)) (next_item all r) (closing (settle r fs))) h
    (low_if (nat_eq c r.column && is_junction op (kind_of r.token)) (next_item all r) (closing (settle r fs)) h (settled_low r fs h.1))

unlisted_low : (fs : List Frame) → Low fs → Low (unlisted fs).frames
unlisted_low [] h = tt
unlisted_low (f.Bracket k b ∷ fs) h = h
unlisted_low (f.List op c ∷ fs) h = unlisted_low fs h.1

is_low : (m n : Marker) → Some m ≡ Some n → Low m.frames → Low n.frames
is_low m n e h = let same : m ≡ n = cc in subst (λ (x : Marker). Low x.frames) same h

close_low : (k : Bracket) (r : Lexeme) (out : List Lexeme) (fs : List Frame) (n : Marker) → Low fs → close_by k r out fs ≡ Some n → Low n.frames
close_low k r out [] n h e = no_some n _ e
close_low k r out (f.List op c ∷ fs) n h e = no_some n _ e
close_low k r out (f.Bracket l b ∷ fs) n h e =
    if_some (is_same_bracket k l) (Some (at (out ++ r ∷ []) fs true)) None n (Low n.frames) e (λ _ e. is_low (at (out ++ r ∷ []) fs true) n e h.1) (λ _ e. no_some n (Low n.frames) e)

placed_low : (o : Role) (r : Lexeme) (out : List Lexeme) (fs : List Frame) (n : Marker) → Low fs → r.column < 18446744073709551615 → placed o r out fs ≡ Some n → Low n.frames
placed_low (role.Open k) r out fs n h low e = is_low _ n e (low_bound fs h, h)
placed_low (role.Close k) r out fs n h low e = close_low k r (out ++ (unlisted fs).marks) (unlisted fs).frames n (unlisted_low fs h) e
placed_low (role.Bullet op) r out fs n h low e = is_low _ n e (low, h)
placed_low role.Separator r out fs n h low e = is_low _ n e (unlisted_low fs h)
placed_low role.Plain r out fs n h low e = is_low _ n e h

step_low : (m : Marker) (r : Lexeme) (n : Marker) → Low m.frames → r.column < 18446744073709551615 → step m r ≡ Some n → Low n.frames
unfolding step
step_low m r n h low e =
    let s = settle r m.frames in
    let k : Low s.frames = settled_low r m.frames h in
    let rest = placed (role_of m.after_operand (kind_of r.token)) r (m.out ++ s.marks) s.frames in
    if_some s.is_next (Some (at (m.out ++ s.marks) s.frames false)) (cond (nat_lt r.column (bound s.frames)) None rest) n (Low n.frames) e
    (λ _ e. is_low (at (m.out ++ s.marks) s.frames false) n e k)
    (λ _ e. if_some (nat_lt r.column (bound s.frames)) None rest n (Low n.frames) e (λ _ e. no_some n (Low n.frames) e)
    (λ _ e. placed_low (role_of m.after_operand (kind_of r.token)) r (m.out ++ s.marks) s.frames n k low e))

abbrev LowBy : Option Marker → Type 0
LowBy None = Unit {0}
LowBy (Some m) = Low m.frames

low_by : (m : Marker) (r : Lexeme) (o : Option Marker) → Low m.frames → r.column < 18446744073709551615 → step m r ≡ o → LowBy o
low_by m r None h low e = tt
low_by m r (Some n) h low e = step_low m r n h low e

steps_low : (o : Option Marker) (rs : List Lexeme) (n : Marker) → LowBy o → AreCounted rs → steps o rs ≡ Some n → Low n.frames
steps_low None rs n h all e = no_some n _ e
steps_low (Some m) [] n h all e = is_low m n e h
steps_low (Some m) (r ∷ rs) n h all e =
    let Counted : Lexeme → Type 0 = λ t. t.column < 18446744073709551615 in
    steps_low (step m r) rs n (low_by m r (step m r) h (All-head Counted r rs all) refl) (All-tail Counted r rs all) e

-- ---- the ends of what is open

abbrev open_brackets : List Frame → List Bracket
open_brackets [] = []
open_brackets (f.Bracket k b ∷ fs) = k ∷ open_brackets fs
open_brackets (f.List op c ∷ fs) = open_brackets fs

-- a list ends before a bracket's end, and at the end of the tokens
pops_ends : (offset : ℕ) (op : Junction) (c : ℕ) (out : List Lexeme) (fs : List Frame) (p : Bool) (ks : List Bracket) → c < 18446744073709551615 → Low fs
    → run_by (Some (at out (f.List op c ∷ fs) p)) (map (end_of offset) ks) ≡ run_by (Some (at (out ++ (list_close ∷ [])) fs p)) (map (end_of offset) ks)
unfolding finish
pops_ends offset op c out fs p [] less h = ap (λ x. finish_by x (unlisted fs).frames) (sym (append_assoc out (list_close ∷ []) (unlisted fs).marks))
pops_ends offset op c out fs p (k ∷ ks) less h =
    ap (λ s. run_by s (map (end_of offset) ks))
    (step_placed out (f.List op c ∷ fs) p (end_of offset k) (omega (arith, less)) ∙ placed_ends op c out fs p (end_of offset k) (kind_of (end_of offset k).token) (inl (k, refl))
    ∙ sym (step_placed (out ++ (list_close ∷ [])) fs p (end_of offset k) (low_bound fs h)))

regrouped : (out : List Lexeme) (r : Lexeme) (more : List Lexeme) → ((out ++ []) ++ r ∷ []) ++ more ≡ out ++ r ∷ more
regrouped out r more = append_assoc (out ++ []) (r ∷ []) more ∙ ap (λ x. x ++ r ∷ more) (append-nil out)

run_closes : (offset : ℕ) (out : List Lexeme) (fs : List Frame) (p : Bool) → Low fs → run_by (Some (at out fs p)) (map (end_of offset) (open_brackets fs)) ≡ Some (out ++ ends offset fs)
unfolding finish
run_closes offset out [] p h = refl
run_closes offset out (f.Bracket k b ∷ fs) p h =
    let r = end_of offset k in
    ap (λ s. run_by s (map (end_of offset) (open_brackets fs)))
    (step_placed out (f.Bracket k b ∷ fs) p r h.0 ∙ cond_true (is_same_bracket k k) (Some (at ((out ++ []) ++ r ∷ []) fs true)) None (same_bracket k))
    ∙ run_closes offset ((out ++ []) ++ r ∷ []) fs true h.1 ∙ ap Some (regrouped out r (ends offset fs))
run_closes offset out (f.List op c ∷ fs) p h =
    pops_ends offset op c out fs p (open_brackets fs) h.0 h.1 ∙ run_closes offset (out ++ list_close ∷ []) fs p h.1 ∙ ap Some (append_assoc out (list_close ∷ []) (ends offset fs))

-- ---- the whole

front_counted : (xs ys : List Lexeme) → AreCounted (xs ++ ys) → AreCounted xs
front_counted [] ys h = All-nil (λ (t : Lexeme). t.column < 18446744073709551615)
front_counted (x ∷ xs) ys h =
    let Counted : Lexeme → Type 0 = λ t. t.column < 18446744073709551615 in
    All-cons Counted x xs (All-head Counted x (xs ++ ys) h) (front_counted xs ys (All-tail Counted x (xs ++ ys) h))

marked_to : (fault : ℕ) (tokens rest : List Lexeme) (m : Marker) (b : Before) (t : Taken fault tokens rest m) → AreCounted tokens → b.tokens ≡ ended b.fault m → StopsAt fault t.taken rest b.fault → IsMarkedTo fault tokens b
marked_to fault tokens rest m b t counted e stops =
    let low : Low m.frames = steps_low (Some start) t.taken m tt (front_counted t.taken rest (subst AreCounted t.both counted)) t.is in
    let closers = map (end_of b.fault) (open_brackets m.frames) in
    record {
      taken = t.taken;
      left = rest;
      brackets = open_brackets m.frames;
      both = t.both;
      before = t.before;
      marked = marks_found (t.taken ++ closers) b.tokens
          (run_steps (Some start) t.taken closers ∙ ap (λ o. run_by o closers) t.is ∙ run_closes b.fault m.out m.frames m.after_operand low ∙ ap Some (sym e));
      stops = stops;
    }

-- an answer at this offset
abbrev pub IsEnded : (first : ℕ) → Marker → Before → Type 0
IsEnded first m b = (b.tokens ≡ ended first m) × (b.fault ≡ first)

answered : (fault first : ℕ) (tokens rest : List Lexeme) (m : Marker) (b : Before) (t : Taken fault tokens rest m) → AreCounted tokens → IsEnded first m b → StopsAt fault t.taken rest first → IsMarkedTo fault tokens b
answered fault first tokens rest m b t counted e stops =
    marked_to fault tokens rest m b t counted (e.0 ∙ ap (λ n. ended n m) (sym e.1)) (subst (λ n. StopsAt fault t.taken rest n) (sym e.1) stops)

-- all tokens are taken
pub all_marked : (fault : ℕ) (tokens : List Lexeme) (m : Marker) (b : Before) → Taken fault tokens [] m → AreCounted tokens → IsEnded fault m b → IsMarkedTo fault tokens b
all_marked fault tokens m b t counted e = answered fault fault tokens [] m b t counted e p.all

-- the next token is behind the fault
pub marked_to_fault : (fault : ℕ) (tokens rest : List Lexeme) (r : Lexeme) (m : Marker) (b : Before) → Taken fault tokens (r ∷ rest) m → fault ≤ r.start → AreCounted tokens → IsEnded fault m b → IsMarkedTo fault tokens b
marked_to_fault fault tokens rest r m b t behind counted e = answered fault fault tokens (r ∷ rest) m b t counted e (p.reached behind)

none_goes_on : (fault : ℕ) (tokens rest : List Lexeme) (r : Lexeme) (m : Marker) (t : Taken fault tokens (r ∷ rest) m) → step m r ≡ None → (more ms : List Lexeme) → Marks (t.taken ++ r ∷ more) ms → ⊥
none_goes_on fault tokens rest r m t none more ms h =
    no_some ms ⊥
    (sym (ap (λ o. run_by o more) none) ∙ sym (ap (λ o. run_by o (r ∷ more)) t.is) ∙ sym (run_steps (Some start) t.taken (r ∷ more)) ∙ marks_only (t.taken ++ r ∷ more) ms h)

-- the next token can't stand there; what was left open by its refusal is closed as before
pub marked_to_refused : (fault : ℕ) (tokens rest : List Lexeme) (r : Lexeme) (m n : Marker) (b : Before) → Taken fault tokens (r ∷ rest) m → r.start < fault → step m r ≡ None
    → ended r.start n ≡ ended r.start m → AreCounted tokens → IsEnded r.start n b → IsMarkedTo fault tokens b
marked_to_refused fault tokens rest r m n b t less none same counted e =
    answered fault r.start tokens (r ∷ rest) m b t counted (e.0 ∙ same, e.1) (p.refused less (none_goes_on fault tokens rest r m t none))

-- ---- what a refused token leaves

settled_by : (b : Bool) (x y : Settled) (offset : ℕ) (out : List Lexeme) (all : List Lexeme) → (x.is_next ≡ false → out ++ x.marks ++ ends offset x.frames ≡ all) → (y.is_next ≡ false → out ++ y.marks ++ ends offset y.frames ≡ all)
    → (cond b x y).is_next ≡ false → out ++ (cond b x y).marks ++ ends offset (cond b x y).frames ≡ all
settled_by true x y offset out all h k = h
settled_by false x y offset out all h k = k

-- lists that a token ends are closed as they would be at the end
pub settled_ends : (offset : ℕ) (r : Lexeme) (out : List Lexeme) (fs : List Frame) → (settle r fs).is_next ≡ false → out ++ (settle r fs).marks ++ ends offset (settle r fs).frames ≡ out ++ ends offset fs
settled_ends offset r out [] h = ap (λ x. x ++ []) (append-nil out)
settled_ends offset r out (f.Bracket k b ∷ fs) h = ap (λ x. x ++ ends offset (f.Bracket k b ∷ fs)) (append-nil out)
settled_ends offset r out (f.List op c ∷ fs) h =
    let all = f.List op c ∷ fs in
    let next = nat_eq c r.column && is_junction op (kind_of r.token) in
    settled_by (nat_lt c r.column) (stays all) (cond next (next_item all r) (closing (settle r fs))) offset out (out ++ ends offset all)
    (λ _. ap (λ x. x ++ ends offset all) (append-nil out))
    (settled_by next (next_item all r) (closing (settle r fs)) offset out (out ++ ends offset all) (λ e. absurd (cc))
    (λ e. closing_ends offset out (settle r fs) fs (settled_ends offset r (out ++ list_close ∷ []) fs e))) h
  where
    closing_ends : (offset : ℕ) (out : List Lexeme) (s : Settled) (fs : List Frame) → (out ++ list_close ∷ []) ++ s.marks ++ ends offset s.frames ≡ (out ++ list_close ∷ []) ++ ends offset fs
        → out ++ (closing s).marks ++ ends offset (closing s).frames ≡ out ++ list_close ∷ ends offset fs
    closing_ends offset out s fs e = ap (λ x. x ++ ends offset s.frames) (sym (append_assoc out (list_close ∷ []) s.marks)) ∙ e ∙ append_assoc out (list_close ∷ []) (ends offset fs)

pub unlisted_ends : (offset : ℕ) (out : List Lexeme) (fs : List Frame) → out ++ (unlisted fs).marks ++ ends offset (unlisted fs).frames ≡ out ++ ends offset fs
unlisted_ends offset out [] = ap (λ x. x ++ []) (append-nil out)
unlisted_ends offset out (f.Bracket k b ∷ fs) = ap (λ x. x ++ ends offset (f.Bracket k b ∷ fs)) (append-nil out)
unlisted_ends offset out (f.List op c ∷ fs) =
    ap (λ x. x ++ ends offset (unlisted fs).frames) (sym (append_assoc out (list_close ∷ []) (unlisted fs).marks)) ∙ unlisted_ends offset (out ++ list_close ∷ []) fs ∙ append_assoc out (list_close ∷ []) (ends offset fs)

-- what is left is closed as it was before lists were ended
pub unlisted_same : (old new : Marker) → new.out ≡ old.out ++ (unlisted old.frames).marks → new.frames ≡ (unlisted old.frames).frames → (offset : ℕ) → ended offset new ≡ ended offset old
unlisted_same old new out frames offset = (λ i. out i ++ ends offset (frames i)) ∙ unlisted_ends offset old.out old.frames

pub settled_same : (old new : Marker) (r : Lexeme) → new.out ≡ old.out ++ (settle r old.frames).marks → new.frames ≡ (settle r old.frames).frames → (settle r old.frames).is_next ≡ false
    → (offset : ℕ) → ended offset new ≡ ended offset old
settled_same old new r out frames none offset = (λ i. out i ++ ends offset (frames i)) ∙ settled_ends offset r old.out old.frames none

-- a refusal behind such a step is one before it
pub refusal_from : {A : Type 0} (place : ℕ) (old mid new : Marker) (r : Result A TextStop) → ((offset : ℕ) → ended offset mid ≡ ended offset old) → IfErr r (IsRefusal place mid new) → IfErr r (IsRefusal place old new)
refusal_from place old mid new (Ok a) same h = tt
refusal_from place old mid new (Err e) same h = (h.0, λ s offset. h.1 s offset ∙ same offset)

-- ---- the clauses

pub taken_init : (fault : ℕ) (tokens items : List Lexeme) (m : Marker) → items ≡ tokens → m ≡ start → Taken fault tokens items m
taken_init fault tokens items m same is = subst (λ (x : Marker). Taken fault tokens items x) (sym is) (subst (λ (xs : List Lexeme). Taken fault tokens xs start) (sym same) (taken_none fault tokens))

pub none_left : (xs : List Lexeme) (k : ℕ) → k ≡ length xs → k ≡ 0 → xs ≡ []
none_left [] k p q = refl
none_left (x ∷ xs) k p q = absurd (let r = sym p ∙ q in omega (arith, r))

pub ended_earlier : (r : Result Before TextStop) (first fault : ℕ) (m : Marker) → first ≤ fault → IfOk r (λ b. IsEnded first m b) → IfOk r (λ b. b.fault ≤ fault)
ended_earlier (Ok b) first fault m h e = let same = e.1 in omega (arith, h, same)
ended_earlier (Err e) first fault m h k = tt

pub all_marked_by : (r : Result Before TextStop) (fault : ℕ) (tokens rest : List Lexeme) (m : Marker) → rest ≡ [] → Taken fault tokens rest m → AreCounted tokens → IfOk r (λ b. IsEnded fault m b)
    → IfOk r (λ b. IsMarkedTo fault tokens b)
all_marked_by (Ok b) fault tokens rest m none t counted e = all_marked fault tokens m b (subst (λ (xs : List Lexeme). Taken fault tokens xs m) none t) counted e
all_marked_by (Err e) fault tokens rest m none t counted k = tt

pub to_fault_by : (r : Result Before TextStop) (fault : ℕ) (tokens all rest : List Lexeme) (x : Lexeme) (m : Marker) → all ≡ x ∷ rest → Taken fault tokens all m → fault ≤ x.start → AreCounted tokens
    → IfOk r (λ b. IsEnded fault m b) → IfOk r (λ b. IsMarkedTo fault tokens b)
to_fault_by (Ok b) fault tokens all rest x m next t behind counted e = marked_to_fault fault tokens rest x m b (subst (λ (xs : List Lexeme). Taken fault tokens xs m) next t) behind counted e
to_fault_by (Err e) fault tokens all rest x m next t behind counted k = tt

pub refused_by : (r : Result Before TextStop) (fault : ℕ) (tokens all rest : List Lexeme) (x : Lexeme) (m n : Marker) → all ≡ x ∷ rest → Taken fault tokens all m → x.start < fault → step m x ≡ None
    → ended x.start n ≡ ended x.start m → AreCounted tokens → IfOk r (λ b. IsEnded x.start n b) → IfOk r (λ b. IsMarkedTo fault tokens b)
refused_by (Ok b) fault tokens all rest x m n next t less none same counted e =
    marked_to_refused fault tokens rest x m n b (subst (λ (xs : List Lexeme). Taken fault tokens xs m) next t) less none same counted e
refused_by (Err e) fault tokens all rest x m n next t less none same counted k = tt

pub syntax_none : (o : Option Marker) (e : TextStop) (offset : ℕ) → e ≡ Syntax offset → Gives {A = Marker} o (Err e) → o ≡ None
syntax_none o e offset is h = subst (λ x. Gives {A = Marker} o (Err x)) is h

pub syntax_kept : (place : ℕ) (old new : Marker) (e : TextStop) (offset : ℕ) → e ≡ Syntax offset → IsRefusal place old new e → (at : ℕ) → ended at new ≡ ended at old
syntax_kept place old new e offset is h = (subst (IsRefusal place old new) is h).1 tt

pub before_by : (text : List ℕ) (fault : ℕ) (unmarked : List Lexeme) (r : Result Before TextStop) → LexesTo fault 0 0 text unmarked → IfOk r (λ b. IsMarkedTo fault unmarked b) → IfOk r (λ b. AreTokensBefore text fault b)
before_by text fault unmarked (Ok b) lexed marked = record { unmarked = unmarked; lexed = lexed; marked = marked }
before_by text fault unmarked (Err e) lexed marked = tt
