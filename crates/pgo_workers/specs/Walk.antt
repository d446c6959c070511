-- A section as a tree of accesses: which resource is accessed, what is left in it, and where what was found leads.
use Rattle.std.proofs.Common.{◌≡◌, ℕ, Bool, true, false, List, [], ◌∷◌, ◌++◌, refl, sym, ap, ◌∙◌, arith}
use Rattle.std.specs.Prelude.{if◌then◌else◌, nat_eq}
use Rattle.pgo_base.specs.Data.{Data}
use Rattle.pgo_base.specs.Lookup.{Vars}
use Rattle.pgo_model.specs.Outcome.{Kind}
use Rattle.pgo_model.specs.Machine.{among, put}

-- the instance's own components: `pc` and each of its variables, with what it has at the identifier
abbrev pub Own : Type 0
Own = Vars

-- how a section's code ends: with what it leaves of the instance's own components, or in a note
pub data End : Type 0 where
  Goes : (own : Own) → (prints : List Data) → End
  Sticks : (kind : Kind) → End

-- a walk over the resources, with an end of E
pub data Steps (E : Type 0) : Type 0 where
  Stop : (e : E) → Steps E
  -- the content of r becomes `leave` of what it was, and `rest` of that is what follows
  Touch : (r : ℕ) → (leave : Data → Data) → (rest : Data → Steps E) → Steps E
  -- all contents are put back as they were at the start, and then w
  Again : (w : Steps E) → Steps E

abbrev pub Walk : Type 0
Walk = Steps End

-- the accesses on these values, how it ends, and the values that it leaves, where s are the values at the start
abbrev pub visits_from : {E : Type 0} → (s : ℕ → Data) → Steps E → (ℕ → Data) → List ℕ
visits_from s (Stop e) f = []
visits_from s (Touch r leave rest) f = r ∷ visits_from s (rest (f r)) (put r (leave (f r)) f)
visits_from s (Again w) f = visits_from s w s

abbrev pub ending_from : {E : Type 0} → (s : ℕ → Data) → Steps E → (ℕ → Data) → E
ending_from s (Stop e) f = e
ending_from s (Touch r leave rest) f = ending_from s (rest (f r)) (put r (leave (f r)) f)
ending_from s (Again w) f = ending_from s w s

abbrev pub final_from : {E : Type 0} → (s : ℕ → Data) → Steps E → (ℕ → Data) → ℕ → Data
final_from s (Stop e) f = f
final_from s (Touch r leave rest) f = final_from s (rest (f r)) (put r (leave (f r)) f)
final_from s (Again w) f = final_from s w s

-- of a walk from its start
abbrev pub visits : {E : Type 0} → Steps E → (ℕ → Data) → List ℕ
visits w f = visits_from f w f

abbrev pub ending : {E : Type 0} → Steps E → (ℕ → Data) → E
ending w f = ending_from f w f

abbrev pub final : {E : Type 0} → Steps E → (ℕ → Data) → ℕ → Data
final w f = final_from f w f

-- behind all places where contents are put back, up to the next access or the end; and whether there is one
abbrev pub settled : {E : Type 0} → Steps E → Steps E
settled (Stop e) = Stop e
settled (Touch r leave rest) = Touch r leave rest
settled (Again w) = settled w

abbrev pub goes_back : {E : Type 0} → Steps E → Bool
goes_back (Stop e) = false
goes_back (Touch r leave rest) = false
goes_back (Again w) = true

abbrev pub Leaves : (Own → Type 0) → End → Type 0
Leaves Q (Goes own prints) = Q own
Leaves Q (Sticks kind) = Unit {0}

-- whatever is found, each access is of a resource that meets P, and what is left of the own components meets Q
abbrev pub Within : (ℕ → Type 0) → (Own → Type 0) → Walk → Type 0
Within P Q (Stop e) = Leaves Q e
Within P Q (Touch r leave rest) = P r × ((v : Data) → Within P Q (rest v))
Within P Q (Again w) = Within P Q w

-- of a walk in which nothing is put back: whatever is found, each access is of a resource that meets P, and its end meets Q
abbrev pub StraightWithin : {E : Type 0} → (ℕ → Type 0) → (E → Type 0) → Steps E → Type 0
StraightWithin P Q (Stop e) = Q e
StraightWithin P Q (Touch r leave rest) = P r × ((v : Data) → StraightWithin P Q (rest v))
StraightWithin P Q (Again w) = ⊥

-- a resource with a value
abbrev pub At : Type 0
At = ℕ × Data

abbrev pub Agrees : List At → (ℕ → Data) → Type 0
Agrees [] f = Unit {0}
Agrees (v ∷ vs) f = (f v.0 ≡ v.1) × Agrees vs f

abbrev pub replaced : ℕ → Data → List At → List At
replaced r x [] = []
replaced r x (v ∷ vs) = (v.0, if nat_eq v.0 r then x else v.1) ∷ replaced r x vs

-- the first occurrences, behind what is taken
abbrev pub taken_after : List ℕ → List ℕ → List ℕ
taken_after [] taken = taken
taken_after (r ∷ rs) taken = if among r taken then taken_after rs taken else taken_after rs (taken ++ (r ∷ []))

-- behind the accesses p of w0 on f there stands w, on g
pub record Ahead {E : Type 0} (w0 : Steps E) (f : ℕ → Data) (p : List ℕ) (w : Steps E) (g : ℕ → Data) : Type 0 where
  pub trace : visits w0 f ≡ p ++ visits_from f w g
  pub ends : ending w0 f ≡ ending_from f w g
  pub leaves : (r : ℕ) → final w0 f r ≡ final_from f w g r
  pub fresh : (r : ℕ) → among r p ≡ false → g r ≡ f r

-- on all values that agree with `bases`, there stands w behind p, and what is held is as `nows`
abbrev pub Along : Walk → List At → List ℕ → Walk → List At → Type 0
Along w0 bases p w nows = (f : ℕ → Data) → Agrees bases f → (g : ℕ → Data) × Ahead w0 f p w g × Agrees nows g

pub agrees_append : (a b : List At) (f : ℕ → Data) → Agrees a f → Agrees b f → Agrees (a ++ b) f
agrees_append [] b f h k = k
agrees_append (v ∷ a) b f h k = (h.0, agrees_append a b f h.1 k)

pub agrees_first : (a b : List At) (f : ℕ → Data) → Agrees (a ++ b) f → Agrees a f
agrees_first [] b f h = tt
agrees_first (v ∷ a) b f h = (h.0, agrees_first a b f h.1)

pub agrees_second : (a b : List At) (f : ℕ → Data) → Agrees (a ++ b) f → Agrees b f
agrees_second [] b f h = h
agrees_second (v ∷ a) b f h = agrees_second a b f h.1

pub agrees_replaced : (r : ℕ) (x : Data) (vs : List At) (g : ℕ → Data) → Agrees vs g → Agrees (replaced r x vs) (put r x g)
agrees_replaced r x [] g h = tt
agrees_replaced r x (v ∷ vs) g h = (go (nat_eq v.0 r), agrees_replaced r x vs g h.1)
  where
    go : (b : Bool) → (if b then x else g v.0) ≡ (if b then x else v.1)
    go true = refl
    go false = h.0

-- a list of members: of two lists joined
pub among_append : (r : ℕ) (a b : List ℕ) → among r (a ++ b) ≡ (if among r a then true else among r b)
among_append r [] b = refl
among_append r (x ∷ a) b = go (nat_eq r x) (among_append r a b)
  where
    go : (c : Bool) → among r (a ++ b) ≡ (if among r a then true else among r b)
        → (if c then true else among r (a ++ b)) ≡ (if (if c then true else among r a) then true else among r b)
    go true ih = refl
    go false ih = ih

pub not_either : (a b : Bool) → (if a then true else b) ≡ false → (a ≡ false) × (b ≡ false)
not_either true b h = absurd (grind (arith, h))
not_either false b h = (refl, h)

pub append_assoc : {A : Type 0} (a b c : List A) → (a ++ b) ++ c ≡ a ++ (b ++ c)
append_assoc [] b c = refl
append_assoc (x ∷ a) b c = ap (λ l. x ∷ l) (append_assoc a b c)

pub along_start : (w : Walk) → Along w [] [] w []
along_start w f h = (f, record { trace = refl; ends = refl; leaves = λ r. refl; fresh = λ r e. refl }, tt)

-- a further resource is held, which wasn't accessed
pub along_takes : (w0 w : Walk) (bases nows : List At) (p : List ℕ) (r : ℕ) (v : Data) → among r p ≡ false → Along w0 bases p w nows → Along w0 (bases ++ ((r, v) ∷ [])) p w (nows ++ ((r, v) ∷ []))
along_takes w0 w bases nows p r v new along f h =
    let q = along f (agrees_first bases ((r, v) ∷ []) f h) in
    let at : f r ≡ v = (agrees_second bases ((r, v) ∷ []) f h).0 in
    (q.0, q.1, agrees_append nows ((r, v) ∷ []) q.0 q.2 (q.1.fresh r new ∙ at, tt))

-- one access more
pub along_operates : (w0 : Walk) (bases nows : List At) (p : List ℕ) (r : ℕ) (x : Data) (leave : Data → Data) (rest : Data → Walk)
    → ((g : ℕ → Data) → Agrees nows g → g r ≡ x) → Along w0 bases p (Touch r leave rest) nows → Along w0 bases (p ++ (r ∷ [])) (rest x) (replaced r (leave x) nows)
along_operates w0 bases nows p r x leave rest is along f h =
    let q = along f h in let g = q.0 in let a = q.1 in let e : g r ≡ x = is g q.2 in (
      put r (leave x) g,
      record {
        trace = a.trace ∙ ap (λ y. p ++ (r ∷ visits_from f (rest y) (put r (leave y) g))) e ∙ sym (append_assoc p (r ∷ []) (visits_from f (rest x) (put r (leave x) g)));
        ends = a.ends ∙ ap (λ y. ending_from f (rest y) (put r (leave y) g)) e;
        leaves = λ i. a.leaves i ∙ ap (λ y. final_from f (rest y) (put r (leave y) g) i) e;
        fresh = λ i n. let d = not_either (among i p) (among i (r ∷ [])) (sym (among_append i p (r ∷ [])) ∙ n) in go i g (nat_eq i r) d.1 ∙ a.fresh i d.0;
      },
      agrees_replaced r (leave x) nows g q.2,
    )
  where
    go : (i : ℕ) (g : ℕ → Data) (b : Bool) → (if b then true else false) ≡ false → (if b then leave x else g i) ≡ g i
    go i g true n = absurd (grind (arith, n))
    go i g false n = refl

-- contents are put back
pub along_again : (w0 w : Walk) (bases nows : List At) (p : List ℕ) → Along w0 bases p (Again w) nows → Along w0 bases p w bases
along_again w0 w bases nows p along f h =
    let a = (along f h).1 in (f, record { trace = a.trace; ends = a.ends; leaves = a.leaves; fresh = λ r e. refl }, h)

abbrev pub behind : {A : Type 0} → Walk → (back stay : A) → A
behind w back stay = if goes_back w then back else stay

pub along_settled : (w0 w : Walk) (bases nows : List At) (p : List ℕ) → Along w0 bases p w nows → Along w0 bases p (settled w) (behind w bases nows)
along_settled w0 (Stop e) bases nows p along = along
along_settled w0 (Touch r leave rest) bases nows p along = along
along_settled w0 (Again w) bases nows p along = go (goes_back w) (along_settled w0 w bases bases p (along_again w0 w bases nows p along))
  where
    go : (b : Bool) → Along w0 bases p (settled w) (if b then bases else bases) → Along w0 bases p (settled w) bases
    go true h = h
    go false h = h

pub within_settled : (P : ℕ → Type 0) (Q : Own → Type 0) (w : Walk) → Within P Q w → Within P Q (settled w)
within_settled P Q (Stop e) h = h
within_settled P Q (Touch r leave rest) h = h
within_settled P Q (Again w) h = within_settled P Q w h

pub settled_stays : {E : Type 0} (w : Steps E) → goes_back (settled w) ≡ false
settled_stays (Stop e) = refl
settled_stays (Touch r leave rest) = refl
settled_stays (Again w) = settled_stays w

-- what a walk does from its start is what it does behind the places where contents are put back
pub visits_settled : {E : Type 0} (w : Steps E) (f : ℕ → Data) → visits (settled w) f ≡ visits w f
visits_settled (Stop e) f = refl
visits_settled (Touch r leave rest) f = refl
visits_settled (Again w) f = visits_settled w f

pub ending_settled : {E : Type 0} (w : Steps E) (f : ℕ → Data) → ending (settled w) f ≡ ending w f
ending_settled (Stop e) f = refl
ending_settled (Touch r leave rest) f = refl
ending_settled (Again w) f = ending_settled w f

pub final_settled : {E : Type 0} (w : Steps E) (f : ℕ → Data) → final (settled w) f ≡ final w f
final_settled (Stop e) f = refl
final_settled (Touch r leave rest) f = refl
final_settled (Again w) f = final_settled w f
