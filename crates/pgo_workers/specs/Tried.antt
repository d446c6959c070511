-- The tree of an attempt that tries its choices one after another, from the trees of the leaves.
use Rattle.std.proofs.Common.{◌≡◌, ℕ, zero, suc, Bool, false, List, [], ◌∷◌, ◌++◌, Option, Some, None, refl, sym, ap, ◌∙◌, arith}
use Rattle.std.specs.Prelude.{if◌then◌else◌}
use Rattle.pgo_base.specs.Data.{Data}
use Rattle.pgo_model.specs.Machine.{put}
use Rattle.pgo_model.specs.Outcome.{Kind, Blocked, Many, Stuck, Section}
use Rattle.pgo_model.specs.System.{Words}
use Rattle.pgo_tries.specs.Chosen.{ChoiceMade, turned}
use Rattle.pgo_tries.specs.Sections.{along}
use Rattle.pgo_tries.specs.Attempts.{Tried, is_blocked, then_next, try_from}
use Rattle.pgo_workers.specs.Walk.{Own, End, Goes, Sticks, Steps, Stop, Touch, Again, Walk, Leaves, Within, StraightWithin, visits_from, ending_from, final_from, visits, ending, final, settled, within_settled, visits_settled, ending_settled, final_settled}

-- how a leaf ends: with an end, or Blocked, with the choices that it made, the first first
pub data LeafEnd : Type 0 where
  Leads : (e : End) → LeafEnd
  Blocks : (points : List ChoiceMade) → LeafEnd

-- what is done by the section with some words of choice
abbrev pub LeafTree : Type 0
LeafTree = Steps LeafEnd

-- what is left of the own components meets Q, where there is no note
abbrev pub LeafLeaves : (Own → Type 0) → LeafEnd → Type 0
LeafLeaves Q (Leads e) = Leaves Q e
LeafLeaves Q (Blocks points) = Unit {0}

-- and then what k makes of the end
abbrev pub and_then : {E F : Type 0} → Steps E → (E → Steps F) → Steps F
and_then (Stop e) k = k e
and_then (Touch r leave rest) k = Touch r leave (λ v. and_then (rest v) k)
and_then (Again w) k = Again (and_then w k)

abbrev pub next_leaf : (List ℕ → Walk) → Option (List ℕ) → Walk
next_leaf f None = Stop (Sticks Blocked)
next_leaf f (Some q) = Again (f q)

abbrev pub on_end : Words → (List ℕ → Walk) → LeafEnd → Walk
on_end w f (Leads e) = Stop e
on_end w f (Blocks points) = next_leaf f (turned w 0 points)

-- at most `room` leaves, from the path p on; each is the tree with the words along its path
abbrev pub trying : (leaf : List ℕ → LeafTree) → Words → (room : ℕ) → List ℕ → Walk
trying leaf w zero p = Stop (Sticks Many)
trying leaf w (suc room) p = and_then (leaf p) (on_end w (λ q. trying leaf w room q))

-- the tree of an attempt, which begins at an access or an end
abbrev pub attempting : (leaf : List ℕ → LeafTree) → Words → (room : ℕ) → Walk
attempting leaf w room = settled (trying leaf w room [])

-- ---- laws

visits_then : {E F : Type 0} (s : ℕ → Data) (t : Steps E) (k : E → Steps F) (f : ℕ → Data) → visits_from s (and_then t k) f ≡ visits_from s t f ++ visits_from s (k (ending_from s t f)) (final_from s t f)
visits_then s (Stop e) k f = refl
visits_then s (Touch r leave rest) k f = ap (λ l. r ∷ l) (visits_then s (rest (f r)) k (put r (leave (f r)) f))
visits_then s (Again t) k f = visits_then s t k s

ending_then : {E F : Type 0} (s : ℕ → Data) (t : Steps E) (k : E → Steps F) (f : ℕ → Data) → ending_from s (and_then t k) f ≡ ending_from s (k (ending_from s t f)) (final_from s t f)
ending_then s (Stop e) k f = refl
ending_then s (Touch r leave rest) k f = ending_then s (rest (f r)) k (put r (leave (f r)) f)
ending_then s (Again t) k f = ending_then s t k s

final_then : {E F : Type 0} (s : ℕ → Data) (t : Steps E) (k : E → Steps F) (f : ℕ → Data) → final_from s (and_then t k) f ≡ final_from s (k (ending_from s t f)) (final_from s t f)
final_then s (Stop e) k f = refl
final_then s (Touch r leave rest) k f = final_then s (rest (f r)) k (put r (leave (f r)) f)
final_then s (Again t) k f = final_then s t k s

-- a leaf's section is the leaf's tree: it accesses what the tree visits, and ends as the tree does
pub record LeafIs {S : Type 0} (x : Tried ℕ S) (t : LeafTree) (f : ℕ → Data) : Type 0 where
  pub trace : x.section.trace ≡ visits t f
  pub blocks : (points : List ChoiceMade) → ending t f ≡ Blocks points → (x.section.end ≡ Stuck Blocked) × (x.points ≡ points)
  pub sticks : (kind : Kind) → ending t f ≡ Leads (Sticks kind) → (x.section.end ≡ Stuck kind) × (is_blocked x.section.end ≡ false)
  pub goes : (o : Own) (ps : List Data) → ending t f ≡ Leads (Goes o ps) → is_blocked x.section.end ≡ false

-- an attempt is the tree that tries
pub record TryIs {S : Type 0} (run : Words → Tried ℕ S) (leaf : List ℕ → LeafTree) (words : Words) (f : ℕ → Data) (x : Section ℕ S) (w : Walk) : Type 0 where
  pub trace : x.trace ≡ visits w f
  pub sticks : (kind : Kind) → ending w f ≡ Sticks kind → x.end ≡ Stuck kind
  -- where it goes on it ends as one of its leaves does
  pub goes : (o : Own) (ps : List Data) → ending w f ≡ Goes o ps
      → (p : List ℕ) × (ending (leaf p) f ≡ Leads (Goes o ps)) × (x.end ≡ (run (along 0 p words)).section.end) × ((r : ℕ) → final w f r ≡ final (leaf p) f r)

module _ {S : Type 0} (run : Words → Tried ℕ S) (leaf : List ℕ → LeafTree) (words : Words) (f : ℕ → Data) (each : (p : List ℕ) → LeafIs (run (along 0 p words)) (leaf p) f) where
  abbrev Is : Section ℕ S → Walk → Type 0
  Is x w = TryIs run leaf words f x w

  kind_of : (j k : Kind) → Sticks j ≡ Sticks k → j ≡ k
  kind_of j k e = cc

  nil_append : (l : List ℕ) → l ++ [] ≡ l
  nil_append [] = refl
  nil_append (x ∷ l) = ap (λ k. x ∷ k) (nil_append l)

  pub tried_is : (room : ℕ) (p : List ℕ) → Is (try_from run words room p) (trying leaf words room p)
  tried_is zero p = record { trace = refl; sticks = λ kind e. ap Stuck (kind_of Many kind e); goes = λ o ps e. absurd (let z : Sticks Many ≡ Goes o ps = e in grind (arith, z)) }
  tried_is (suc room) p = go (ending (leaf p) f) refl (λ q. tried_is room q)
    where
      x : Tried ℕ S
      x = run (along 0 p words)

      rest : List ℕ → Section ℕ S
      rest q = try_from run words room q

      next : LeafEnd → Walk
      next = on_end words (λ q. trying leaf words room q)

      whole : (e : LeafEnd) → ending (leaf p) f ≡ e → visits (trying leaf words (suc room) p) f ≡ visits (leaf p) f ++ visits_from f (next e) (final (leaf p) f)
      whole e is = visits_then f (leaf p) next f ∙ ap (λ e. visits (leaf p) f ++ visits_from f (next e) (final (leaf p) f)) is

      ends : (e : LeafEnd) → ending (leaf p) f ≡ e → ending (trying leaf words (suc room) p) f ≡ ending_from f (next e) (final (leaf p) f)
      ends e is = ending_then f (leaf p) next f ∙ ap (λ e. ending_from f (next e) (final (leaf p) f)) is

      leaves : (e : LeafEnd) → ending (leaf p) f ≡ e → final (trying leaf words (suc room) p) f ≡ final_from f (next e) (final (leaf p) f)
      leaves e is = final_then f (leaf p) next f ∙ ap (λ e. final_from f (next e) (final (leaf p) f)) is

      -- the leaf isn't Blocked
      stays : is_blocked x.section.end ≡ false → try_from run words (suc room) p ≡ x.section
      stays e = ap (λ (b : Bool). if b then then_next x.section rest (turned words 0 x.points) else x.section) e

      -- it is
      turns : (points : List ChoiceMade) → x.section.end ≡ Stuck Blocked → x.points ≡ points → try_from run words (suc room) p ≡ then_next x.section rest (turned words 0 points)
      turns points e is =
          ap (λ (b : Bool). if b then then_next x.section rest (turned words 0 x.points) else x.section) (ap is_blocked e) ∙ ap (λ l. then_next x.section rest (turned words 0 l)) is

      go : (e : LeafEnd) → ending (leaf p) f ≡ e → ((q : List ℕ) → Is (rest q) (trying leaf words room q)) → Is (try_from run words (suc room) p) (trying leaf words (suc room) p)
      go (Leads (Sticks kind)) is ih =
          let h = (each p).sticks kind is in
          record {
            trace = ap (λ (x : Section ℕ S). x.trace) (stays h.1) ∙ (each p).trace ∙ sym (nil_append (visits (leaf p) f)) ∙ sym (whole (Leads (Sticks kind)) is);
            sticks = λ k e. ap (λ (x : Section ℕ S). x.end) (stays h.1) ∙ h.0 ∙ ap Stuck (kind_of kind k (sym (ends (Leads (Sticks kind)) is) ∙ e));
            goes = λ o ps e. absurd (let z : Sticks kind ≡ Goes o ps = sym (ends (Leads (Sticks kind)) is) ∙ e in grind (arith, z));
          }
      go (Leads (Goes o' ps')) is ih =
          let h = (each p).goes o' ps' is in
          record {
            trace = ap (λ (x : Section ℕ S). x.trace) (stays h) ∙ (each p).trace ∙ sym (nil_append (visits (leaf p) f)) ∙ sym (whole (Leads (Goes o' ps')) is);
            sticks = λ k e. absurd (let z : Goes o' ps' ≡ Sticks k = sym (ends (Leads (Goes o' ps')) is) ∙ e in grind (arith, z));
            goes = λ o ps e. (p, is ∙ ap Leads (sym (ends (Leads (Goes o' ps')) is) ∙ e), ap (λ (x : Section ℕ S). x.end) (stays h), λ r. ap (λ g. g r) (leaves (Leads (Goes o' ps')) is));
          }
      go (Blocks points) is ih = turn (turned words 0 points) refl
        where
          h : (x.section.end ≡ Stuck Blocked) × (x.points ≡ points)
          h = (each p).blocks points is

          turn : (o : Option (List ℕ)) → turned words 0 points ≡ o → Is (try_from run words (suc room) p) (trying leaf words (suc room) p)
          turn None n =
              let e = turns points h.0 h.1 ∙ ap (then_next x.section rest) n in
              record {
                trace = ap (λ (x : Section ℕ S). x.trace) e ∙ (each p).trace ∙ sym (nil_append (visits (leaf p) f)) ∙ sym (whole (Blocks points) is ∙ ap (λ o. visits (leaf p) f ++ visits_from f (next_leaf (λ q. trying leaf words room q) o) (final (leaf p) f)) n);
                sticks = λ k q.
                    ap (λ (x : Section ℕ S). x.end) e ∙ h.0
                    ∙ ap Stuck (kind_of Blocked k (sym (ends (Blocks points) is ∙ ap (λ o. ending_from f (next_leaf (λ q. trying leaf words room q) o) (final (leaf p) f)) n) ∙ q));
                goes = λ o ps q. absurd (let z : Sticks Blocked ≡ Goes o ps = sym (ends (Blocks points) is ∙ ap (λ o. ending_from f (next_leaf (λ q. trying leaf words room q) o) (final (leaf p) f)) n) ∙ q in grind (arith, z));
              }
          turn (Some q) n =
              let e = turns points h.0 h.1 ∙ ap (then_next x.section rest) n in
              let i = ih q in
              let end = ends (Blocks points) is ∙ ap (λ o. ending_from f (next_leaf (λ q. trying leaf words room q) o) (final (leaf p) f)) n in
              record {
                trace = ap (λ (x : Section ℕ S). x.trace) e ∙ (λ j. (each p).trace j ++ i.trace j) ∙ sym (whole (Blocks points) is ∙ ap (λ o. visits (leaf p) f ++ visits_from f (next_leaf (λ q. trying leaf words room q) o) (final (leaf p) f)) n);
                sticks = λ k z. ap (λ (x : Section ℕ S). x.end) e ∙ i.sticks k (sym end ∙ z);
                goes = λ o ps z.
                    let g = i.goes o ps (sym end ∙ z) in
                    (g.0, g.1, ap (λ (x : Section ℕ S). x.end) e ∙ g.2, λ r. ap (λ g. g r) (leaves (Blocks points) is ∙ ap (λ o. final_from f (next_leaf (λ q. trying leaf words room q) o) (final (leaf p) f)) n) ∙ g.3 r);
              }

  -- and so is it from the first access or end on
  pub attempt_is : (room : ℕ) → Is (try_from run words room []) (attempting leaf words room)
  attempt_is room =
      let w = trying leaf words room [] in
      let t = tried_is room [] in
      record {
        trace = t.trace ∙ sym (visits_settled w f);
        sticks = λ kind e. t.sticks kind (sym (ending_settled w f) ∙ e);
        goes = λ o ps e. let g = t.goes o ps (sym (ending_settled w f) ∙ e) in (g.0, g.1, g.2, λ r. ap (λ h. h r) (final_settled w f) ∙ g.3 r);
      }

-- ---- whatever is found

within_then : (P : ℕ → Type 0) (Q : Own → Type 0) (t : LeafTree) (k : LeafEnd → Walk) → StraightWithin P (LeafLeaves Q) t → ((e : LeafEnd) → LeafLeaves Q e → Within P Q (k e)) → Within P Q (and_then t k)
within_then P Q (Stop e) k h g = g e h
within_then P Q (Touch r leave rest) k h g = (h.0, λ v. within_then P Q (rest v) k (h.1 v) g)
within_then P Q (Again t) k h g = absurd h

module _ (P : ℕ → Type 0) (Q : Own → Type 0) (leaf : List ℕ → LeafTree) (each : (p : List ℕ) → StraightWithin P (LeafLeaves Q) (leaf p)) (words : Words) where
  trying_within : (room : ℕ) (p : List ℕ) → Within P Q (trying leaf words room p)
  trying_within zero p = tt
  trying_within (suc room) p = within_then P Q (leaf p) (on_end words (λ q. trying leaf words room q)) (each p) (λ e h. end e h (λ q. trying_within room q))
    where
      next : (o : Option (List ℕ)) → ((q : List ℕ) → Within P Q (trying leaf words room q)) → Within P Q (next_leaf (λ q. trying leaf words room q) o)
      next None ih = tt
      next (Some q) ih = ih q

      end : (e : LeafEnd) → LeafLeaves Q e → ((q : List ℕ) → Within P Q (trying leaf words room q)) → Within P Q (on_end words (λ q. trying leaf words room q) e)
      end (Leads e) h ih = h
      end (Blocks points) h ih = next (turned words 0 points) ih

  pub attempting_within : (room : ℕ) → Within P Q (attempting leaf words room)
  attempting_within room = within_settled P Q (trying leaf words room []) (trying_within room [])
