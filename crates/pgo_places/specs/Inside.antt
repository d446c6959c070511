-- Each access is of a resource that there is, and own components keep their names.
use Rattle.std.proofs.Common.{◌≡◌, ◌<◌, ℕ, zero, suc, Bool, true, false, List, [], ◌∷◌, Option, Some, None, refl, ap, ◌∙◌, map, length, drop, arith}
use Rattle.std.specs.Prelude.{if◌then◌else◌, nat_lt, ◌&&◌, get_or, option_and_then}
use Rattle.pgo_base.specs.Data.{Data, string}
use Rattle.pgo_base.specs.Lookup.{Name, Names, find}
use Rattle.pgo_model.specs.Choice.{Seeded, words_of}
use Rattle.pgo_model.specs.Core.{number_among}
use Rattle.pgo_model.specs.Machine.{nth}
use Rattle.pgo_model.specs.Operators.{members_of, truth_of}
use Rattle.pgo_model.specs.Options.{on}
use Rattle.pgo_model.specs.Outcome.{Kind, Blocked, NoValue, AssertFails, Many, most_leaves}
use Rattle.pgo_model.specs.System.{Words}
use Rattle.pgo_model.specs.Written.{pc}
use Rattle.pgo_sections.specs.BoundValues.{bindable, value_under}
use Rattle.pgo_sections.specs.Context.{index_value}
use Rattle.pgo_sections.specs.Exec.{MacroEnd, Gives, Stops}
use Rattle.pgo_sections.specs.SectionRun.{ChoiceMade}
use Rattle.pgo_tries.specs.Sections.{along}
use Rattle.pgo_bound.specs.State.{id_of}
use Rattle.pgo_meaning.specs.System.{system_of}
use Rattle.pgo_workers.specs.Sentences.{IsOwn}
use Rattle.pgo_workers.specs.Tried.{LeafTree, LeafLeaves, attempting_within}
use Rattle.pgo_workers.specs.Walk.{Own, Stop, Touch, Again, Within, StraightWithin}
use Rattle.pgo_workers.specs.Worlds.{layout_of, world_of}
use Rattle.pgo_accesses.specs.Accesses.{Attempt, Progress, no_value, fails, waits, stuck, with_value, if_true, with_member, is_empty, all_shallow, can_stand, behind_read, behind_write, left_by_read, left_by_write, printing, choosing, read_here, write_here, becoming}
use Rattle.pgo_code.specs.declared.program.Program.{Program}
use Rattle.pgo_code.specs.Steps.{Unmapped, Evaluation, Target, Resource, Own as OwnTarget, Content, Step, Bind, Pick, Unbind, Assign, Set, Await, Assert, Print, Branch, Choose, Jump, End, Read, Write, Fail, accessing, reading, writing, unbound}
use Rattle.pgo_places.specs.Flows.{after}
use Rattle.pgo_places.specs.Stands.{Fixed, Stand, picked_at, updated, own_put, labelled, is_global_named, onward, cleared, assigned, going, binding, reads_then, evaluating, value_in, putting, ended, with_words, resume, limited}
use Rattle.pgo_places.specs.FirstStands.{fixed_of, start_of, steps_named}
use Rattle.pgo_places.specs.Trees.{attempt_with, leaf_of, tree_in}

names_put : (y : Name) (v : Data) (o : Own) → map (λ p. p.0) (own_put y v o) ≡ map (λ p. p.0) o
names_put y v [] = refl
names_put y v (p ∷ o) = ap (λ l. p.0 ∷ l) (names_put y v o)

module _ (a : Attempt) (k : Fixed) (names : List Name) where
  -- the own components that it leaves have these names
  abbrev Keeps : LeafTree → Type 0
  Keeps w = StraightWithin (λ r. Unit {0}) (LeafLeaves (λ o. map (λ p. p.0) o ≡ names)) w

  abbrev Named : Stand → Type 0
  Named s = map (λ p. p.0) s.own ≡ names

  keeps_with : {A : Type 0} (o : Option A) (f : A → LeafTree) → ((v : A) → Keeps (f v)) → Keeps (with_value o f)
  keeps_with None f h = tt
  keeps_with (Some v) f h = h v

  keeps_on : {A : Type 0} (o : Option A) (w : LeafTree) (f : A → LeafTree) → Keeps w → ((v : A) → Keeps (f v)) → Keeps (on w o f)
  keeps_on None w f g h = g
  keeps_on (Some v) w f g h = h v

  keeps_reads : (us : List Unmapped) (vs : Names) (f : Names → LeafTree) → ((ns : Names) → Keeps (f ns)) → Keeps (reads_then k us vs f)
  keeps_reads [] vs f h = h vs
  keeps_reads (u ∷ us) vs f h = keeps_with u.1 _ (λ r. (tt, λ v. keeps_reads us (updated (is_global_named u.0) (Some v) k.owners vs) f h))

  keeps_evaluating : (e : Evaluation) (s : Stand) (f : Option Data → LeafTree) → ((o : Option Data) → Keeps (f o)) → Keeps (evaluating a k e s f)
  keeps_evaluating e s f h = keeps_reads (drop s.done e.reads) s.variables _ (λ vs. h (value_in a k e.expression s.env vs))

  keeps_if : (o : Option Bool) (w x : LeafTree) → Keeps w → Keeps x → Keeps (if_true o w x)
  keeps_if None w x g h = tt
  keeps_if (Some true) w x g h = g
  keeps_if (Some false) w x g h = h

  keeps_member : (b : Attempt) (ms : List Data) (p : Progress) (f : Data → Progress → LeafTree) → ((v : Data) (q : Progress) → Keeps (f v q)) → Keeps (with_member b ms p f)
  keeps_member b [] p f h = tt
  keeps_member b (m ∷ ms) p f h = h _ _

  keeps_putting : (t : Target) (v : Data) (s : Stand) (f : Stand → LeafTree) → Named s → ((u : Stand) → Named u → Keeps (f u)) → Keeps (putting k t v s f)
  keeps_putting (Resource r) v s f n h = keeps_with r _ (λ m. (tt, λ old. h (going (becoming false m v s.progress) s) n))
  keeps_putting (OwnTarget y) v s f n h = h (assigned k y v s) (names_put y v s.own ∙ n)

  keeps_cond : (b : Bool) (w : LeafTree) → Keeps w → Keeps (if b then w else no_value)
  keeps_cond true w h = h
  keeps_cond false w h = tt

  keeps_stuck : (kind : Kind) (cs : List ChoiceMade) → Keeps (Stop (stuck kind cs))
  keeps_stuck Blocked cs = tt
  keeps_stuck NoValue cs = tt
  keeps_stuck AssertFails cs = tt
  keeps_stuck Many cs = tt

  keeps_read : (e : Bool) (r : ℕ) (p : Progress) (m : MacroEnd (Data × Data)) (f : Data → Progress → LeafTree) → ((v : Data) (q : Progress) → Keeps (f v q)) → Keeps (behind_read e r p m f)
  keeps_read e r p (Gives x cs) f h = keeps_cond (can_stand e x.1) _ (h x.0 _)
  keeps_read e r p (Stops kind cs) f h = keeps_stuck kind cs

  keeps_write : (e : Bool) (r : ℕ) (p : Progress) (m : MacroEnd Data) (f : Progress → LeafTree) → ((q : Progress) → Keeps (f q)) → Keeps (behind_write e r p m f)
  keeps_write e r p (Gives x cs) f h = keeps_cond (can_stand e x) _ (h _)
  keeps_write e r p (Stops kind cs) f h = keeps_stuck kind cs

  keeps_accessing : (b : Attempt) (c : Content) (j : Option Data) (f : ℕ → Option Data → LeafTree) → ((r : ℕ) (o : Option Data) → Keeps (f r o)) → Keeps (accessing b c j f)
  keeps_accessing b c j f h = go c.is_element
    where
      go : (e : Bool) → Keeps (if e then on no_value j (λ i. with_value (number_among b.resources (c.global, Some i)) (λ r. f r None)) else with_value c.whole (λ r. f r j))
      go true = keeps_on j no_value _ tt (λ i. keeps_with (number_among b.resources (c.global, Some i)) _ (λ r. h r None))
      go false = keeps_with c.whole _ (λ r. h r j)

  keeps_reading : (b : Attempt) (c : Content) (j : Option Data) (p : Progress) (g : Data → Progress → LeafTree) → ((v : Data) (q : Progress) → Keeps (g v q)) → Keeps (reading b c j p g)
  keeps_reading b c j p g h =
      keeps_accessing b c j
      (λ r at. Touch r (λ v. left_by_read v (read_here b c.reads at p.points v)) (λ v. behind_read c.is_element r p (read_here b c.reads at p.points v) g))
      (λ r at. (tt, λ v. keeps_read c.is_element r p (read_here b c.reads at p.points v) g h))

  keeps_writing : (b : Attempt) (c : Content) (j o : Option Data) (p : Progress) (g : Progress → LeafTree) → ((q : Progress) → Keeps (g q)) → Keeps (writing b c j o p g)
  keeps_writing b c j o p g h =
      keeps_accessing b c j
      (λ r at. Touch r (λ v. left_by_write v (write_here b c.writes at o p.points v)) (λ v. behind_write c.is_element r p (write_here b c.writes at o p.points v) g))
      (λ r at. (tt, λ v. keeps_write c.is_element r p (write_here b c.writes at o p.points v) g h))

  keeps_ended : (l : Name) (s : Stand) → Named s → Keeps (ended l s)
  keeps_ended l s n = keeps_cond (is_empty s.progress.too_deep && all_shallow (labelled l s.own)) _ (names_put pc (string l) s.own ∙ n)

  pub resume_keeps : (n : ℕ) (is : List Step) (s : Stand) → Named s → Keeps (resume a k n is s)
  resume_keeps zero is s h = tt
  resume_keeps (suc n) [] s h = tt
  resume_keeps (suc n) (Bind w e ∷ is) s h =
      keeps_evaluating e s (after a k n is (Bind w e) (cleared k s)) (λ o. keeps_with (bindable o) (λ v. resume a k n is (binding w v (cleared k s))) (λ v. resume_keeps n is (binding w v (cleared k s)) h))
  resume_keeps (suc n) (Pick w e ∷ is) s h =
      keeps_evaluating e s (after a k n is (Pick w e) (cleared k s))
      (λ o. keeps_with (option_and_then members_of o) (λ ms. with_member (with_words s.words a) ms s.progress (λ v q. resume a k n is (binding w v (going q (cleared k s)))))
      (λ ms. keeps_member (with_words s.words a) ms s.progress (λ v q. resume a k n is (binding w v (going q (cleared k s)))) (λ v q. resume_keeps n is (binding w v (going q (cleared k s))) h)))
  resume_keeps (suc n) (Unbind ∷ is) s h = resume_keeps n is (record (onward s) { env = unbound s.env }) h
  resume_keeps (suc n) (Assign t w ∷ is) s h =
      keeps_with (value_under w s.env) (λ v. putting k t v (onward s) (resume a k n is)) (λ v. keeps_putting t v (onward s) (resume a k n is) h (λ u g. resume_keeps n is u g))
  resume_keeps (suc n) (Set t e ∷ is) s h =
      keeps_on s.value (evaluating a k e s (after a k n is (Set t e) (cleared k s))) (λ v. putting k t v (onward s) (resume a k n is))
      (keeps_evaluating e s (after a k n is (Set t e) (cleared k s))
      (λ o. keeps_with (bindable o) (λ v. putting k t v (cleared k s) (resume a k n is)) (λ v. keeps_putting t v (cleared k s) (resume a k n is) h (λ u g. resume_keeps n is u g))))
      (λ v. keeps_putting t v (onward s) (resume a k n is) h (λ u g. resume_keeps n is u g))
  resume_keeps (suc n) (Await e ∷ is) s h =
      keeps_evaluating e s (after a k n is (Await e) (cleared k s)) (λ o. keeps_if (truth_of o) (resume a k n is (cleared k s)) (waits s.progress) (resume_keeps n is (cleared k s) h) tt)
  resume_keeps (suc n) (Assert e ∷ is) s h =
      keeps_evaluating e s (after a k n is (Assert e) (cleared k s)) (λ o. keeps_if (truth_of o) (resume a k n is (cleared k s)) fails (resume_keeps n is (cleared k s) h) tt)
  resume_keeps (suc n) (Print e ∷ is) s h =
      keeps_evaluating e s (after a k n is (Print e) (cleared k s))
      (λ o. keeps_with o (λ v. resume a k n is (going (printing v s.progress) (cleared k s))) (λ v. resume_keeps n is (going (printing v s.progress) (cleared k s)) h))
  resume_keeps (suc n) (Branch e j ∷ is) s h =
      keeps_evaluating e s (after a k n is (Branch e j) (cleared k s))
      (λ o. keeps_if (truth_of o) (resume a k n is (cleared k s)) (resume a k n (drop j is) (cleared k s)) (resume_keeps n is (cleared k s) h) (resume_keeps n (drop j is) (cleared k s) h))
  resume_keeps (suc n) (Choose js ∷ is) s h =
      let m = length js in let i = picked_at s m in resume_keeps n (drop (get_or js i 0) is) (going (choosing m i s.progress) (onward s)) h
  resume_keeps (suc n) (Jump j ∷ is) s h = resume_keeps n (drop j is) (onward s) h
  resume_keeps (suc n) (End l ∷ is) s h = keeps_ended l s h
  resume_keeps (suc n) (Read w c i ∷ is) s h =
      keeps_with (index_value i s.env) _
      (λ j. keeps_reading (with_words s.words a) c j s.progress (λ x q. resume a k n is (binding w x (going q (onward s)))) (λ x q. resume_keeps n is (binding w x (going q (onward s))) h))
  resume_keeps (suc n) (Write c i w ∷ is) s h =
      keeps_with (index_value i s.env) _
      (λ j. keeps_writing (with_words s.words a) c j (value_under w s.env) s.progress (λ q. resume a k n is (going q (onward s))) (λ q. resume_keeps n is (going q (onward s)) h))
  resume_keeps (suc n) (Fail ∷ is) s h = tt

pub limited_within : (m : ℕ) (names : List Name) (w : LeafTree) → StraightWithin (λ r. Unit {0}) (LeafLeaves (λ o. map (λ p. p.0) o ≡ names)) w
    → StraightWithin (λ r. r < m) (LeafLeaves (λ o. map (λ p. p.0) o ≡ names)) (limited m w)
limited_within m names (Stop e) h = h
limited_within m names (Again w) h = absurd h
limited_within m names (Touch r leave rest) h = go (nat_lt r m) refl (λ v. limited_within m names (rest v) (h.1 v))
  where
    go : (b : Bool) → nat_lt r m ≡ b → ((v : Data) → StraightWithin (λ r. r < m) (LeafLeaves (λ o. map (λ p. p.0) o ≡ names)) (limited m (rest v)))
        → StraightWithin (λ r. r < m) (LeafLeaves (λ o. map (λ p. p.0) o ≡ names)) (if b then Touch r leave (λ v. limited m (rest v)) else no_value)
    go true e g = (grind (arith, e), g)
    go false e g = tt

leaf_inside : (p : Program) (first d : Words) (k : ℕ) (o : Own) → IsOwn (world_of (layout_of (system_of p.bound.now))) k o
    → StraightWithin (λ r. r < length (layout_of (system_of p.bound.now)).resources) (LeafLeaves (IsOwn (world_of (layout_of (system_of p.bound.now))) k)) (leaf_of p first d k o)
leaf_inside p first d k o h =
    let names = (world_of (layout_of (system_of p.bound.now))).names k in
    limited_within (length (system_of p.bound.now).resources) names _
    (outer names (nth p.codes.items k) _ (λ c. outer names (nth p.bound.now.instances k) _ (λ i. outer names (steps_named (find pc o) c) _ (λ xs.
    resume_keeps (attempt_with p.bound.now (id_of i)) (fixed_of c) names (suc (length xs)) xs (start_of c o first d) h))))
  where
    outer : {A : Type 0} (names : List Name) (x : Option A) (f : A → LeafTree) → ((v : A) → StraightWithin (λ r. Unit {0}) (LeafLeaves (λ o. map (λ p. p.0) o ≡ names)) (f v)) → StraightWithin (λ r. Unit {0}) (LeafLeaves (λ o. map (λ p. p.0) o ≡ names)) (on no_value x f)
    outer names None f g = tt
    outer names (Some v) f g = g v

-- whatever program it is
pub tree_inside : (p : Program) (seed k a : ℕ) (o : Own) → IsOwn (world_of (layout_of (system_of p.bound.now))) k o
    → Within (λ r. r < length (layout_of (system_of p.bound.now)).resources) (IsOwn (world_of (layout_of (system_of p.bound.now))) k) (tree_in p seed k a o)
tree_inside p seed k a o h =
    let first = words_of (Seeded seed k a) in
    attempting_within (λ r. r < length (layout_of (system_of p.bound.now)).resources) (IsOwn (world_of (layout_of (system_of p.bound.now))) k)
    (λ path. leaf_of p first (along 0 path first) k o) (λ path. leaf_inside p first (along 0 path first) k o h) first most_leaves
