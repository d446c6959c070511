-- Whatever is found, a section accesses only resources of the globals that its instance is bound to, and keeps the names of its own
-- components.
use Rattle.std.proofs.Common.{◌≡◌, ℕ, zero, suc, Bool, true, false, List, [], ◌∷◌, length, Option, Some, None, refl, option_and_then}
use Rattle.std.specs.Prelude.{if◌then◌else◌, get_or}
use Rattle.pgo_base.specs.Data.{Data}
use Rattle.pgo_base.specs.Lookup.{Name, Names, Vars, find}
use Rattle.pgo_base.specs.Tree.{Tree}
use Rattle.pgo_model.specs.Core.{number_among}
use Rattle.pgo_model.specs.Occurrences.{first_occurrences}
use Rattle.pgo_model.specs.Operators.{members_of, truth_of}
use Rattle.pgo_model.specs.Options.{on}
use Rattle.pgo_model.specs.Outcome.{Kind, Blocked, NoValue, AssertFails, Many}
use Rattle.pgo_sections.specs.BoundValues.{bindable, value_under}
use Rattle.pgo_sections.specs.Code.{Place, Whole, Own, Code, Empty, Skip, Let, Pick, Become, Set, Await, Assert, Print, If, Either, Seq, Goto, Yield, Read, Write, Codes, no_codes, more_codes}
use Rattle.pgo_sections.specs.Context.{index_value}
use Rattle.pgo_sections.specs.Domains.{Uses, AllUse}
use Rattle.pgo_sections.specs.Exec.{MacroEnd, Gives, Stops, count}
use Rattle.pgo_sections.specs.FreeNames.{free_names}
use Rattle.pgo_sections.specs.SectionRun.{ChoiceMade}
use Rattle.pgo_workers.specs.Tried.{Leads, LeafTree, LeafLeaves}
use Rattle.pgo_workers.specs.Walk as walks
use Rattle.pgo_workers.specs.Walk.{Stop, Touch, Goes, StraightWithin}
use Rattle.pgo_accesses.specs.Accesses.{Attempt, Progress, own_next, ended, with_value, if_true, value_of, with_whole, reads_then, evaluating, with_member, putting, printing, picked_number, choosing, becoming, can_stand, accessing, behind_read, behind_write, read_here, write_here, left_by_read, left_by_write, reading, writing, accesses, accesses_of_arm, no_value, stuck, waits, fails, is_empty, all_shallow}

module _ (a : Attempt) (P : ℕ → Type 0) (Q : walks.Own → Type 0) (keeps : (l : Name) (ch : Vars) → Q (own_next l ch a.own)) where
  -- each resource of this global is within reach
  abbrev pub InReach : Name → Type 0
  InReach g = (j : Option Data) (r : ℕ) → number_among a.resources (g, j) ≡ Some r → P r

  abbrev pub PlaceInReach : Place → Type 0
  PlaceInReach (Whole g) = InReach g
  PlaceInReach (Own y) = Unit {0}

  abbrev In : LeafTree → Type 0
  In w = StraightWithin P (LeafLeaves Q) w

  valued : {A : Type 0} (o : Option A) (f : A → LeafTree) → ((v : A) → In (f v)) → In (with_value o f)
  valued None f h = tt
  valued (Some v) f h = h v

  -- a resource of such a global
  numbered : (g : Name) (j : Option Data) (f : ℕ → LeafTree) → InReach g → ((r : ℕ) → P r → In (f r)) → In (with_value (number_among a.resources (g, j)) f)
  numbered g j f reach h = go (number_among a.resources (g, j)) refl
    where
      go : (o : Option ℕ) → number_among a.resources (g, j) ≡ o → In (with_value o f)
      go None e = tt
      go (Some r) e = h r (reach j r e)

  decided : (o : Option Bool) (w v : LeafTree) → In w → In v → In (if_true o w v)
  decided (Some true) w v h k = h
  decided (Some false) w v h k = k
  decided None w v h k = tt

  chosen_one : (ms : List Data) (p : Progress) (f : Data → Progress → LeafTree) → ((v : Data) (q : Progress) → In (f v q)) → In (with_member a ms p f)
  chosen_one [] p f h = tt
  chosen_one (m ∷ ms) p f h = let n = length (m ∷ ms) in let i = picked_number a p n in h (get_or (m ∷ ms) i m) (choosing n i p)

  puts : (s : Place) (v : Data) (p : Progress) (f : Progress → LeafTree) → PlaceInReach s → ((q : Progress) → In (f q)) → In (putting a s v p f)
  puts (Whole g) v p f reach h = numbered g None (λ r. Touch r (λ old. v) (λ old. f (becoming false r v p))) reach (λ r m. (m, λ x. h (becoming false r v p)))
  puts (Own y) v p f reach h = h (record p { changes = (y, v) ∷ p.changes })

  accessed : (g : Name) (j : Option Data) (f : ℕ → Option Data → LeafTree) → InReach g → ((r : ℕ) (at : Option Data) → P r → In (f r at)) → In (accessing a g j f)
  accessed g j f reach h = go (a.by_element g) j
    where
      go : (b : Bool) (i : Option Data) → In (if b then on no_value i (λ i. with_value (number_among a.resources (g, Some i)) (λ r. f r None)) else with_whole a g (λ r. f r j))
      go true None = tt
      go true (Some i) = numbered g (Some i) (λ r. f r None) reach (λ r m. h r None m)
      go false i = numbered g None (λ r. f r j) reach (λ r m. h r j m)

  stands : (b : Bool) (w : LeafTree) → In w → In (if b then w else no_value)
  stands true w h = h
  stands false w h = tt

  stops : (kind : Kind) (cs : List ChoiceMade) → In (Stop (stuck kind cs))
  stops Blocked cs = tt
  stops NoValue cs = tt
  stops AssertFails cs = tt
  stops Many cs = tt

  read_behind : (e : Bool) (r : ℕ) (p : Progress) (x : MacroEnd (Data × Data)) (f : Data → Progress → LeafTree) → ((v : Data) (q : Progress) → In (f v q)) → In (behind_read e r p x f)
  read_behind e r p (Gives x cs) f h = stands (can_stand e x.1) (f x.0 (becoming e r x.1 (record p { points = cs }))) (h x.0 (becoming e r x.1 (record p { points = cs })))
  read_behind e r p (Stops kind cs) f h = stops kind cs

  write_behind : (e : Bool) (r : ℕ) (p : Progress) (x : MacroEnd Data) (f : Progress → LeafTree) → ((q : Progress) → In (f q)) → In (behind_write e r p x f)
  write_behind e r p (Gives w cs) f h = stands (can_stand e w) (f (becoming e r w (record p { points = cs }))) (h (becoming e r w (record p { points = cs })))
  write_behind e r p (Stops kind cs) f h = stops kind cs

  ends : (l : Name) (p : Progress) → In (ended a l p)
  ends l p = go (Rattle.std.specs.Prelude.◌&&◌ (is_empty p.too_deep) (all_shallow (own_next l p.changes a.own)))
    where
      go : (b : Bool) → In (if b then Stop (Leads (Goes (own_next l p.changes a.own) p.prints)) else no_value)
      go true = keeps l p.changes
      go false = tt

  module _ (places : (x y : Name) → find x a.places ≡ Some (Whole y) → InReach y) where
    reads : (xs : List Name) (seen : Vars) (f : Vars → LeafTree) → ((seen : Vars) → In (f seen)) → In (reads_then a xs seen f)
    reads [] seen f h = h seen
    reads (x ∷ xs) seen f h = go (find x a.places) refl (λ seen. reads xs seen f h)
      where
        go : (o : Option Place) → find x a.places ≡ o → ((seen : Vars) → In (reads_then a xs seen f))
            → In (elim o as (λ o. LeafTree) [ None ↦ reads_then a xs seen f | Some (Whole g) ↦ with_whole a g (λ r. Touch r (λ v. v) (λ v. reads_then a xs ((x, v) ∷ seen) f)) | Some (Own y) ↦ reads_then a xs seen f ])
        go None e ih = ih seen
        go (Some (Own y)) e ih = ih seen
        go (Some (Whole g)) e ih = numbered g None (λ r. Touch r (λ v. v) (λ v. reads_then a xs ((x, v) ∷ seen) f)) (places x g e) (λ r m. (m, λ v. ih ((x, v) ∷ seen)))

    evaluates : (e : Tree) (env : Names) (p : Progress) (f : Option Data → LeafTree) → ((o : Option Data) → In (f o)) → In (evaluating a e env p f)
    evaluates e env p f h = reads (first_occurrences (free_names [] e)) [] (λ seen. f (value_of a e env seen p.changes)) (λ seen. h (value_of a e env seen p.changes))

    mutual
      pub within : (c : Code) (env : Names) (p : Progress) (f : Progress → LeafTree) → Uses PlaceInReach (λ g i. InReach g) c → ((q : Progress) → In (f q)) → In (accesses a c env p f)
      within Empty env p f u h = h p
      within Skip env p f u h = h p
      within (Let b w e c) env p f u h = evaluates e env p (λ o. with_value (bindable o) (λ v. accesses a c ((w, Some v) ∷ env) p f)) (λ o. valued (bindable o) (λ v. accesses a c ((w, Some v) ∷ env) p f) (λ v. within c ((w, Some v) ∷ env) p f u h))
      within (Pick b w e c) env p f u h =
          let F = λ (v : Data) (q : Progress). accesses a c ((w, Some v) ∷ env) q f in
          evaluates e env p (λ o. with_value (option_and_then members_of o) (λ ms. with_member a ms p F)) (λ o. valued (option_and_then members_of o) (λ ms. with_member a ms p F) (λ ms. chosen_one ms p F (λ v q. within c ((w, Some v) ∷ env) q f u h)))
      within (Become s w) env p f u h = valued (value_under w env) (λ v. putting a s v p f) (λ v. puts s v p f u h)
      within (Set b s e) env p f u h = evaluates e env p (λ o. with_value (bindable o) (λ v. putting a s v p f)) (λ o. valued (bindable o) (λ v. putting a s v p f) (λ v. puts s v p f u h))
      within (Await e) env p f u h = evaluates e env p (λ o. if_true (truth_of o) (f p) (waits p)) (λ o. decided (truth_of o) (f p) (waits p) (h p) tt)
      within (Assert e) env p f u h = evaluates e env p (λ o. if_true (truth_of o) (f p) fails) (λ o. decided (truth_of o) (f p) fails (h p) tt)
      within (Print e) env p f u h = evaluates e env p (λ o. with_value o (λ v. f (printing v p))) (λ o. valued o (λ v. f (printing v p)) (λ v. h (printing v p)))
      within (If e c d) env p f u h =
          evaluates e env p (λ o. if_true (truth_of o) (accesses a c env p f) (accesses a d env p f)) (λ o. decided (truth_of o) (accesses a c env p f) (accesses a d env p f) (within c env p f u.0 h) (within d env p f u.1 h))
      within (Either cs) env p f u h = let n = count cs in let i = picked_number a p n in within_arm cs i env (choosing n i p) f u h
      within (Seq c d) env p f u h = within c env p (λ q. accesses a d env q f) u.0 (λ q. within d env q f u.1 h)
      within (Goto l) env p f u h = ends l p
      within (Yield e) env p f u h = tt
      within (Read w g i block c) env p f u h =
          let F = λ (v : Data) (q : Progress). accesses a c ((w, Some v) ∷ env) q f in
          valued (index_value i env) (λ j. reading a g j block p F) (λ j.
          accessed g j (λ r at. Touch r (λ v. left_by_read v (read_here a block at p.points v)) (λ v. behind_read (a.by_element g) r p (read_here a block at p.points v) F)) u.0 (λ r at m.
          (m, λ v. read_behind (a.by_element g) r p (read_here a block at p.points v) F (λ x q. within c ((w, Some x) ∷ env) q f u.1 h))))
      within (Write g i w block) env p f u h =
          valued (index_value i env) (λ j. writing a g j block (value_under w env) p f) (λ j.
          accessed g j (λ r at. Touch r (λ v. left_by_write v (write_here a block at (value_under w env) p.points v)) (λ v. behind_write (a.by_element g) r p (write_here a block at (value_under w env) p.points v) f)) u (λ r at m.
          (m, λ v. write_behind (a.by_element g) r p (write_here a block at (value_under w env) p.points v) f h)))

      within_arm : (cs : Codes) (i : ℕ) (env : Names) (p : Progress) (f : Progress → LeafTree) → AllUse PlaceInReach (λ g i. InReach g) cs → ((q : Progress) → In (f q)) → In (accesses_of_arm a cs i env p f)
      within_arm no_codes i env p f u h = tt
      within_arm (more_codes c cs) zero env p f u h = within c env p f u.0 h
      within_arm (more_codes c cs) (suc i) env p f u h = within_arm cs i env p f u.1 h
