-- A section does what the tree of its accesses says, from any state in which it may begin.
use Rattle.std.proofs.Common.{◌≡◌, ℕ, Bool, true, false, ◌&&◌, List, [], ◌∷◌, Option, Some, None, refl, sym, ap, ◌∙◌, arith, option_and_then}
use Rattle.std.specs.Prelude.{if◌then◌else◌}
use Rattle.pgo_base.specs.Data.{Data, string, graph}
use Rattle.pgo_base.specs.Lookup.{Name, Vars, same_name, find}
use Rattle.pgo_model.specs.Core.{number_among, numbers_of}
use Rattle.pgo_model.specs.Operators.{apply, lookup, same_data}
use Rattle.pgo_model.specs.Options.{on}
use Rattle.pgo_model.specs.Outcome.{Kind, Blocked, NoValue, AssertFails, Many, Outcome, Next, Stuck}
use Rattle.pgo_model.specs.State.{is_shallow}
use Rattle.pgo_model.specs.System.{Words, Resource, Touched}
use Rattle.pgo_model.specs.Written.{pc}
use Rattle.pgo_tries.specs.Attempts.{is_blocked}
use Rattle.pgo_sections.specs.ChoiceTrees.{in_order}
use Rattle.pgo_sections.specs.Code.{Whole, Code}
use Rattle.pgo_sections.specs.Context.{Context, part_at, value_now}
use Rattle.pgo_sections.specs.Macros.{exec}
use Rattle.pgo_sections.specs.Section.{if_shallow, end_of, run_of}
use Rattle.pgo_sections.specs.SectionRun as runs
use Rattle.pgo_sections.specs.SectionRun.{ChoiceMade, begun, Out, Go, Jump, Yielded}
use Rattle.pgo_sections.specs.SectionsAgree.{keys}
use Rattle.pgo_sections.proofs.Closing.{closed_keys}
use Rattle.pgo_workers.specs.Tried.{LeafEnd, Leads, Blocks, LeafTree}
use Rattle.pgo_workers.specs.Walk as walks
use Rattle.pgo_workers.specs.Walk.{End, Ahead, Goes, Sticks, visits, ending, final}
use Rattle.pgo_accesses.specs.Accesses as accesses
use Rattle.pgo_accesses.specs.Accesses.{Progress, accesses_of, own_next, is_empty, all_shallow, no_value, stuck}
use Rattle.pgo_accesses.specs.Assigned.{AssignsBound, JumpsAtEnd, NeverYields}
use Rattle.pgo_accesses.proofs.Ending.{HasPart, Start, Closes, end_is, global_at, own_at, other_at, unchanged_at, is_state}
use Rattle.pgo_accesses.proofs.Follows.{At, Arrives, UsesHere, follows}
use Rattle.pgo_accesses.proofs.Jumps.{GoesOn, Yields, jumps, yields_nothing}
use Rattle.pgo_accesses.proofs.Related.{Matches, attempt, IsResource, MayChange, AsBound, Related}

goes : LeafEnd → Bool
goes (Leads (Goes own ps)) = true
goes (Leads (Sticks kind)) = false
goes (Blocks points) = false

-- what a component has
abbrev pub component_in : Touched → Vars → Option Data
component_in c t = option_and_then (λ v. on (Some v) c.1 (λ i. apply v i)) (find c.0 t)

module _ (K : Context) (rs : List Resource) (at_start : walks.Own) (d : Words) where
  -- the state to which a section leads, with these own components and resources
  pub record Left (t : Vars) (o : walks.Own) (h : ℕ → Data) : Type 0 where
    pub label : Name
    pub changes : Vars
    pub own_is : o ≡ own_next label changes at_start
    pub names : keys t ≡ keys K.start
    pub parts : (x : Name) (v : Data) → HasPart K rs at_start d x v → part_at x K.id t ≡ Some (if same_name x pc then string label else on v (find x changes) (λ v. v))
    pub others : (x : Name) (v j : Data) → HasPart K rs at_start d x v → same_data j K.id ≡ false → part_at x j t ≡ part_at x j K.start
    pub unchanged : (x : Name) → (MayChange K rs at_start d x → ⊥) → same_name x pc ≡ false → find x t ≡ find x K.start
    pub resources : (c : Touched) (r : ℕ) → number_among rs c ≡ Some r → IsResource K rs at_start d c.0 c.1 → component_in c t ≡ Some (h r)

  module _ (w : LeafTree) (f0 : ℕ → Data) (o : Out) where
    pub record Agrees : Type 0 where
      pub trace : numbers_of rs (run_of o).trace ≡ visits w f0
      pub blocks : (points : List ChoiceMade) → ending w f0 ≡ Blocks points → (end_of K o ≡ Stuck Blocked) × (in_order (run_of o).choices ≡ points)
      pub sticks : (kind : Kind) → ending w f0 ≡ Leads (Sticks kind) → (end_of K o ≡ Stuck kind) × (is_blocked (end_of K o) ≡ false)
      pub next : (own : walks.Own) (ps : List Data) → ending w f0 ≡ Leads (Goes own ps) → (t : Vars) × (end_of K o ≡ Next t ps) × Left t own (final w f0)

  append_none : (l : List ℕ) → Rattle.std.specs.Prelude.◌++◌ l [] ≡ l
  append_none [] = refl
  append_none (x ∷ l) = ap (λ k. x ∷ k) (append_none l)

  kind_of : (j k : Kind) → Leads (Sticks j) ≡ Leads (Sticks k) → j ≡ k
  kind_of j k e = cc

  points_of : (ps qs : List ChoiceMade) → Blocks ps ≡ Blocks qs → ps ≡ qs
  points_of ps qs e = cc

  -- the end of a tree in a note, behind the choices cs
  pub record Stopped (w : LeafTree) (f0 : ℕ → Data) (ns : List ℕ) (e : Outcome Vars) (cs : List ChoiceMade) : Type 0 where
    pub trace : ns ≡ visits w f0
    pub blocks : (points : List ChoiceMade) → ending w f0 ≡ Blocks points → (e ≡ Stuck Blocked) × (in_order cs ≡ points)
    pub sticks : (kind : Kind) → ending w f0 ≡ Leads (Sticks kind) → (e ≡ Stuck kind) × (is_blocked e ≡ false)
    pub next : (own : walks.Own) (ps : List Data) → ending w f0 ≡ Leads (Goes own ps) → ⊥

  noted : (w : LeafTree) (f0 : ℕ → Data) (ns : List ℕ) (kind : Kind) (cs : List ChoiceMade) (g : ℕ → Data) (e : Outcome Vars) → e ≡ Stuck kind → is_blocked e ≡ false → Ahead w f0 ns (walks.Stop (Leads (Sticks kind))) g → Stopped w f0 ns e cs
  noted w f0 ns kind cs g e is free a = record {
    trace = sym (a.trace ∙ append_none ns);
    blocks = λ points h. absurd (let z : Leads (Sticks kind) ≡ Blocks points = sym a.ends ∙ h in grind (arith, z));
    sticks = λ k h. (is ∙ ap Stuck (kind_of kind k (sym a.ends ∙ h)), free);
    next = λ own ps h. (let z : goes (Leads (Sticks kind)) ≡ goes (Leads (Goes own ps)) = ap goes (sym a.ends ∙ h) in grind (arith, z));
  }

  stopped : (w : LeafTree) (f0 : ℕ → Data) (ns : List ℕ) (kind : Kind) (cs : List ChoiceMade) (g : ℕ → Data) (e : Outcome Vars) → e ≡ Stuck kind → Ahead w f0 ns (walks.Stop (stuck kind cs)) g → Stopped w f0 ns e cs
  stopped w f0 ns Blocked cs g e is a = record {
    trace = sym (a.trace ∙ append_none ns);
    blocks = λ points h. (is, points_of (in_order cs) points (sym a.ends ∙ h));
    sticks = λ k h. absurd (let z : Blocks (in_order cs) ≡ Leads (Sticks k) = sym a.ends ∙ h in grind (arith, z));
    next = λ own ps h. (let z : Blocks (in_order cs) ≡ Leads (Goes own ps) = sym a.ends ∙ h in grind (arith, z));
  }
  stopped w f0 ns NoValue cs g e is a = noted w f0 ns NoValue cs g e is (ap is_blocked is) a
  stopped w f0 ns AssertFails cs g e is a = noted w f0 ns AssertFails cs g e is (ap is_blocked is) a
  stopped w f0 ns Many cs g e is a = noted w f0 ns Many cs g e is (ap is_blocked is) a

  module _ (G : AsBound K rs at_start d) (S : Start K rs at_start d) (w : LeafTree) (f0 : ℕ → Data) where
    abbrev Begun : Type 0
    Begun = Related K rs at_start d [] [] [] accesses.begun f0

    own_of : (o o' : walks.Own) (ps ps' : List Data) → Leads (Goes o ps) ≡ Leads (Goes o' ps') → (o ≡ o') × (ps ≡ ps')
    own_of o o' ps ps' e = (cc, cc)

    jumped : (l : Name) (run : runs.SectionRun) (p : Progress) (g : ℕ → Data) → At K rs at_start d w f0 (accesses.ended (attempt K rs at_start d) l p) run p g → Agrees w f0 (Jump l run)
    jumped l run p g h = go (is_empty p.too_deep && all_shallow o) refl h.ahead
      where
        R : Related K rs at_start d run.changes run.choices run.prints p g
        R = h.related

        o : walks.Own
        o = own_next l p.changes at_start

        E : Closes K rs at_start d G S l run.changes run.choices run.prints p g R K.start
        E = end_is K rs at_start d G S l run.changes run.choices run.prints p g R

        t : Vars
        t = E.end

        state : is_shallow t ≡ (is_empty p.too_deep && all_shallow o)
        state = is_state K rs at_start d G S l run.changes run.choices run.prints p g R

        end_at : (b : Bool) → (is_empty p.too_deep && all_shallow o) ≡ b → end_of K (Jump l run) ≡ (if b then Next t run.prints else Stuck NoValue)
        end_at b e = ap (λ q. on (Stuck NoValue) q (if_shallow run.prints)) E.is ∙ ap (λ c. if c then Next t run.prints else Stuck NoValue) (state ∙ e)

        left : (own : walks.Own) → own ≡ o → ((r : ℕ) → g r ≡ final w f0 r) → Left t own (final w f0)
        left own same fin = record {
          label = l;
          changes = p.changes;
          own_is = same;
          names = closed_keys K l run.changes K.start t E.is;
          parts = λ x v part. own_at K rs at_start d G S l run.changes run.choices run.prints p g R x v part;
          others = λ x v j part n. other_at K rs at_start d G S l run.changes run.choices run.prints p g R x v j part n;
          unchanged = λ x not n. unchanged_at K rs at_start d G S l run.changes run.choices run.prints p g R x not n;
          resources = λ c r e is. resource c r e is ∙ ap Some (fin r);
        }
          where
            global : (x : Name) (j : Option Data) (r : ℕ) → number_among rs (x, j) ≡ Some r → find x t ≡ value_now K (Whole x) run.changes
            global x j r e = global_at K rs at_start d G S l run.changes run.choices run.prints p g R x (G.globals (x, j) r e)

            element : (r : ℕ) (n : Option ℕ) → n ≡ Some r → (m : Option Data) → Matches n m g → m ≡ Some (g r)
            element r None f m k = absurd (grind (arith, f))
            element r (Some q) f None k = absurd k
            element r (Some q) f (Some v) k = ap Some (k ∙ ap g (number q r f))
              where
                number : (q r : ℕ) → Some q ≡ Some r → q ≡ r
                number q r f = cc

            resource : (c : Touched) (r : ℕ) → number_among rs c ≡ Some r → IsResource K rs at_start d c.0 c.1 → component_in c t ≡ Some (g r)
            resource (x, None) r e is = ap (option_and_then (λ v. Some v)) (global x None r e ∙ (R.whole x r e is).0)
            resource (x, Some i) r e is =
                let E = R.elements x is in
                ap (option_and_then (λ v. apply v i)) (global x (Some i) r e ∙ E.is) ∙ element r (number_among rs (x, Some i)) e (lookup i (graph E.pairs)) (E.each i)

        go : (b : Bool) → (is_empty p.too_deep && all_shallow o) ≡ b → Ahead w f0 (numbers_of rs run.trace) (if b then walks.Stop (Leads (Goes o p.prints)) else no_value) g → Agrees w f0 (Jump l run)
        go true e a = record {
          trace = sym (a.trace ∙ append_none (numbers_of rs run.trace));
          blocks = λ points k. absurd (let z : Leads (Goes o p.prints) ≡ Blocks points = sym a.ends ∙ k in grind (arith, z));
          sticks = λ kind k. absurd (let z : goes (Leads (Goes o p.prints)) ≡ goes (Leads (Sticks kind)) = ap goes (sym a.ends ∙ k) in grind (arith, z));
          next = λ own ps k.
              let same = own_of o own p.prints ps (sym a.ends ∙ k) in
              (t, end_at true e ∙ ap (Next t) (sym R.prints ∙ same.1), left own (sym same.0) (λ r. sym (a.leaves r)));
        }
        go false e a =
            let s = stopped w f0 (numbers_of rs run.trace) NoValue run.choices g (end_of K (Jump l run)) (end_at false e) a in
            record { trace = s.trace; blocks = s.blocks; sticks = s.sticks; next = λ own ps k. absurd (s.next own ps k) }

    arrived : (o : Out) → GoesOn o → Yields o → Arrives K rs at_start d w f0 o (λ p. no_value) → Agrees w f0 o
    arrived (Go run) j y h = absurd j
    arrived (Jump l run) j y h = jumped l run h.0 h.1 h.2
    arrived (Yielded v run) j y h = absurd y
    arrived (runs.Stop kind run) j y h =
        let s = stopped w f0 (numbers_of rs run.trace) kind run.choices h.0 (Stuck kind) refl h.1 in
        record { trace = s.trace; blocks = s.blocks; sticks = s.sticks; next = λ own ps k. absurd (s.next own ps k) }

  -- the section of code that may run here
  pub section_agrees : AsBound K rs at_start d → Start K rs at_start d → (f0 : ℕ → Data) → Related K rs at_start d [] [] [] accesses.begun f0 → (c : Code)
      → UsesHere K rs at_start d (accesses_of (attempt K rs at_start d) c) f0 c → AssignsBound [] c → JumpsAtEnd c → NeverYields c
      → Agrees (accesses_of (attempt K rs at_start d) c) f0 (exec K c [] d (begun [] []))
  section_agrees G S f0 R c uses assigns j y =
      let w = accesses_of (attempt K rs at_start d) c in
      arrived G S w f0 (exec K c [] d (begun [] [])) (jumps c K [] d (begun [] []) j) (yields_nothing c K [] d (begun [] []) y)
      (follows K rs at_start d w f0 G c [] [] (λ p. no_value) (begun [] []) accesses.begun f0 uses assigns (λ w among. absurd (let z : false ≡ true = among in grind (arith, z)))
      (record { ahead = record { trace = refl; ends = refl; leaves = λ r. refl; fresh = λ r e. refl }; related = R }))
