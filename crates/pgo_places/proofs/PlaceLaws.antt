-- What is left at places.
use Rattle.std.proofs.Common.{◌≡◌, ◌<◌, ◌≤◌, ◌-◌, ℕ, zero, suc, List, [], ◌∷◌, Option, Some, None, refl, ap, sym, ◌∙◌, drop, length, map, get_or, arith, subst}
use Rattle.std.specs.Prelude.{IfSome}
use Rattle.pgo_model.specs.Options.{on}
use Rattle.pgo_workers.specs.Tried.{LeafTree}
use Rattle.pgo_base.specs.Data.{Data}
use Rattle.pgo_resource.specs.declared.sections.NextEvent.{NextEvent}
use Rattle.pgo_accesses.specs.Accesses.{Attempt, no_value}
use Rattle.pgo_code.specs.declared.instruction.Instruction.{Instruction}
use Rattle.pgo_code.specs.declared.program.Program.{Program}
use Rattle.pgo_code.specs.See.{step_of}
use Rattle.pgo_code.specs.Steps.{Step}
use Rattle.pgo_places.specs.declared.place.Finish.{Finish}
use Rattle.pgo_places.specs.declared.place.Place.{Place}
use Rattle.pgo_places.specs.declared.flow.Flow.{Flow}
use Rattle.pgo_places.specs.Flows.{flow_walk, LeadsTo}
use Rattle.pgo_places.specs.LeafEvents.{points_at, LeafLeadsOn, LeafTells}
use Rattle.pgo_places.specs.Performs.{Performs}
use Rattle.pgo_places.specs.PlaceView.{stand_view, fixed_view, attempt_view}
use Rattle.pgo_places.specs.PlaceWalk.{core_walk, count_of, instructions_in, steps_at, stop_walk, leaf_in}
use Rattle.pgo_places.specs.Stands.{Fixed, Stand, limited, resume}
use Rattle.pgo_places.proofs.Moves.{leads_on}

-- what is left at `new`, seen from a place that has the same instructions and names
abbrev pub seen_from : Program → Place → Place → LeafTree
seen_from p old new = limited (count_of p.bound.now) (core_walk (attempt_view p.bound.now old.fixed.value) (fixed_view old.fixed.value) (steps_at p old) new)

pub frame_walk : (p : Program) (old new : Place) → new ≡ record old { stopped = new.stopped } → leaf_in p new ≡ seen_from p old new
frame_walk p old new e = ap (λ (q : Place). limited (count_of p.bound.now) (core_walk (attempt_view p.bound.now q.fixed.value) (fixed_view q.fixed.value) (steps_at p q) new)) e

pub at_instruction : (a : Attempt) (k : Fixed) (xs : List Step) (p : Place) (i : Step) (is : List Step) → p.stopped ≡ None → 0 < p.left → drop p.position xs ≡ i ∷ is
    → core_walk a k xs p ≡ resume a k (suc (p.left - 1)) (i ∷ is) (stand_view p.stand)
at_instruction a k xs p i is none more here =
    let e : p.left ≡ suc (p.left - 1) = omega (arith, more) in
    ap (λ o. on (resume a k p.left (drop p.position xs) (stand_view p.stand)) o (λ f. stop_walk f (stand_view p.stand))) none
    ∙ ap (λ n. resume a k n (drop p.position xs) (stand_view p.stand)) e ∙ ap (λ ys. resume a k (suc (p.left - 1)) ys (stand_view p.stand)) here

nothing_done : (a : Attempt) (k : Fixed) (n : ℕ) (s : Stand) → resume a k n [] s ≡ no_value
nothing_done a k zero s = refl
nothing_done a k (suc n) s = refl

pub nothing_left : (a : Attempt) (k : Fixed) (xs : List Step) (p : Place) → p.stopped ≡ None → drop p.position xs ≡ [] → core_walk a k xs p ≡ no_value
nothing_left a k xs p none h =
    ap (λ o. on (resume a k p.left (drop p.position xs) (stand_view p.stand)) o (λ f. stop_walk f (stand_view p.stand))) none
    ∙ ap (λ ys. resume a k p.left ys (stand_view p.stand)) h ∙ nothing_done a k p.left (stand_view p.stand)

pub no_more_left : (a : Attempt) (k : Fixed) (xs : List Step) (p : Place) → p.stopped ≡ None → p.left ≡ 0 → core_walk a k xs p ≡ no_value
no_more_left a k xs p none h =
    ap (λ o. on (resume a k p.left (drop p.position xs) (stand_view p.stand)) o (λ f. stop_walk f (stand_view p.stand))) none
    ∙ ap (λ n. resume a k n (drop p.position xs) (stand_view p.stand)) h

pub drop_all : {A : Type 0} (n : ℕ) (xs : List A) → length xs ≤ n → drop n xs ≡ []
drop_all zero [] h = refl
drop_all (suc n) [] h = refl
drop_all zero (x ∷ xs) h = absurd (omega (arith, h))
drop_all (suc n) (x ∷ xs) h = drop_all n xs (omega (arith, h))

pub stopped_walk : (p : Program) (q : Place) (e : Finish) → q.stopped ≡ Some e → leaf_in p q ≡ limited (count_of p.bound.now) (stop_walk e (stand_view q.stand))
stopped_walk p q e h =
    ap (λ o. limited (count_of p.bound.now) (on (resume (attempt_view p.bound.now q.fixed.value) (fixed_view q.fixed.value) q.left (drop q.position (steps_at p q)) (stand_view q.stand)) o (λ f. stop_walk f (stand_view q.stand)))) h

pub some_tells : (p : Program) (q : Place) (o : Option NextEvent)
    → IfSome o (λ e. (a : Attempt) (k : Fixed) (xs : List Step) (m : ℕ) → LeafTells (points_at q) (limited m (core_walk a k xs q)) e) → IfSome o (λ e. LeafTells (points_at q) (leaf_in p q) e)
some_tells p q None h = h
some_tells p q (Some e) h = h (attempt_view p.bound.now q.fixed.value) (fixed_view q.fixed.value) (steps_at p q) (count_of p.bound.now)

-- where there is no value and the place fails
pub fails_same : (p : Program) (old new : Place) → new ≡ record old { stopped = new.stopped }
    → ((a : Attempt) (k : Fixed) (xs : List Step) → core_walk a k xs new ≡ no_value)
    → core_walk (attempt_view p.bound.now old.fixed.value) (fixed_view old.fixed.value) (steps_at p old) old ≡ no_value → leaf_in p new ≡ leaf_in p old
fails_same p old new e f h = frame_walk p old new e ∙ ap (limited (count_of p.bound.now)) (f (attempt_view p.bound.now old.fixed.value) (fixed_view old.fixed.value) (steps_at p old) ∙ sym h)

pub fails_tells : (p : Program) (old new : Place) (n : NextEvent) → new ≡ record old { stopped = new.stopped }
    → ((a : Attempt) (k : Fixed) (xs : List Step) (m : ℕ) → LeafTells (points_at new) (limited m (core_walk a k xs new)) n) → LeafTells (points_at new) (leaf_in p new) n
fails_tells p old new n e f = f (attempt_view p.bound.now new.fixed.value) (fixed_view new.fixed.value) (steps_at p new) (count_of p.bound.now)

pub instruction_here : (xs : List Instruction) (n : ℕ) (d : Instruction) → n < length xs → drop n (map step_of xs) ≡ step_of (get_or xs n d) ∷ drop (suc n) (map step_of xs)
instruction_here [] n d h = absurd (omega (arith, h))
instruction_here (x ∷ xs) zero d h = refl
instruction_here (x ∷ xs) (suc n) d h = instruction_here xs n d (omega (arith, h))

pub drop_all_steps : (xs : List Instruction) (n : ℕ) → length xs ≤ n → drop n (map step_of xs) ≡ []
drop_all_steps [] zero h = refl
drop_all_steps [] (suc n) h = refl
drop_all_steps (x ∷ xs) zero h = absurd (omega (arith, h))
drop_all_steps (x ∷ xs) (suc n) h = drop_all_steps xs n (omega (arith, h))

-- a place behind an access
pub access_leads : (p : Program) (old new : Place) (i : Step) (f : Flow) (t : Stand) (before behind : Data)
    → old.stopped ≡ None → 0 < old.left → drop old.position (steps_at p old) ≡ i ∷ drop (suc old.position) (steps_at p old)
    → new.instance ≡ old.instance → new.section ≡ old.section → new.fixed ≡ old.fixed
    → Performs (attempt_view p.bound.now old.fixed.value) (fixed_view old.fixed.value) i (stand_view old.stand) f t before behind
    → core_walk (attempt_view p.bound.now old.fixed.value) (fixed_view old.fixed.value) (steps_at p old) new
    ≡ flow_walk (attempt_view p.bound.now old.fixed.value) (fixed_view old.fixed.value) (old.left - 1) i (drop (suc old.position) (steps_at p old)) f t
    → LeafLeadsOn (leaf_in p old) (leaf_in p new) before behind
access_leads p old new i f t before behind none more here e1 e2 e3 h w =
    let a = attempt_view p.bound.now old.fixed.value in let k = fixed_view old.fixed.value in let xs = steps_at p old in
    let is = drop (suc old.position) xs in let g = h (old.left - 1) is in
    let seen : seen_from p old new ≡ leaf_in p new =
    λ j. limited (count_of p.bound.now) (core_walk (attempt_view p.bound.now (sym e3 j).value) (fixed_view (sym e3 j).value) (map step_of (instructions_in p.codes.items (sym e1 j) (sym e2 j))) new) in
    subst (λ (v : LeafTree). LeafLeadsOn (leaf_in p old) v before behind) seen
    (leads_on (count_of p.bound.now) (core_walk a k xs old) (core_walk a k xs new) g.0 g.1 g.2 before behind
    (at_instruction a k xs old i is none more here ∙ g.3) g.4 (w ∙ sym g.5))

-- a place behind an instruction that is no access
pub run_leads : (p : Program) (old new : Place) (i : Step) (f : Flow) (t : Stand)
    → old.stopped ≡ None → 0 < old.left → drop old.position (steps_at p old) ≡ i ∷ drop (suc old.position) (steps_at p old)
    → new.instance ≡ old.instance → new.section ≡ old.section → new.fixed ≡ old.fixed
    → LeadsTo (attempt_view p.bound.now old.fixed.value) (fixed_view old.fixed.value) i (stand_view old.stand) f t
    → core_walk (attempt_view p.bound.now old.fixed.value) (fixed_view old.fixed.value) (steps_at p old) new
    ≡ flow_walk (attempt_view p.bound.now old.fixed.value) (fixed_view old.fixed.value) (old.left - 1) i (drop (suc old.position) (steps_at p old)) f t
    → leaf_in p new ≡ leaf_in p old
run_leads p old new i f t none more here e1 e2 e3 h w =
    let a = attempt_view p.bound.now old.fixed.value in let k = fixed_view old.fixed.value in let xs = steps_at p old in
    let is = drop (suc old.position) xs in
    let seen : leaf_in p new ≡ seen_from p old new =
    λ j. limited (count_of p.bound.now) (core_walk (attempt_view p.bound.now (e3 j).value) (fixed_view (e3 j).value) (map step_of (instructions_in p.codes.items (e1 j) (e2 j))) new) in
    seen ∙ ap (limited (count_of p.bound.now)) (w ∙ sym (h (old.left - 1) is) ∙ sym (at_instruction a k xs old i is none more here))
