-- What there is at a place whose next event has come.
use Rattle.std.proofs.Common.{◌≡◌, ◌<◌, map, ℕ, zero, suc, Bool, true, false, List, [], ◌∷◌, Option, Some, None, refl, ap, sym, ◌∙◌, drop, length, arith, subst}
use Rattle.std.specs.Prelude.{if◌then◌else◌, ◌&&◌, get_or, IfSome, IsSome, option_and_then}
use Rattle.pgo_base.specs.Data.{Data}
use Rattle.pgo_base.specs.Lookup.{Name}
use Rattle.pgo_model.specs.Options.{on}
use Rattle.pgo_model.specs.Outcome.{Kind, Blocked, NoValue, AssertFails, Many}
use Rattle.pgo_syntax.specs.RecordView.{kind_view}
use Rattle.pgo_sections.specs.SectionRun.{ChoiceMade}
use Rattle.pgo_sections.specs.BoundValues.{value_under}
use Rattle.pgo_sections.specs.Context.{index_value}
use Rattle.pgo_workers.specs.Tried.{Leads, Blocks, LeafTree}
use Rattle.pgo_workers.specs.Walk.{Stop, Touch, Again, Goes, Sticks}
use Rattle.pgo_resource.specs.declared.sections.NextEvent.{NextEvent}
use Rattle.pgo_resource.specs.declared.sections.NextEvent.TheVariants as events
use Rattle.pgo_accesses.specs.Accesses.{Attempt, no_value, stuck, with_value, is_empty, all_shallow}
use Rattle.pgo_code.specs.Steps.{Unmapped, Evaluation, Target, Resource, Own, Content, Step, Bind, Pick, Unbind, Assign, Set, Await, Assert, Print, Branch, Choose, Jump, End, Read, Write, Fail}
use Rattle.pgo_code.specs.See.{step_of}
use Rattle.pgo_code.specs.declared.instruction.Instruction.{Instruction}
use Rattle.pgo_code.specs.declared.program.Program.{Program}
use Rattle.pgo_places.specs.declared.place.Place.{Place}
use Rattle.pgo_places.specs.Flows.{evaluation_in, left_of, resource_at, access_to, IsTouchOf, StandsAt}
use Rattle.pgo_places.specs.PlaceView.{stand_view, fixed_view, attempt_view}
use Rattle.pgo_places.specs.LeafEvents.{IsLeafEnd, IsLeafTouch, LeafTells}
use Rattle.pgo_places.specs.PlaceWalk.{instructions_in, steps_at, leaf_in}
use Rattle.pgo_places.specs.Ready.{IsAccess, IsAccessEvent, IsReady, is_access_kind}
use Rattle.pgo_places.specs.Stands.{Fixed, Stand, labelled, onward, putting, resume}
use Rattle.pgo_places.proofs.PlaceLaws.{instruction_here}
use Rattle.pgo_places.proofs.Standing.{read_stands, mapped_read, mapped_write}

abbrev is_touch : LeafTree → Bool
is_touch (Stop e) = false
is_touch (Touch r leave rest) = true
is_touch (Again w) = false

abbrev resource_of : LeafTree → ℕ
resource_of (Stop e) = 0
resource_of (Touch r leave rest) = r
resource_of (Again w) = 0

-- a touch is no end
no_end : (r : ℕ) (w v : LeafTree) → IsTouchOf r w → w ≡ v → is_touch v ≡ false → ⊥
no_end r w v t e f = let h : true ≡ false = ap is_touch (sym t.2) ∙ ap is_touch e ∙ f in cc

-- it is of one resource
one_touch : (q r : ℕ) (w : LeafTree) → IsTouchOf q w → IsTouchOf r w → q ≡ r
one_touch q r w t u = ap resource_of (sym t.2 ∙ u.2)

pub some_ready : (p : Program) (q : Place) (o : Option NextEvent) → IfSome o (λ e. (p : Program) → IsReady p q e) → IfSome o (λ e. IsReady p q e)
some_ready p q None h = h
some_ready p q (Some e) h = h p

-- what is told of a touch is an access
pub tells_access : (cs : List ChoiceMade) (w : LeafTree) (e : NextEvent) → IsLeafTouch w → LeafTells cs w e → IsAccessEvent e
tells_access cs w (events.Access r) t h = tt
tells_access cs w events.Commit t h = no_end t.0 w _ (t.1, t.2, t.3) h.2 refl
tells_access cs w (events.Note kind) t h = no_end t.0 w _ (t.1, t.2, t.3) h refl

abbrev is_end : LeafTree → Bool
is_end (Stop (Leads (Goes own prints))) = true
is_end (Stop (Leads (Sticks kind))) = false
is_end (Stop (Blocks points)) = false
is_end (Touch r leave rest) = false
is_end (Again w) = false

stuck_is : (kind : Kind) (cs : List ChoiceMade) → is_end (Stop (stuck kind cs)) ≡ false
stuck_is Blocked cs = refl
stuck_is NoValue cs = refl
stuck_is AssertFails cs = refl
stuck_is Many cs = refl

pub ready_end : (cs : List ChoiceMade) (p : Program) (q : Place) (e : NextEvent) → IsLeafEnd (leaf_in p q) → LeafTells cs (leaf_in p q) e → IsReady p q e → IsReady p q events.Commit
ready_end cs p q (events.Access m) t h g = absurd (let z : true ≡ false = sym (ap is_end t.2) ∙ ap is_end h.2 in cc)
ready_end cs p q events.Commit t h g = g
ready_end cs p q (events.Note kind) t h g = absurd (let z : true ≡ false = sym (ap is_end t.2) ∙ ap is_end h ∙ stuck_is (kind_view kind) cs in cc)

some_none : {A : Type 0} (x : A) → Some x ≡ None → ⊥
some_none x h = cc

-- ---- what an access has at hand

pub read_there : (a : Attempt) (k : Fixed) (r : ℕ) (i : Step) (s : Stand) (x : Name) (o : Option ℕ) (xs : List Unmapped) → left_of (evaluation_in i s.value) s ≡ (x, o) ∷ xs → IsAccess a k r i s → IsSome o
read_there a k r i s x None xs h t = absurd (no_end r _ _ t.0 (read_stands a k i s x None xs h 0 []) refl)
read_there a k r i s x (Some q) xs h t = refl

put_there : (k : Fixed) (r : ℕ) (t : Target) (v : Data) (s : Stand) → IsTouchOf r (putting k t v s (λ u. no_value)) → t ≡ Resource (Some r)
put_there k r (Resource None) v s h = absurd (no_end r _ _ h refl refl)
put_there k r (Resource (Some q)) v s h = ap (λ n. Resource (Some n)) (ap resource_of h.2)
put_there k r (Own y) v s h = absurd (no_end r _ _ h refl refl)

pub assign_there : (a : Attempt) (k : Fixed) (r : ℕ) (t : Target) (w : Name) (s : Stand) → IsAccess a k r (Assign t w) s → (t ≡ Resource (Some r)) × IsSome (value_under w s.env)
assign_there a k r t w s h = go (value_under w s.env) h.0
  where
    go : (o : Option Data) → IsTouchOf r (with_value o (λ v. putting k t v (onward s) (λ u. no_value))) → (t ≡ Resource (Some r)) × IsSome o
    go None t1 = absurd (no_end r _ _ t1 refl refl)
    go (Some v) t1 = (put_there k r t v (onward s) t1, refl)

pub set_there : (a : Attempt) (k : Fixed) (r : ℕ) (t : Target) (x : Evaluation) (s : Stand) → left_of (evaluation_in (Set t x) s.value) s ≡ [] → IsAccess a k r (Set t x) s → (t ≡ Resource (Some r)) × IsSome s.value
set_there a k r t x s none h = go s.value refl
  where
    here : (v : Data) → s.value ≡ Some v → IsTouchOf r (putting k t v (onward s) (λ u. no_value))
    here v e = subst (λ w. IsTouchOf r w) (ap (λ o. on (resume a k 1 (Set t x ∷ []) (record s { value = None })) o (λ v. putting k t v (onward s) (resume a k 0 []))) e) h.0

    unknown : (o : Option Data) → o ≡ None → evaluation_in (Set t x) o ≡ None → ⊥
    unknown None e f = some_none x f
    unknown (Some v) e f = some_none v e

    go : (o : Option Data) → s.value ≡ o → (t ≡ Resource (Some r)) × IsSome o
    go None e = absurd (unknown s.value e (h.1 none))
    go (Some v) e = (put_there k r t v (onward s) (here v e), refl)

stands_of : (a : Attempt) (k : Fixed) (r : ℕ) (i : Step) (s : Stand) (o : Option ℕ) → StandsAt a k i s (access_to o) → IsAccess a k r i s → o ≡ Some r
stands_of a k r i s None h t = absurd (no_end r _ _ t.0 (h 0 []) refl)
stands_of a k r i s (Some q) h t = ap Some (one_touch q r _ (h.0 0 []) t.0)

pub mapped_read_there : (a : Attempt) (k : Fixed) (r : ℕ) (w : Name) (c : Content) (i : Option Name) (s : Stand) → IsAccess a k r (Read w c i) s → option_and_then (λ j. resource_at a c j) (index_value i s.env) ≡ Some r
mapped_read_there a k r w c i s t = stands_of a k r (Read w c i) s _ (mapped_read a k w c i s) t

pub mapped_write_there : (a : Attempt) (k : Fixed) (r : ℕ) (c : Content) (i : Option Name) (w : Name) (s : Stand) → IsAccess a k r (Write c i w) s → option_and_then (λ j. resource_at a c j) (index_value i s.env) ≡ Some r
mapped_write_there a k r c i w s t = stands_of a k r (Write c i w) s _ (mapped_write a k c i w s) t

-- the other instructions are no access
pub no_access : (a : Attempt) (k : Fixed) (r : ℕ) (i : Step) (s : Stand) → left_of (evaluation_in i s.value) s ≡ [] → IsAccess a k r i s → is_access_kind i ≡ false → ⊥
no_access a k r (Bind w e) s n t f = some_none e (t.1 n)
no_access a k r (Pick w e) s n t f = some_none e (t.1 n)
no_access a k r Unbind s n t f = no_end r _ _ t.0 refl refl
no_access a k r (Assign x w) s n t f = cc
no_access a k r (Set x e) s n t f = cc
no_access a k r (Await e) s n t f = some_none e (t.1 n)
no_access a k r (Assert e) s n t f = some_none e (t.1 n)
no_access a k r (Print e) s n t f = some_none e (t.1 n)
no_access a k r (Branch e j) s n t f = some_none e (t.1 n)
no_access a k r (Choose js) s n t f = no_end r _ _ t.0 refl refl
no_access a k r (Jump j) s n t f = no_end r _ _ t.0 refl refl
no_access a k r (End l) s n t f = go (is_empty s.progress.too_deep && all_shallow (labelled l s.own)) t.0
  where
    go : (b : Bool) → IsTouchOf r (if b then Stop (Leads (Goes (labelled l s.own) s.progress.prints)) else no_value) → ⊥
    go true h = no_end r _ _ h refl refl
    go false h = no_end r _ _ h refl refl
no_access a k r (Read w c i) s n t f = cc
no_access a k r (Write c i w) s n t f = cc
no_access a k r Fail s n t f = no_end r _ _ t.0 refl refl

pub some_there : {A : Type 0} (o : Option A) → IsSome o → (x : A) × (o ≡ Some x)
some_there None h = absurd (cc)
some_there (Some x) h = (x, refl)

pub nothing_there : {A : Type 0} (o : Option A) → o ≡ None → IsSome o → ⊥
nothing_there None e h = cc
nothing_there (Some x) e h = cc

-- the index has a value, and that gives the resource
pub first_there : {A B : Type 0} (o : Option A) (f : A → Option B) (r : B) → option_and_then f o ≡ Some r → IsSome o
first_there None f r h = absurd (some_none r (sym h))
first_there (Some x) f r h = refl

pub second_there : {A B : Type 0} (o : Option A) (f : A → Option B) (x : A) (r : B) → option_and_then f o ≡ Some r → Some x ≡ o → f x ≡ Some r
second_there o f x r h e = ap (λ q. option_and_then f q) e ∙ h

nothing_behind : {A : Type 0} (n : ℕ) (x : A) (rest : List A) → drop n [] ≡ x ∷ rest → ⊥
nothing_behind zero x rest h = cc
nothing_behind (suc n) x rest h = cc

-- an instruction stands in its list
pub no_list : (is : List Instruction) (n : ℕ) (i : Step) (rest : List Step) → is ≡ [] → drop n (map step_of is) ≡ i ∷ rest → ⊥
no_list is n i rest e h = nothing_behind n i rest (sym (ap (λ js. drop n (map step_of js)) e) ∙ h)

is_within : (is : List Instruction) (n : ℕ) (i : Step) (rest : List Step) → drop n (map step_of is) ≡ i ∷ rest → n < length is
is_within [] n i rest h = absurd (nothing_behind n i rest h)
is_within (j ∷ is) zero i rest h = omega arith
is_within (j ∷ is) (suc n) i rest h = let k = is_within is n i rest h in omega (arith, k)

same_first : {A : Type 0} (xs : List A) (x y : A) (us vs : List A) → xs ≡ x ∷ us → xs ≡ y ∷ vs → x ≡ y
same_first {A = A} xs x y us vs e h = ap (λ l. elim l as (λ _. A) [ [] ↦ x | z ∷ zs ↦ z ]) (sym e ∙ h)

-- the instructions at a place that is at an access
pub ready_within : (p : Program) (q : Place) (list : List Instruction) (r : ℕ) → list ≡ instructions_in p.codes.items q.instance q.section → IsReady p q (events.Access r) → q.position < length list
ready_within p q list r e h = is_within list q.position h.2 (drop (suc q.position) (steps_at p q)) (ap (λ is. drop q.position (map step_of is)) e ∙ h.3)

-- the instruction there, and its access
pub ready_here : (p : Program) (q : Place) (list : List Instruction) (r : ℕ) (d : Instruction) → list ≡ instructions_in p.codes.items q.instance q.section → IsReady p q (events.Access r)
    → drop q.position (steps_at p q) ≡ step_of (get_or list q.position d) ∷ drop (suc q.position) (steps_at p q)
ready_here p q list r d e h =
    subst (λ is. drop q.position (map step_of is) ≡ step_of (get_or list q.position d) ∷ drop (suc q.position) (map step_of is)) e
    (instruction_here list q.position d (ready_within p q list r e h))

pub ready_access : (p : Program) (q : Place) (list : List Instruction) (r : ℕ) (d : Instruction) → list ≡ instructions_in p.codes.items q.instance q.section → IsReady p q (events.Access r)
    → IsAccess (attempt_view p.bound.now q.fixed.value) (fixed_view q.fixed.value) r (step_of (get_or list q.position d)) (stand_view q.stand)
ready_access p q list r d e h =
    subst (λ (i : Step). IsAccess (attempt_view p.bound.now q.fixed.value) (fixed_view q.fixed.value) r i (stand_view q.stand))
    (same_first (drop q.position (steps_at p q)) h.2 (step_of (get_or list q.position d)) (drop (suc q.position) (steps_at p q)) (drop (suc q.position) (steps_at p q)) h.3 (ready_here p q list r d e h)) h.4
