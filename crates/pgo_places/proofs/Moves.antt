-- Where an access and an instruction lead.
use Rattle.std.proofs.Common.{◌≡◌, ◌<◌, ◌+◌, ◌-◌, ℕ, zero, suc, Bool, true, false, List, [], ◌∷◌, None, refl, ap, sym, ◌∙◌, drop, arith}
use Rattle.std.specs.Prelude.{if◌then◌else◌, nat_lt}
use Rattle.pgo_base.specs.Data.{Data}
use Rattle.pgo_workers.specs.Tried.{LeafTree}
use Rattle.pgo_workers.specs.Walk.{Stop, Touch, Again}
use Rattle.pgo_resource.specs.declared.sections.NextEvent.TheVariants as events
use Rattle.pgo_accesses.specs.Accesses.{Attempt, no_value}
use Rattle.pgo_code.specs.Steps.{Step}
use Rattle.pgo_model.specs.Options.{on}
use Rattle.pgo_sections.specs.SectionRun.{ChoiceMade}
use Rattle.pgo_places.specs.declared.place.Place.{Place}
use Rattle.pgo_places.specs.Flows.{IsTouchOf}
use Rattle.pgo_places.specs.LeafEvents.{LeafLeadsOn, LeafTells}
use Rattle.pgo_places.specs.PlaceView.{stand_view}
use Rattle.pgo_places.specs.PlaceWalk.{core_walk, stop_walk}
use Rattle.pgo_places.specs.Stands.{Fixed, Stand, limited, resume}

abbrev leave_of : LeafTree → Data → Data
leave_of (Stop e) v = v
leave_of (Touch r leave rest) v = leave v
leave_of (Again w) v = v

abbrev rest_of : LeafTree → Data → LeafTree
rest_of (Stop e) v = Stop e
rest_of (Touch r leave rest) v = rest v
rest_of (Again w) v = Again w

-- an access leads on, also where it is limited
pub leads_on : (m : ℕ) (w v : LeafTree) (r : ℕ) (leave : Data → Data) (rest : Data → LeafTree) (old new : Data) → w ≡ Touch r leave rest → new ≡ leave old → v ≡ rest old → LeafLeadsOn (limited m w) (limited m v) old new
leads_on m w v r leave rest old new e n f = λ q l g h. go q l g (nat_lt r m) (sym (ap (limited m) e) ∙ h)
  where
    go : (q : ℕ) (l : Data → Data) (g : Data → LeafTree) (b : Bool) → (if b then Touch r leave (λ x. limited m (rest x)) else no_value) ≡ Touch q l g → (new ≡ l old) × (limited m v ≡ g old)
    go q l g true h = (n ∙ ap (λ x. leave_of x old) h, ap (limited m) f ∙ ap (λ x. rest_of x old) h)
    go q l g false h = absurd (cc)

-- of a resource that there is
pub touch_tells : (cs : List ChoiceMade) (m r : ℕ) (w : LeafTree) → IsTouchOf r w → r < m → LeafTells cs (limited m w) (events.Access r)
touch_tells cs m r w t h = go (nat_lt r m) refl
  where
    go : (b : Bool) → nat_lt r m ≡ b → LeafTells cs (limited m w) (events.Access r)
    go true e = (t.0, λ v. limited m (t.1 v), ap (limited m) t.2 ∙ ap (λ c. if c then Touch r t.0 (λ v. limited m (t.1 v)) else no_value) e)
    go false e = absurd (grind (arith, e, h))

pub drop_behind : {A : Type 0} (n : ℕ) (xs : List A) (x : A) (ys : List A) → drop n xs ≡ x ∷ ys → drop (suc n) xs ≡ ys
drop_behind zero [] x ys h = absurd (cc)
drop_behind zero (u ∷ us) x ys h = ap (elim [ [] ↦ [] | z ∷ zs ↦ zs ]) h
drop_behind (suc n) [] x ys h = absurd (cc)
drop_behind (suc n) (u ∷ us) x ys h = drop_behind n us x ys h

-- at the next place
pub goes_on : (a : Attempt) (k : Fixed) (xs is : List Step) (i : Step) (n left from to over : ℕ) (s : Stand) → drop from xs ≡ i ∷ is → drop to xs ≡ drop over (drop (suc from) xs) → left ≡ n
    → resume a k left (drop to xs) s ≡ resume a k n (drop over is) s
goes_on a k xs is i n left from to over s h t l =
    ap (λ ys. resume a k left ys s) (t ∙ ap (λ ys. drop over ys) (drop_behind from xs i is h)) ∙ ap (λ j. resume a k j (drop over is) s) l

pub moved_on : (a : Attempt) (k : Fixed) (xs is : List Step) (i : Step) (n over : ℕ) (old new : Place) → new ≡ record old { position = new.position; left = old.left - 1 } → old.stopped ≡ None
    → old.left ≡ suc n → drop old.position xs ≡ i ∷ is → drop new.position xs ≡ drop over (drop (suc old.position) xs)
    → core_walk a k xs new ≡ resume a k n (drop over is) (stand_view old.stand)
moved_on a k xs is i n over old new e none l h t =
    let less : old.left - 1 ≡ n = omega (arith, l) in
    let here : Place = record old { position = new.position; left = old.left - 1 } in
    ap (core_walk a k xs) e
    ∙ ap (λ o. on (resume a k here.left (drop here.position xs) (stand_view here.stand)) o (λ f. stop_walk f (stand_view here.stand))) none
    ∙ goes_on a k xs is i n (old.left - 1) old.position new.position over (stand_view old.stand) h t less

nothing_in : {A : Type 0} (n : ℕ) (xs : List A) → xs ≡ [] → drop n xs ≡ []
nothing_in zero xs h = h
nothing_in (suc n) [] h = refl
nothing_in (suc n) (x ∷ xs) h = absurd (cc)

pub drop_more_behind : {A : Type 0} (n m : ℕ) (xs : List A) → drop (n + m) xs ≡ drop m (drop n xs)
drop_more_behind zero m xs = ap (λ j. drop j xs) (omega arith)
drop_more_behind (suc n) m [] = nothing_in (suc n + m) [] refl ∙ sym (nothing_in m [] refl)
drop_more_behind (suc n) m (x ∷ xs) = ap (λ j. drop j (x ∷ xs)) (let e : suc n + m ≡ suc (n + m) = omega arith in e) ∙ drop_more_behind n m xs
