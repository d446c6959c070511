-- Laws of the choices of a member for each of several names.
use Rattle.std.proofs.Common.{◌≡◌, ℕ, zero, suc, ◌<◌, ◌≤◌, ◌+◌, ◌-◌, List, [], ◌∷◌, ◌++◌, length, map, drop, refl, ap, sym, ◌∙◌, arith, add-one}
use Rattle.std.proofs.lemmas.List.{length-drop}
use Rattle.std.specs.Prelude.{true, false, Option, Some, None}
use Rattle.pgo_base.specs.Data.{Data}
use Rattle.pgo_base.specs.Lookup.{Names, nth}
use Rattle.pgo_base.specs.BindingsView.{onto, bound_view}
use Rattle.pgo_base.specs.declared.bindings.BoundName.{BoundName}
use Rattle.pgo_model.specs.Operators.{put, spread, choices}
use Rattle.pgo_model.specs.Val.{name_values, names_over}
use Rattle.pgo_eval.specs.Choices.{over_bound, sets_of, AreAt, AreFirst, or_empty, has_empty, with_member, chosen, from_member, left, at_place}

-- at the first place of each set all choices are left
pub left_first : (bs : List BoundName) → AreFirst bs → left bs ≡ choices (sets_of bs)
left_first [] h = refl
left_first (b ∷ bs) h =
    ap (λ cs. from_member (drop b.at b.set) cs (choices (sets_of bs))) (left_first bs h.1)
    ∙ ap (λ n. from_member (drop n b.set) (choices (sets_of bs)) (choices (sets_of bs))) h.0
    ∙ go b.set
  where
    go : (ms : List Data) → from_member (drop 0 ms) (choices (sets_of bs)) (choices (sets_of bs)) ≡ spread ms (choices (sets_of bs))
    go [] = refl
    go (m ∷ ms) = refl

-- what is left of a set where it stands at a member
abbrev HasMember : List Data → Type 0
HasMember [] = ⊥
HasMember (m ∷ ms) = Unit {0}

has_member : (n : ℕ) (ms : List Data) → n < length ms → HasMember (drop n ms)
has_member n ms h = go (drop n ms) (let e : length (drop n ms) ≡ length ms - n = length-drop n ms in omega arith)
  where
    go : (d : List Data) → 0 < length d → HasMember d
    go [] g = absurd (omega arith)
    go (m ∷ ms) g = tt

-- the names in scope at a choice
pub names_at : (bs : List BoundName) (ns : Names) → AreAt bs → onto (map bound_view bs) ns ≡ name_values (names_over (over_bound bs)) (chosen bs) ns
names_at [] ns h = refl
names_at (b ∷ bs) ns h = go (drop b.at b.set) (has_member b.at b.set h.0) (nth_drop b.at b.set) (names_at bs)
  where
    first : List Data → Option Data
    first [] = None
    first (m ∷ ms) = Some m

    nth_drop : (n : ℕ) (ms : List Data) → nth ms n ≡ first (drop n ms)
    nth_drop zero [] = refl
    nth_drop (suc n) [] = refl
    nth_drop zero (m ∷ ms) = refl
    nth_drop (suc n) (m ∷ ms) = nth_drop n ms

    go : (d : List Data) → HasMember d → nth b.set b.at ≡ first d → ((ns : Names) → AreAt bs → onto (map bound_view bs) ns ≡ name_values (names_over (over_bound bs)) (chosen bs) ns) → onto (map bound_view bs) ((b.name, nth b.set b.at) ∷ ns) ≡ name_values (b.name ∷ names_over (over_bound bs)) (with_member d (chosen bs)) ns
    go [] g e ih = absurd g
    go (m ∷ ms) g e ih = ap (λ o. onto (map bound_view bs) ((b.name, o) ∷ ns)) e ∙ ih ((b.name, Some m) ∷ ns) h.1

empty_behind : (b : BoundName) (bs : List BoundName) (m : Data) (ms : List Data) → b.set ≡ m ∷ ms → has_empty (b ∷ bs) ≡ true → has_empty bs ≡ true
empty_behind b bs m ms e h = sym (ap (λ xs. or_empty xs (has_empty bs)) e) ∙ h

full_before : (b : BoundName) (bs : List BoundName) (m : Data) (ms : List Data) → b.set ≡ m ∷ ms → has_empty (b ∷ bs) ≡ false → has_empty bs ≡ false
full_before b bs m ms e h = sym (ap (λ xs. or_empty xs (has_empty bs)) e) ∙ h

not_empty : (b : BoundName) (bs : List BoundName) → b.set ≡ [] → has_empty (b ∷ bs) ≡ false → ⊥
not_empty b bs e h = let k : true ≡ false = sym (ap (λ xs. or_empty xs (has_empty bs)) e) ∙ h in cc

-- where some set has no member there is no choice
pub no_choices : (bs : List BoundName) → has_empty bs ≡ true → choices (sets_of bs) ≡ []
no_choices [] h = absurd (cc)
no_choices (b ∷ bs) h = go b.set refl (no_choices bs)
  where
    nothing : (ms : List Data) → spread ms [] ≡ []
    nothing [] = refl
    nothing (m ∷ ms) = nothing ms

    go : (ms : List Data) → b.set ≡ ms → (has_empty bs ≡ true → choices (sets_of bs) ≡ []) → spread b.set (choices (sets_of bs)) ≡ []
    go [] e ih = ap (λ ms. spread ms (choices (sets_of bs))) e
    go (m ∷ ms) e ih = ap (spread b.set) (ih (empty_behind b bs m ms e h)) ∙ nothing b.set

-- where every set has a member the first places are members
pub first_at : (bs : List BoundName) → AreFirst bs → has_empty bs ≡ false → AreAt bs
first_at [] f h = tt
first_at (b ∷ bs) f h = go b.set refl (first_at bs f.1)
  where
    go : (ms : List Data) → b.set ≡ ms → (has_empty bs ≡ false → AreAt bs) → (b.at < length b.set) × AreAt bs
    go [] e ih = absurd (not_empty b bs e h)
    go (m ∷ ms) e ih = (omega (arith, f.0, ap length e), ih (full_before b bs m ms e h))

-- the first name alone at its last member
pub last_member : (b : BoundName) (bs : List BoundName) → b.at < length b.set → length b.set ≤ b.at + 1 → left bs ≡ chosen bs ∷ [] → left (b ∷ bs) ≡ chosen (b ∷ bs) ∷ []
last_member b bs h g e = go (drop b.at b.set) (has_member b.at b.set h) (let l : length (drop b.at b.set) ≡ length b.set - b.at = length-drop b.at b.set in omega arith)
  where
    go : (d : List Data) → HasMember d → length d ≤ 1 → from_member d (left bs) (choices (sets_of bs)) ≡ with_member d (chosen bs) ∷ []
    go [] k l = absurd k
    go (m ∷ []) k l = ap (λ cs. put m cs ++ []) e
    go (m ∷ n ∷ ms) k l = absurd (omega arith)

abbrev later : List Data → List Data
later [] = []
later (m ∷ ms) = ms

drop_next : (n : ℕ) (ms : List Data) → drop (n + 1) ms ≡ later (drop n ms)
drop_next n ms = ap (λ k. drop k ms) (add-one n) ∙ go n ms
  where
    go : (n : ℕ) (ms : List Data) → drop (suc n) ms ≡ later (drop n ms)
    go zero [] = refl
    go (suc n) [] = refl
    go zero (m ∷ ms) = refl
    go (suc n) (m ∷ ms) = go n ms

sets_behind : (front bs cs : List BoundName) → sets_of cs ≡ sets_of bs → sets_of (front ++ cs) ≡ sets_of (front ++ bs)
sets_behind [] bs cs s = s
sets_behind (b ∷ front) bs cs s = ap (λ ss. b.set ∷ ss) (sets_behind front bs cs s)

-- the first name goes on to its next member, and those behind it start anew
pub next_member : (b : BoundName) (bs cs : List BoundName) → b.at < length b.set → left bs ≡ chosen bs ∷ [] → sets_of cs ≡ sets_of bs → left cs ≡ choices (sets_of bs) → left (b ∷ bs) ≡ chosen (b ∷ bs) ∷ left (at_place (b.at + 1) b ∷ cs)
next_member b bs cs h e s f = go (drop b.at b.set) (has_member b.at b.set h) (drop_next b.at b.set)
  where
    all : (ms : List Data) → spread ms (choices (sets_of bs)) ≡ from_member ms (choices (sets_of bs)) (choices (sets_of bs))
    all [] = refl
    all (m ∷ ms) = refl

    go : (d : List Data) → HasMember d → drop (b.at + 1) b.set ≡ later d → from_member d (left bs) (choices (sets_of bs)) ≡ with_member d (chosen bs) ∷ from_member (drop (b.at + 1) b.set) (left cs) (choices (sets_of cs))
    go [] k l = absurd k
    go (m ∷ ms) k l =
        ap (λ xs. put m xs ++ spread ms (choices (sets_of bs))) e ∙ ap (λ xs. (m ∷ chosen bs) ∷ xs) (all ms)
        ∙ (λ i. (m ∷ chosen bs) ∷ from_member (sym l i) (sym f i) (choices (sym s i)))

-- names before others stay where they are
pub behind : (front bs cs : List BoundName) → AreAt front → sets_of cs ≡ sets_of bs → left bs ≡ chosen bs ∷ left cs → left (front ++ bs) ≡ chosen (front ++ bs) ∷ left (front ++ cs)
behind [] bs cs h s e = e
behind (b ∷ front) bs cs h s e = go (drop b.at b.set) (has_member b.at b.set h.0) (behind front bs cs h.1 s e)
  where
    go : (d : List Data) → HasMember d → left (front ++ bs) ≡ chosen (front ++ bs) ∷ left (front ++ cs) → from_member d (left (front ++ bs)) (choices (sets_of (front ++ bs))) ≡ with_member d (chosen (front ++ bs)) ∷ from_member d (left (front ++ cs)) (choices (sets_of (front ++ cs)))
    go [] k ih = absurd k
    go (m ∷ ms) k ih =
        ap (λ xs. put m xs ++ spread ms (choices (sets_of (front ++ bs)))) ih
        ∙ ap (λ ss. (m ∷ chosen (front ++ bs)) ∷ (put m (left (front ++ cs)) ++ spread ms (choices ss))) (sym (sets_behind front bs cs s))

-- the member at which the first name stands
pub record First (b : BoundName) (bs : List BoundName) : Type 0 where
  pub member : Data
  pub is : nth b.set b.at ≡ Some member
  pub before : chosen (b ∷ bs) ≡ member ∷ chosen bs

pub first_chosen : (b : BoundName) (bs : List BoundName) → b.at < length b.set → First b bs
first_chosen b bs h = go (drop b.at b.set) refl (has_member b.at b.set h)
  where
    nth_from : (n : ℕ) (ms : List Data) (m : Data) (d : List Data) → drop n ms ≡ m ∷ d → nth ms n ≡ Some m
    nth_from zero [] m d e = absurd (cc)
    nth_from (suc n) [] m d e = absurd (cc)
    nth_from zero (x ∷ ms) m d e = let k : x ≡ m = cc in ap Some k
    nth_from (suc n) (x ∷ ms) m d e = nth_from n ms m d e

    go : (d : List Data) → drop b.at b.set ≡ d → HasMember d → First b bs
    go [] e k = absurd k
    go (m ∷ ms) e k = record { member = m; is = nth_from b.at b.set m ms e; before = ap (λ d. with_member d (chosen bs)) e }
