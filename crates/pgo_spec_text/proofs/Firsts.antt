-- The place that a search finds is the first one that has the property which the test tells.
use Rattle.std.proofs.Common.{◌≡◌, ◌≤◌, ℕ, Bool, true, false, cond, List, [], ◌∷◌, ◌++◌, length, Some, None, refl, sym, ◌∙◌, ap, subst, arith}
use Rattle.std.proofs.lemmas.List.{append_assoc, append-nil}
use Rattle.pgo_lexer.proofs.Runs.{if_some, no_some, cond_true, cond_false}
use Rattle.pgo_spec_text.specs.Searching.{first_by}

-- the test, at the state that what stands before leads to, says whether a place has the property
pub record Tells (Has : (before rest : List ℕ) → Type 0) (test : Bool → List ℕ → Bool) (next : Bool → ℕ → Bool) (state : List ℕ → Bool) : Type 0 where
  pub yes : (before rest : List ℕ) → Has before rest → test (state before) rest ≡ true
  pub is : (before rest : List ℕ) → test (state before) rest ≡ true → Has before rest
  pub more : (before : List ℕ) (b : ℕ) → state (before ++ b ∷ []) ≡ next (state before) b
  pub some : (before : List ℕ) → Has before [] → ⊥

-- the first place from here on
pub record FirstFrom (Has : (before rest : List ℕ) → Type 0) (before bs rest : List ℕ) : Type 0 where
  pub middle : List ℕ
  pub split : bs ≡ middle ++ rest
  pub has : Has (before ++ middle) rest
  pub first : (l r : List ℕ) → l ++ r ≡ bs → Has (before ++ l) r → length middle ≤ length l

one_more : (before : List ℕ) (b : ℕ) (m : List ℕ) → (before ++ b ∷ []) ++ m ≡ before ++ b ∷ m
one_more before b m = append_assoc before (b ∷ []) m

-- nothing stands before
nothing_more : (Has : (before rest : List ℕ) → Type 0) (before rest : List ℕ) → Has (before ++ []) rest → Has before rest
nothing_more Has before rest h = subst (λ x. Has x rest) (append-nil before) h

here : (Has : (before rest : List ℕ) → Type 0) (before bs : List ℕ) → Has before bs → FirstFrom Has before bs bs
here Has before bs h = record { middle = []; split = refl; has = subst (λ x. Has x bs) (sym (append-nil before)) h; first = λ l r e k. omega arith }

over : (Has : (before rest : List ℕ) → Type 0) (before bs rest : List ℕ) (b : ℕ) → (Has before (b ∷ bs) → ⊥) → FirstFrom Has (before ++ b ∷ []) bs rest → FirstFrom Has before (b ∷ bs) rest
over Has before bs rest b not_here h = record {
  middle = b ∷ h.middle;
  split = ap (λ x. b ∷ x) h.split;
  has = subst (λ x. Has x rest) (one_more before b h.middle) h.has;
  first = go;
}
  where
    go : (l r : List ℕ) → l ++ r ≡ b ∷ bs → Has (before ++ l) r → length (b ∷ h.middle) ≤ length l
    go [] r e k = absurd (not_here (subst (λ x. Has before x) e (nothing_more Has before r k)))
    go (x ∷ l) r e k =
        let same : x ≡ b = cc in
        let rest_is : l ++ r ≡ bs = cc in
        let k2 : Has ((before ++ b ∷ []) ++ l) r = subst (λ z. Has z r) ((λ i. before ++ same i ∷ l) ∙ sym (one_more before b l)) k in
        let few = h.first l r rest_is k2 in
        omega arith

pub found_first : (Has : (before rest : List ℕ) → Type 0) (test : Bool → List ℕ → Bool) (next : Bool → ℕ → Bool) (state : List ℕ → Bool) → Tells Has test next state
    → (before bs rest : List ℕ) → first_by test next (state before) bs ≡ Some rest → FirstFrom Has before bs rest
found_first Has test next state tells before [] rest e = no_some rest _ e
found_first Has test next state tells before (b ∷ bs) rest e =
    let G : Type 0 = FirstFrom Has before (b ∷ bs) rest in
    if_some (test (state before) (b ∷ bs)) _ _ rest G e
    (λ t e. let same : b ∷ bs ≡ rest = cc in subst (λ x. FirstFrom Has before (b ∷ bs) x) same (here Has before (b ∷ bs) (tells.is before (b ∷ bs) t)))
    (λ t e. over Has before bs rest b (λ k. let q = sym (tells.yes before (b ∷ bs) k) ∙ t in cc)
    (found_first Has test next state tells (before ++ b ∷ []) bs rest (ap (λ s. first_by test next s bs) (tells.more before b) ∙ e)))

pub first_found : (Has : (before rest : List ℕ) → Type 0) (test : Bool → List ℕ → Bool) (next : Bool → ℕ → Bool) (state : List ℕ → Bool) → Tells Has test next state
    → (before middle rest : List ℕ) → Has (before ++ middle) rest → ((l r : List ℕ) → l ++ r ≡ middle ++ rest → Has (before ++ l) r → length middle ≤ length l)
    → first_by test next (state before) (middle ++ rest) ≡ Some rest
first_found Has test next state tells before [] [] has first = absurd (tells.some (before ++ []) has)
first_found Has test next state tells before [] (b ∷ bs) has first = cond_true (test (state before) (b ∷ bs)) _ _ (tells.yes before (b ∷ bs) (nothing_more Has before (b ∷ bs) has))
first_found Has test next state tells before (b ∷ middle) rest has first =
    go (test (state before) (b ∷ (middle ++ rest))) refl (first_found Has test next state tells (before ++ b ∷ []) middle rest (subst (λ x. Has x rest) (sym (one_more before b middle)) has) later)
  where
    later : (l r : List ℕ) → l ++ r ≡ middle ++ rest → Has ((before ++ b ∷ []) ++ l) r → length middle ≤ length l
    later l r e k = let few = first (b ∷ l) r (ap (λ x. b ∷ x) e) (subst (λ z. Has z r) (one_more before b l) k) in omega arith

    go : (t : Bool) → test (state before) (b ∷ (middle ++ rest)) ≡ t → first_by test next (state (before ++ b ∷ [])) (middle ++ rest) ≡ Some rest → first_by test next (state before) (b ∷ (middle ++ rest)) ≡ Some rest
    go true t ih = absurd (let few = first [] (b ∷ (middle ++ rest)) refl (subst (λ x. Has x (b ∷ (middle ++ rest))) (sym (append-nil before)) (tells.is before (b ∷ (middle ++ rest)) t)) in omega arith)
    go false t ih =
        cond_false (test (state before) (b ∷ (middle ++ rest))) _ _ t ∙ (λ i. first_by test next (sym (tells.more before b) i) (middle ++ rest))
        ∙ ih

-- where nothing is found no place has the property
pub none_first : (Has : (before rest : List ℕ) → Type 0) (test : Bool → List ℕ → Bool) (next : Bool → ℕ → Bool) (state : List ℕ → Bool) → Tells Has test next state
    → (before bs : List ℕ) → first_by test next (state before) bs ≡ None → (l r : List ℕ) → l ++ r ≡ bs → Has (before ++ l) r → ⊥
none_first Has test next state tells before [] e [] [] q has = tells.some (before ++ []) has
none_first Has test next state tells before [] e [] (x ∷ r) q has = cc
none_first Has test next state tells before [] e (x ∷ l) r q has = cc
none_first Has test next state tells before (b ∷ bs) e l r q has = go (test (state before) (b ∷ bs)) refl e l q has (none_first Has test next state tells (before ++ b ∷ []) bs)
  where
    go : (t : Bool) → test (state before) (b ∷ bs) ≡ t → cond t (Some (b ∷ bs)) (first_by test next (next (state before) b) bs) ≡ None → (l : List ℕ) → l ++ r ≡ b ∷ bs → Has (before ++ l) r
        → (first_by test next (state (before ++ b ∷ [])) bs ≡ None → (l r : List ℕ) → l ++ r ≡ bs → Has ((before ++ b ∷ []) ++ l) r → ⊥) → ⊥
    go true is e l q has ih = cc
    go false is e [] q has ih = let k = sym (tells.yes before (b ∷ bs) (subst (λ x. Has before x) q (nothing_more Has before r has))) ∙ is in cc
    go false is e (x ∷ l) q has ih =
        let same : x ≡ b = cc in
        let rest_is : l ++ r ≡ bs = cc in
        ih (ap (λ s. first_by test next s bs) (tells.more before b) ∙ e) l r rest_is (subst (λ z. Has z r) ((λ i. before ++ same i ∷ l) ∙ sym (one_more before b l)) has)
