-- What each of a list gives, from the first on.
use Rattle.std.proofs.Common.{◌≡◌, ℕ, suc, ◌<◌, ◌≤◌, ◌+◌, List, [], ◌∷◌, ◌++◌, length, map, get_or, drop, Option, Some, None, option_map, option_and_then, refl, ap, sym, ◌∙◌, add-one, drop-cons, append_assoc}
use Rattle.std.proofs.lemmas.List.{append-nil, drop_all}
use Rattle.pgo_base.specs.Data.{Data}
use Rattle.pgo_model.specs.Operators.{both, each, joined}

pub map_step : {X A : Type 0} (g : X → A) (xs : List X) (i : ℕ) (x : X) → i < length xs → x ≡ get_or xs i x → map g (drop i xs) ≡ g x ∷ map g (drop (i + 1) xs)
map_step g xs i x h e = ap (map g) (drop-cons xs i x h ∙ ap (λ y. y ∷ drop (suc i) xs) (sym e)) ∙ ap (λ n. g x ∷ map g (drop n xs)) (sym (add-one i))

pub map_end : {X A : Type 0} (g : X → A) (xs : List X) (i : ℕ) → length xs ≤ i → map g (drop i xs) ≡ []
map_end g xs i h = ap (map g) (drop_all i xs h)

-- one more of a list
abbrev pub with_first : {B : Type 0} → Option B → Option (List B) → Option (List B)
with_first = both (λ b bs. Some (b ∷ bs))

pub each_step : {X A B : Type 0} (f : A → Option B) (g : X → A) (xs : List X) (i : ℕ) (x : X) → i < length xs → x ≡ get_or xs i x → each f (map g (drop i xs)) ≡ with_first (f (g x)) (each f (map g (drop (i + 1) xs)))
each_step f g xs i x h e = ap (each f) (map_step g xs i x h e)

pub each_none : {X A B : Type 0} (f : A → Option B) (g : X → A) (xs : List X) (i : ℕ) (x : X) → i < length xs → x ≡ get_or xs i x → f (g x) ≡ None → each f (map g (drop i xs)) ≡ None
each_none f g xs i x h e n = each_step f g xs i x h e ∙ ap (λ o. with_first o (each f (map g (drop (i + 1) xs)))) n

pub each_some : {X A B : Type 0} (f : A → Option B) (g : X → A) (xs : List X) (i : ℕ) (x : X) (b : B) → i < length xs → x ≡ get_or xs i x → f (g x) ≡ Some b → each f (map g (drop i xs)) ≡ option_map (λ bs. b ∷ bs) (each f (map g (drop (i + 1) xs)))
each_some {B = B} f g xs i x b h e s = each_step f g xs i x h e ∙ ap (λ o. with_first o (each f (map g (drop (i + 1) xs)))) s ∙ go (each f (map g (drop (i + 1) xs)))
  where
    go : (o : Option (List B)) → with_first (Some b) o ≡ option_map (λ bs. b ∷ bs) o
    go None = refl
    go (Some bs) = refl

-- those that are done before those that are left, one more of which is done
pub one_more : {B : Type 0} (done : List B) (b : B) (o : Option (List B)) → option_map (λ bs. done ++ bs) (option_map (λ bs. b ∷ bs) o) ≡ option_map (λ bs. (done ++ b ∷ []) ++ bs) o
one_more done b None = refl
one_more done b (Some bs) = ap Some (sym (append_assoc done (b ∷ []) bs))

pub joined_more : (done ms : List Data) (o : Option (List (List Data))) → option_map (λ mss. done ++ joined mss) (option_map (λ mss. ms ∷ mss) o) ≡ option_map (λ mss. (done ++ ms) ++ joined mss) o
joined_more done ms None = refl
joined_more done ms (Some mss) = ap Some (sym (append_assoc done ms (joined mss)))

pub then_map : {A B C : Type 0} (f : A → B) (g : B → Option C) (o : Option A) → option_and_then (λ a. g (f a)) o ≡ option_and_then g (option_map f o)
then_map f g None = refl
then_map f g (Some a) = refl

-- what is made of a list, and what is left to be made
abbrev pub EachFrom : {A B : Type 0} → (A → Option B) → List A → List B → ℕ → Type 0
EachFrom f xs done i = each f xs ≡ option_map (λ bs. done ++ bs) (each f (drop i xs))

at_step : {A : Type 0} (xs : List A) (i : ℕ) (a : A) → i < length xs → a ≡ get_or xs i a → drop i xs ≡ a ∷ drop (i + 1) xs
at_step xs i a h e = drop-cons xs i a h ∙ ap (λ y. y ∷ drop (suc i) xs) (sym e) ∙ ap (λ n. a ∷ drop n xs) (sym (add-one i))

pub made_none : {A B : Type 0} (f : A → Option B) (xs : List A) (done : List B) (i : ℕ) (a : A) → EachFrom f xs done i → i < length xs → a ≡ get_or xs i a → f a ≡ None → each f xs ≡ None
made_none f xs done i a k h e n = k ∙ ap (λ ys. option_map (λ bs. done ++ bs) (each f ys)) (at_step xs i a h e) ∙ ap (λ o. option_map (λ bs. done ++ bs) (with_first o (each f (drop (i + 1) xs)))) n

pub made_some : {A B : Type 0} (f : A → Option B) (xs : List A) (done next : List B) (i : ℕ) (a : A) (b : B) → EachFrom f xs done i → i < length xs → a ≡ get_or xs i a → f a ≡ Some b → next ≡ done ++ b ∷ [] → EachFrom f xs next (i + 1)
made_some {B = B} f xs done next i a b k h e s n =
    k ∙ ap (λ ys. option_map (λ bs. done ++ bs) (each f ys)) (at_step xs i a h e)
    ∙ ap (λ o. option_map (λ bs. done ++ bs) (with_first o (each f (drop (i + 1) xs)))) s
    ∙ go (each f (drop (i + 1) xs))
  where
    go : (o : Option (List B)) → option_map (λ bs. done ++ bs) (with_first (Some b) o) ≡ option_map (λ bs. next ++ bs) o
    go None = refl
    go (Some bs) = ap Some (sym (append_assoc done (b ∷ []) bs) ∙ ap (λ d. d ++ bs) (sym n))

pub made_all : {A B : Type 0} (f : A → Option B) (xs : List A) (done : List B) (i : ℕ) → EachFrom f xs done i → length xs ≤ i → each f xs ≡ Some done
made_all f xs done i k h = k ∙ ap (λ ys. option_map (λ bs. done ++ bs) (each f ys)) (drop_all i xs h) ∙ ap Some (append-nil done)
