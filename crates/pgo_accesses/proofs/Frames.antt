-- Where two assignments of values agree on what a walk accesses, it does the same on both.
use Rattle.std.proofs.Common.{◌≡◌, ℕ, zero, suc, List, [], ◌∷◌, refl, ap, ◌∙◌}
use Rattle.std.specs.Prelude.{if◌then◌else◌, nat_eq, take}
use Rattle.pgo_base.specs.Data.{Data}
use Rattle.pgo_model.specs.Machine.{put}
use Rattle.pgo_accesses.specs.Frame.{AgreeOn}
use Rattle.pgo_workers.specs.Walk.{Walk, Stop, Touch, Again, visits, visits_from, ending, ending_from, final, final_from}

put_agrees : (r : ℕ) (x : Data) (rs : List ℕ) (f g : ℕ → Data) → AgreeOn rs f g → AgreeOn rs (put r x f) (put r x g)
put_agrees r x [] f g h = tt
put_agrees r x (q ∷ rs) f g h = (ap (λ (v : Data). if nat_eq q r then x else v) h.0, put_agrees r x rs f g h.1)

-- the first j accesses lead to the same next one, where s and t are the values at the start
front_from : (s t : ℕ → Data) (w : Walk) (f g : ℕ → Data) (j : ℕ) → AgreeOn (take j (visits_from s w f)) s t → AgreeOn (take j (visits_from s w f)) f g → take (suc j) (visits_from s w f) ≡ take (suc j) (visits_from t w g)
front_from s t (Stop e) f g j k h = refl
front_from s t (Again w) f g j k h = front_from s t w s t j k k
front_from s t (Touch r leave rest) f g zero k h = refl
front_from s t (Touch r leave rest) f g (suc j) k h =
    ap (λ l. r ∷ l) (front_from s t (rest (f r)) (put r (leave (f r)) f) (put r (leave (f r)) g) j k.1 (put_agrees r (leave (f r)) (take j (visits_from s (rest (f r)) (put r (leave (f r)) f))) f g h.1)
    ∙ ap (λ x. take (suc j) (visits_from t (rest x) (put r (leave x) g))) h.0)

pub same_front : (w : Walk) (f g : ℕ → Data) (j : ℕ) → AgreeOn (take j (visits w f)) f g → take (suc j) (visits w f) ≡ take (suc j) (visits w g)
same_front w f g j h = front_from f g w f g j h h

-- on all of its accesses: it makes the same, ends the same, and leaves the same in what was the same before
pub record SameWalk (w : Walk) (f g : ℕ → Data) : Type 0 where
  pub trace : visits w f ≡ visits w g
  pub ends : ending w f ≡ ending w g
  pub leaves : (r : ℕ) → f r ≡ g r → final w f r ≡ final w g r

-- it leaves the same in what was the same before
final_same : (s t : ℕ → Data) (w : Walk) (f g : ℕ → Data) → AgreeOn (visits_from s w f) s t → AgreeOn (visits_from s w f) f g → (r : ℕ) → s r ≡ t r → f r ≡ g r → final_from s w f r ≡ final_from t w g r
final_same s t (Stop e) f g k h r start same = same
final_same s t (Again w) f g k h r start same = final_same s t w s t k k r start start
final_same s t (Touch q leave rest) f g k h r start same =
    final_same s t (rest (f q)) (put q (leave (f q)) f) (put q (leave (f q)) g) k.1 (put_agrees q (leave (f q)) (visits_from s (rest (f q)) (put q (leave (f q)) f)) f g h.1) r start (ap (λ (v : Data). if nat_eq r q then leave (f q) else v) same)
    ∙ ap (λ x. final_from t (rest x) (put q (leave x) g) r) h.0

visits_same : (s t : ℕ → Data) (w : Walk) (f g : ℕ → Data) → AgreeOn (visits_from s w f) s t → AgreeOn (visits_from s w f) f g → visits_from s w f ≡ visits_from t w g
visits_same s t (Stop e) f g k h = refl
visits_same s t (Again w) f g k h = visits_same s t w s t k k
visits_same s t (Touch q leave rest) f g k h =
    ap (λ l. q ∷ l) (visits_same s t (rest (f q)) (put q (leave (f q)) f) (put q (leave (f q)) g) k.1 (put_agrees q (leave (f q)) (visits_from s (rest (f q)) (put q (leave (f q)) f)) f g h.1)
    ∙ ap (λ x. visits_from t (rest x) (put q (leave x) g)) h.0)

ending_same : (s t : ℕ → Data) (w : Walk) (f g : ℕ → Data) → AgreeOn (visits_from s w f) s t → AgreeOn (visits_from s w f) f g → ending_from s w f ≡ ending_from t w g
ending_same s t (Stop e) f g k h = refl
ending_same s t (Again w) f g k h = ending_same s t w s t k k
ending_same s t (Touch q leave rest) f g k h =
    ending_same s t (rest (f q)) (put q (leave (f q)) f) (put q (leave (f q)) g) k.1 (put_agrees q (leave (f q)) (visits_from s (rest (f q)) (put q (leave (f q)) f)) f g h.1)
    ∙ ap (λ x. ending_from t (rest x) (put q (leave x) g)) h.0

pub same_walk : (w : Walk) (f g : ℕ → Data) → AgreeOn (visits w f) f g → SameWalk w f g
same_walk w f g h = record {
  trace = visits_same f g w f g h h;
  ends = ending_same f g w f g h h;
  leaves = λ r e. final_same f g w f g h h r e e;
}
