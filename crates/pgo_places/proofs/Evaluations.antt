-- What an instruction does that evaluates an expression.
use Rattle.std.proofs.Common.{◌≡◌, ℕ, zero, suc, List, [], ◌∷◌, Option, Some, None, refl, ap, sym, ◌∙◌, drop}
use Rattle.std.proofs.lemmas.Option.{same_Some}
use Rattle.pgo_base.specs.Data.{Data}
use Rattle.pgo_base.specs.Lookup.{Name, Names}
use Rattle.pgo_model.specs.Options.{on}
use Rattle.pgo_workers.specs.Tried.{LeafTree}
use Rattle.pgo_workers.specs.Walk.{Touch}
use Rattle.pgo_accesses.specs.Accesses.{Attempt, with_value}
use Rattle.pgo_code.specs.Steps.{Unmapped, Evaluation, Step, Bind, Pick, Unbind, Assign, Set, Await, Assert, Print, Branch, Choose, Jump, End, Read, Write, Fail}
use Rattle.pgo_places.specs.Flows.{evaluation_in, after, left_of}
use Rattle.pgo_places.specs.Stands.{Fixed, Stand, onward, cleared, looked, updated, is_global, is_global_named, evaluating, putting, reads_then, value_in, resume}

-- functions that agree everywhere
pub same_function : {A B : Type 0} (f g : A → B) → ((x : A) → f x ≡ g x) → f ≡ g
same_function f g h = λ i x. h x i

-- no global is seen, whatever was seen before
unseen_again : (x : Name) (v : Data) (os : List (Option Name)) (vs : Names) → updated is_global None os (updated (is_global_named x) (Some v) os vs) ≡ updated is_global None os vs
unseen_again x v [] [] = refl
unseen_again x v (o ∷ os) [] = refl
unseen_again x v [] (n ∷ ns) = refl
unseen_again x v (None ∷ os) (n ∷ ns) = ap (λ l. (n.0, None) ∷ l) (unseen_again x v os ns)
unseen_again x v (Some y ∷ os) (n ∷ ns) = ap (λ l. n ∷ l) (unseen_again x v os ns)

pub cleared_looked : (k : Fixed) (x : Name) (v : Data) (s : Stand) → cleared k (looked k x v s) ≡ cleared k s
cleared_looked k x v s = ap (λ vs. record s { done = 0; value = None; variables = vs }) (unseen_again x v k.owners s.variables)

tail_of : {A : Type 0} → List A → List A
tail_of [] = []
tail_of (x ∷ xs) = xs

drop_next : {A : Type 0} (n : ℕ) (us : List A) (x : A) (xs : List A) → drop n us ≡ x ∷ xs → drop (suc n) us ≡ xs
drop_next zero [] x xs h = absurd (cc)
drop_next zero (u ∷ us) x xs h = ap (elim [ [] ↦ [] | y ∷ ys ↦ ys ]) h
drop_next (suc n) [] x xs h = absurd (cc)
drop_next (suc n) (u ∷ us) x xs h = drop_next n us x xs h

-- an instruction that evaluates
pub resume_evaluates : (a : Attempt) (k : Fixed) (n : ℕ) (is : List Step) (i : Step) (s : Stand) (e : Evaluation)
    → evaluation_in i s.value ≡ Some e → resume a k (suc n) (i ∷ is) s ≡ evaluating a k e s (after a k n is i (cleared k s))
resume_evaluates a k n is (Bind w x) s e h = ap (λ y. evaluating a k y s (after a k n is (Bind w x) (cleared k s))) (same_Some x e h)
resume_evaluates a k n is (Pick w x) s e h = ap (λ y. evaluating a k y s (after a k n is (Pick w x) (cleared k s))) (same_Some x e h)
resume_evaluates a k n is (Set t x) s e h = go s.value h
  where
    go : (o : Option Data) → on (Some x) o (λ v. None) ≡ Some e
        → on (evaluating a k x s (after a k n is (Set t x) (cleared k s))) o (λ v. putting k t v (onward s) (resume a k n is)) ≡ evaluating a k e s (after a k n is (Set t x) (cleared k s))
    go None q = ap (λ y. evaluating a k y s (after a k n is (Set t x) (cleared k s))) (same_Some x e q)
    go (Some v) q = absurd (cc)
resume_evaluates a k n is (Await x) s e h = ap (λ y. evaluating a k y s (after a k n is (Await x) (cleared k s))) (same_Some x e h)
resume_evaluates a k n is (Assert x) s e h = ap (λ y. evaluating a k y s (after a k n is (Assert x) (cleared k s))) (same_Some x e h)
resume_evaluates a k n is (Print x) s e h = ap (λ y. evaluating a k y s (after a k n is (Print x) (cleared k s))) (same_Some x e h)
resume_evaluates a k n is (Branch x j) s e h = ap (λ y. evaluating a k y s (after a k n is (Branch x j) (cleared k s))) (same_Some x e h)
resume_evaluates a k n is Unbind s e h = absurd (cc)
resume_evaluates a k n is (Assign t w) s e h = absurd (cc)
resume_evaluates a k n is (Choose js) s e h = absurd (cc)
resume_evaluates a k n is (Jump j) s e h = absurd (cc)
resume_evaluates a k n is (End l) s e h = absurd (cc)
resume_evaluates a k n is (Read w c j) s e h = absurd (cc)
resume_evaluates a k n is (Write c j w) s e h = absurd (cc)
resume_evaluates a k n is Fail s e h = absurd (cc)

-- a read is left
pub resume_waits : (a : Attempt) (k : Fixed) (n : ℕ) (is : List Step) (i : Step) (s : Stand) (x : Unmapped) (xs : List Unmapped)
    → left_of (evaluation_in i s.value) s ≡ x ∷ xs
    → resume a k (suc n) (i ∷ is) s ≡ with_value x.1 (λ r. Touch r (λ v. v) (λ v. resume a k (suc n) (i ∷ is) (looked k x.0 v s)))
resume_waits a k n is i s x xs h = go (evaluation_in i s.value) refl h
  where
    go : (o : Option Evaluation) → evaluation_in i s.value ≡ o → left_of o s ≡ x ∷ xs
        → resume a k (suc n) (i ∷ is) s ≡ with_value x.1 (λ r. Touch r (λ v. v) (λ v. resume a k (suc n) (i ∷ is) (looked k x.0 v s)))
    go None q l = absurd (cc)
    go (Some e) q l =
        let next = λ (v : Data) (t : Stand) (us : List Unmapped). reads_then k us (updated (is_global_named x.0) (Some v) k.owners s.variables) (λ vs. after a k n is i t (value_in a k e.expression s.env vs)) in
        resume_evaluates a k n is i s e q
        ∙ ap (λ us. reads_then k us s.variables (λ vs. after a k n is i (cleared k s) (value_in a k e.expression s.env vs))) l
        ∙ ap (λ (f : Data → LeafTree). with_value x.1 (λ r. Touch r (λ v. v) f))
        (same_function (λ v. next v (cleared k s) xs) (λ v. resume a k (suc n) (i ∷ is) (looked k x.0 v s))
        (λ v. ap (λ t. next v t xs) (sym (cleared_looked k x.0 v s)) ∙ ap (λ us. next v (cleared k (looked k x.0 v s)) us) (sym (drop_next s.done e.reads x xs l))
        ∙ sym (resume_evaluates a k n is i (looked k x.0 v s) e q)))
