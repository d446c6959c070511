-- As many instructions as there are is enough: one more that may be run changes nothing.
use Rattle.std.proofs.Common.{◌≡◌, ◌≤◌, ℕ, zero, suc, List, [], ◌∷◌, refl, drop, length, arith}
use Rattle.std.proofs.lemmas.List.{length-drop}
use Rattle.std.specs.Prelude.{get_or, option_and_then}
use Rattle.pgo_model.specs.Operators.{members_of, truth_of}
use Rattle.pgo_model.specs.Options.{on}
use Rattle.pgo_sections.specs.BoundValues.{bindable, value_under}
use Rattle.pgo_sections.specs.Context.{index_value}
use Rattle.pgo_accesses.specs.Accesses.{Attempt, printing, choosing, fails, waits, with_value, if_true, with_member}
use Rattle.pgo_code.specs.Steps.{Step, Bind, Pick, Unbind, Assign, Set, Await, Assert, Print, Branch, Choose, Jump, End, Read, Write, Fail, reading, writing, unbound}
use Rattle.pgo_places.specs.Stands.{picked_at, Fixed, Stand, onward, cleared, binding, going, evaluating, putting, with_words, resume}

fewer : (n j : ℕ) (is : List Step) → length is ≤ n → length (drop j is) ≤ n
fewer n j is h = let e = length-drop j is in omega (arith, e, h)

pub enough : (a : Attempt) (k : Fixed) (n : ℕ) (is : List Step) (s : Stand) → length is ≤ n → resume a k n is s ≡ resume a k (suc n) is s
enough a k zero [] s h = refl
enough a k zero (i ∷ is) s h = absurd (omega (arith, h))
enough a k (suc n) [] s h = refl
enough a k (suc n) (Bind w e ∷ is) s h = λ j. evaluating a k e s (λ o. with_value (bindable o) (λ v. enough a k n is (binding w v (cleared k s)) (omega (arith, h)) j))
enough a k (suc n) (Pick w e ∷ is) s h = λ j.
    evaluating a k e s (λ o. with_value (option_and_then members_of o) (λ ms. with_member (with_words s.words a) ms s.progress (λ v q. enough a k n is (binding w v (going q (cleared k s))) (omega (arith, h)) j)))
enough a k (suc n) (Unbind ∷ is) s h = enough a k n is (record (onward s) { env = unbound s.env }) (omega (arith, h))
enough a k (suc n) (Assign t w ∷ is) s h = λ j. with_value (value_under w s.env) (λ v. putting k t v (onward s) (λ u. enough a k n is u (omega (arith, h)) j))
enough a k (suc n) (Set t e ∷ is) s h = λ j.
    on (evaluating a k e s (λ o. with_value (bindable o) (λ v. putting k t v (cleared k s) (λ u. enough a k n is u (omega (arith, h)) j)))) s.value (λ v. putting k t v (onward s) (λ u. enough a k n is u (omega (arith, h)) j))
enough a k (suc n) (Await e ∷ is) s h = λ j. evaluating a k e s (λ o. if_true (truth_of o) (enough a k n is (cleared k s) (omega (arith, h)) j) (waits s.progress))
enough a k (suc n) (Assert e ∷ is) s h = λ j. evaluating a k e s (λ o. if_true (truth_of o) (enough a k n is (cleared k s) (omega (arith, h)) j) fails)
enough a k (suc n) (Print e ∷ is) s h = λ j. evaluating a k e s (λ o. with_value o (λ v. enough a k n is (going (printing v s.progress) (cleared k s)) (omega (arith, h)) j))
enough a k (suc n) (Branch e over ∷ is) s h = λ j.
    evaluating a k e s (λ o. if_true (truth_of o) (enough a k n is (cleared k s) (omega (arith, h)) j) (enough a k n (drop over is) (cleared k s) (fewer n over is (omega (arith, h))) j))
enough a k (suc n) (Choose js ∷ is) s h =
    let m = length js in let i = picked_at s m in let over = get_or js i 0 in enough a k n (drop over is) (going (choosing m i s.progress) (onward s)) (fewer n over is (omega (arith, h)))
enough a k (suc n) (Jump over ∷ is) s h = enough a k n (drop over is) (onward s) (fewer n over is (omega (arith, h)))
enough a k (suc n) (End l ∷ is) s h = refl
enough a k (suc n) (Read w c i ∷ is) s h = λ j.
    with_value (index_value i s.env) (λ x. reading (with_words s.words a) c x s.progress (λ v q. enough a k n is (binding w v (going q (onward s))) (omega (arith, h)) j))
enough a k (suc n) (Write c i w ∷ is) s h = λ j.
    with_value (index_value i s.env) (λ x. writing (with_words s.words a) c x (value_under w s.env) s.progress (λ q. enough a k n is (going q (onward s)) (omega (arith, h)) j))
enough a k (suc n) (Fail ∷ is) s h = refl
