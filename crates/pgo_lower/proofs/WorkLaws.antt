-- What tasks make.
use Rattle.std.proofs.Common.{◌≡◌, ◌∙◌, ◌+◌, ◌-◌, ℕ, suc, List, [], ◌∷◌, ◌++◌, length, map, refl, ap, sym, append_assoc, arith}
use Rattle.std.proofs.lemmas.List.{append-nil, length-append, map-append}
use Rattle.pgo_sections.specs.Code as codes
use Rattle.pgo_sections.specs.Code.{Code, in_turn}
use Rattle.pgo_base.specs.Tree.{Tree}
use Rattle.pgo_meaning.specs.Statements.{Setting}
use Rattle.pgo_effects.specs.Todos.{code_of, codes_of}
use Rattle.pgo_effects.specs.declared.todo.Todo.{Todo}
use Rattle.pgo_effects.specs.Pieces.{code_with, all_arms}
use Rattle.pgo_effects.specs.declared.piece.Effect.{Effect}
use Rattle.pgo_effects.specs.declared.piece.Effect.TheVariants as effects
use Rattle.pgo_code.specs.See.{evaluation_view}
use Rattle.pgo_code.specs.Steps as steps
use Rattle.pgo_code.specs.Steps.{Step, Unbind, Branch, Jump}
use Rattle.pgo_code.specs.declared.instruction.Evaluation.{Evaluation}
use Rattle.pgo_section_list.specs.Sections.{in_sequence}
use Rattle.pgo_lower.specs.declared.work.Task.{Task}
use Rattle.pgo_lower.specs.declared.work.Task.TheVariants.{Do, Else}
use Rattle.pgo_lower.specs.Lowered.{Tables, choice, evaluation, lowered, arms_lowered, arm_starts}
use Rattle.pgo_lower.specs.Heads.{unbound_by, head, heads}
use Rattle.pgo_lower.specs.Work.{arms_before, arm_lengths, chosen_before, tasks_before}

-- ---- an `if`

others_less : (c d is : List Step) (n : ℕ) → n ≡ length is → length (d ++ is) - n ≡ length d
others_less c d is n e = omega (arith, e, length-append d is)

first_over : (c js : List Step) (k : ℕ) → length (c ++ Jump k ∷ js) - length js ≡ suc (length c)
first_over c js k = omega (arith, length-append c (Jump k ∷ js))

pub if_law : (e : steps.Evaluation) (c d is : List Step) (n : ℕ) → n ≡ length is
    → (Branch e (suc (length c)) ∷ (c ++ Jump (length d) ∷ d)) ++ is
    ≡ Branch e (length (c ++ Jump (length (d ++ is) - n) ∷ (d ++ is)) - length (d ++ is)) ∷ (c ++ Jump (length (d ++ is) - n) ∷ (d ++ is))
if_law e c d is n h =
    let k = length (d ++ is) - n in
    (λ i. Branch e (sym (first_over c (d ++ is) k) i) ∷ append_assoc c (Jump (length d) ∷ d) is i)
    ∙ ap (λ m. Branch e (length (c ++ Jump k ∷ (d ++ is)) - length (d ++ is)) ∷ (c ++ Jump m ∷ (d ++ is))) (sym (others_less c d is n h))

-- ---- tasks one after the other

pub row_law : (t : Tables) (cs : List Code) (c : Code) (is : List Step) → lowered t (in_turn cs) ++ (lowered t c ++ is) ≡ lowered t (in_sequence cs c) ++ is
row_law t [] c is = refl
row_law t (d ∷ ds) c is =
    append_assoc (lowered t d) (lowered t (in_turn ds)) (lowered t c ++ is)
    ∙ ap (λ l. lowered t d ++ l) (row_law t ds c is)
    ∙ sym (append_assoc (lowered t d) (lowered t (in_sequence ds c)) is)

module _ (t : Tables) where
  -- ---- effects

  pub heads_last : (es : List Effect) (e : Effect) (is : List Step) → heads t (es ++ e ∷ []) is ≡ heads t es (head t e ∷ is)
  heads_last [] e is = refl
  heads_last (d ∷ es) e is = ap (λ l. head t d ∷ l) (heads_last es e is)

  pub piece_law : (es : List Effect) (c : Code) (is : List Step) → lowered t (code_with es c) ++ is ≡ heads t es (lowered t c ++ unbound_by es is)
  piece_law [] c is = refl
  piece_law (effects.Let b x v ∷ es) c is =
      ap (λ l. head t (effects.Let b x v) ∷ l) (append_assoc (lowered t (code_with es c)) (Unbind ∷ []) is ∙ piece_law es c (Unbind ∷ is))
  piece_law (effects.Pick b x v ∷ es) c is =
      ap (λ l. head t (effects.Pick b x v) ∷ l) (append_assoc (lowered t (code_with es c)) (Unbind ∷ []) is ∙ piece_law es c (Unbind ∷ is))
  piece_law (effects.Read x m j ∷ es) c is =
      ap (λ l. head t (effects.Read x m j) ∷ l) (append_assoc (lowered t (code_with es c)) (Unbind ∷ []) is ∙ piece_law es c (Unbind ∷ is))

  -- ---- arms

  arms_there : (cs : List Code) (n : ℕ) (is : List Step) → n ≡ length is → arms_before t cs n is ≡ arms_lowered t (all_arms cs) ++ is
  arms_there [] n is h = refl
  arms_there (c ∷ cs) n is h =
      let rest = arms_lowered t (all_arms cs) in
      (λ i. lowered t c ++ Jump (length (arms_there cs n is h i) - n) ∷ arms_there cs n is h i)
      ∙ ap (λ k. lowered t c ++ Jump k ∷ (rest ++ is)) (others_less [] rest is n h)
      ∙ sym (append_assoc (lowered t c) (Jump (length rest) ∷ rest) is)

  next_start : (k m l : ℕ) → k + (l + suc m) ≡ k + suc l + m
  next_start k m l = omega arith

  starts_there : (cs : List Code) (k all n : ℕ) (is : List Step) → all ≡ k + length (arms_before t cs n is)
      → map (λ m. all - m) (arm_lengths t cs n is) ≡ arm_starts t k (all_arms cs)
  starts_there [] k all n is h = refl
  starts_there (c ∷ cs) k all n is h =
      let rest = arms_before t cs n is in
      let here : all - length (arms_before t (c ∷ cs) n is) ≡ k = omega (arith, h) in
      let next : all ≡ k + suc (length (lowered t c)) + length rest =
      h ∙ ap (λ m. k + m) (length-append (lowered t c) (Jump (length rest - n) ∷ rest)) ∙ next_start k (length rest) (length (lowered t c)) in
      λ i. here i ∷ starts_there cs (k + suc (length (lowered t c))) all n is next i

  none_before : (n : ℕ) → n ≡ 0 + n
  none_before n = omega arith

  pub either_law : (cs : List Code) (n : ℕ) (is : List Step) → n ≡ length is → lowered t (codes.Either (all_arms cs)) ++ is ≡ chosen_before t cs [] n is
  either_law cs n is h =
      let all = arms_before t cs n is in
      sym ((λ i. choice (map (λ m. length all - m) (append-nil (arm_lengths t cs n is) i)) ∷ all)
      ∙ (λ i. choice (starts_there cs 0 (length all) n is (none_before (length all)) i) ∷ arms_there cs n is h i))

  last_before : (cs : List Code) (c : Code) (n : ℕ) (is : List Step) → arms_before t (cs ++ c ∷ []) n is ≡ arms_before t cs n (lowered t c ++ Jump (length is - n) ∷ is)
  last_before [] c n is = refl
  last_before (d ∷ cs) c n is = λ i. lowered t d ++ Jump (length (last_before cs c n is i) - n) ∷ last_before cs c n is i

  last_length : (cs : List Code) (c : Code) (n : ℕ) (is : List Step)
      → arm_lengths t (cs ++ c ∷ []) n is ≡ arm_lengths t cs n (lowered t c ++ Jump (length is - n) ∷ is) ++ length (lowered t c ++ Jump (length is - n) ∷ is) ∷ []
  last_length [] c n is = refl
  last_length (d ∷ cs) c n is = λ i. length (last_before (d ∷ cs) c n is i) ∷ last_length cs c n is i

  -- the last arm is made
  pub last_arm : (cs : List Code) (c : Code) (ns : List ℕ) (n : ℕ) (is : List Step)
      → chosen_before t (cs ++ c ∷ []) ns n is
      ≡ chosen_before t cs (length (lowered t c ++ Jump (length is - n) ∷ is) ∷ ns) n (lowered t c ++ Jump (length is - n) ∷ is)
  last_arm cs c ns n is =
      let js = lowered t c ++ Jump (length is - n) ∷ is in
      (λ i. choice (map (λ m. length (last_before cs c n is i) - m) (last_length cs c n is i ++ ns)) ∷ last_before cs c n is i)
      ∙ ap (λ l. choice (map (λ m. length (arms_before t cs n js) - m) l) ∷ arms_before t cs n js) (append_assoc (arm_lengths t cs n js) (length js ∷ []) ns)

module _ (s : Setting) (t : Tables) where
  -- an arm is to be made: here there are so many steps already
  pub arm_step : (old : List Task) (arms rest : List Todo) (d : Todo) (ns : List ℕ) (n here : ℕ) (is : List Step) → arms ≡ rest ++ d ∷ [] → here ≡ length is
      → (let js = lowered t (code_of s d) ++ Jump (here - n) ∷ is in tasks_before s t old (chosen_before t (codes_of s rest) (length js ∷ ns) n js))
      ≡ tasks_before s t old (chosen_before t (codes_of s arms) ns n is)
  arm_step old arms rest d ns n here is e h =
      (λ i. let js = lowered t (code_of s d) ++ Jump (h i - n) ∷ is in tasks_before s t old (chosen_before t (codes_of s rest) (length js ∷ ns) n js))
      ∙ ap (tasks_before s t old) (sym (last_arm t (codes_of s rest) (code_of s d) ns n is))
      ∙ ap (λ cs. tasks_before s t old (chosen_before t cs ns n is)) (sym (ap (codes_of s) e ∙ map-append (code_of s) rest (d ∷ [])))

  -- no arm is left
  pub arms_end : (old : List Task) (arms : List Todo) (ns ks : List ℕ) (n here : ℕ) (x : Step) (is : List Step) → arms ≡ [] → here ≡ length is
      → ks ≡ map (λ k. here - k) ns → x ≡ choice ks → tasks_before s t old (x ∷ is) ≡ tasks_before s t old (chosen_before t (codes_of s arms) ns n is)
  arms_end old arms ns ks n here x is e h k c =
      ap (λ y. tasks_before s t old (y ∷ is)) (c ∙ ap choice (k ∙ (λ i. map (λ m. h i - m) ns)))
      ∙ ap (λ ds. tasks_before s t old (chosen_before t (codes_of s ds) ns n is)) (sym e)

  -- one of a row is to be done
  pub row_step : (tasks : List Task) (ds rest : List Todo) (d : Todo) (is : List Step) → ds ≡ d ∷ rest
      → tasks_before s t (Do d ∷ tasks) (lowered t (in_turn (codes_of s rest)) ++ is) ≡ tasks_before s t tasks (lowered t (in_turn (codes_of s ds)) ++ is)
  row_step tasks ds rest d is e =
      ap (tasks_before s t tasks) (sym (append_assoc (lowered t (code_of s d)) (lowered t (in_turn (codes_of s rest))) is))
      ∙ ap (λ l. tasks_before s t tasks (lowered t (in_turn (codes_of s l)) ++ is)) (sym e)

  -- an `if` is begun, where there are so many steps already
  pub if_begun : (old : List Task) (v : Evaluation) (e : Tree) (c d : Todo) (n : ℕ) (is : List Step) → evaluation_view v ≡ evaluation t.targets e → n ≡ length is
      → tasks_before s t (Do d ∷ Else v c n ∷ old) is ≡ tasks_before s t old (lowered t (codes.If e (code_of s c) (code_of s d)) ++ is)
  if_begun old v e c d n is q h =
      sym (ap (tasks_before s t old) (if_law (evaluation t.targets e) (lowered t (code_of s c)) (lowered t (code_of s d)) is n h
      ∙ (λ i. let js = lowered t (code_of s c) ++ Jump (length (lowered t (code_of s d) ++ is) - n) ∷ (lowered t (code_of s d) ++ is) in Branch (sym q i) (length js - length (lowered t (code_of s d) ++ is)) ∷ js)))

  pub either_begun : (old : List Task) (ds : List Todo) (ns : List ℕ) (n : ℕ) (is : List Step) → ns ≡ [] → n ≡ length is
      → tasks_before s t old (chosen_before t (codes_of s ds) ns n is) ≡ tasks_before s t old (lowered t (codes.Either (all_arms (codes_of s ds))) ++ is)
  either_begun old ds ns n is e h =
      ap (tasks_before s t old) (ap (λ ks. chosen_before t (codes_of s ds) ks n is) e ∙ sym (either_law t (codes_of s ds) n is h))

  -- one level of code, whose effects are the newest task
  pub level_made : (old tasks : List Task) (es : List Effect) (c d : Code) (js is : List Step) → ((ks : List Step) → tasks_before s t tasks ks ≡ tasks_before s t old (heads t es ks))
      → js ≡ unbound_by es is → code_with es c ≡ d → tasks_before s t tasks (lowered t c ++ js) ≡ tasks_before s t old (lowered t d ++ is)
  level_made old tasks es c d js is h e k =
      h (lowered t c ++ js)
      ∙ ap (λ l. tasks_before s t old (heads t es (lowered t c ++ l))) e
      ∙ ap (tasks_before s t old) (sym (piece_law t es c is) ∙ ap (λ x. lowered t x ++ is) k)

  -- a section: its rows, and then its end, which is the newest task
  pub section_begun : (old tasks new : List Task) (cs : List Code) (end : Todo) → ((is : List Step) → tasks_before s t tasks is ≡ tasks_before s t old (lowered t (in_turn cs) ++ is))
      → new ≡ Do end ∷ tasks → tasks_before s t new [] ≡ tasks_before s t old (lowered t (in_sequence cs (code_of s end)))
  section_begun old tasks new cs end h e =
      ap (λ l. tasks_before s t l []) e
      ∙ h (lowered t (code_of s end) ++ [])
      ∙ ap (tasks_before s t old) (row_law t cs (code_of s end) [] ∙ append-nil (lowered t (in_sequence cs (code_of s end))))

-- a list without items
pub no_item : {A : Type 0} (xs : List A) (k : ℕ) → k ≡ length xs → k ≡ 0 → xs ≡ []
no_item [] k p q = refl
no_item (y ∷ ys) k p q = absurd (let e : suc (length ys) ≡ 0 = sym p ∙ q in omega (arith, e))
