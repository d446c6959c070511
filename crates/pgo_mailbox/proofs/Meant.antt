-- What the channel's blocks do on a sequence of messages.
use Rattle.std.proofs.Common.{◌≡◌, ℕ, suc, Bool, true, false, List, [], ◌∷◌, ◌++◌, length, Option, Some, None, option_map, ap, ◌∙◌, arith}
use Rattle.std.specs.Prelude.{if◌then◌else◌, nat_lt, int_lt, option_and_then, pos, ℤ, codes}
use Rattle.std.proofs.lemmas.Bool.Decides.{nat_tests}
use Rattle.pgo_base.specs.Data.{Data, boolean, integer}
use Rattle.pgo_base.specs.Lookup.{Name, Names, same_name, find}
use Rattle.pgo_base.specs.SameName.{same_name-self, same_name-not}
use Rattle.pgo_base.specs.Tree.{name}
use Rattle.pgo_model.specs.Operators.{truth_of, both, on_integers, sequence}
use Rattle.pgo_model.specs.Outcome.{Blocked}
use Rattle.pgo_model.specs.Sequences.{tail, first_element, later_elements}
use Rattle.pgo_model.specs.System.{Words}
use Rattle.pgo_model.specs.Val as vals
use Rattle.pgo_model.specs.Val.{Val, Scope, val, or_else, call_def, value_of_call, seen}
use Rattle.pgo_model.specs.Written.{content_name, value_name, self_name}
use Rattle.pgo_sections.specs.BoundValues.{bindable}
use Rattle.pgo_sections.specs.SectionRun.{ChoiceMade}
use Rattle.pgo_syntax.specs.Statement.{Statement, labeled, await_that, with_in, yield_as}
use Rattle.pgo_syntax.specs.declared.binding.Origin.TheVariants.{Equals}
use Rattle.pgo_syntax.specs.declared.name.PlacedName.{PlacedName}
use Rattle.pgo_macro_run.specs.Given.{Given, Now, Answer, Goes, Yields, Fails, Binds, decide, needs, named, then_do, then_in, value_of}
use Rattle.pgo_macro_run.specs.Runs.{run, rows}
use Rattle.pgo_mailbox.specs.Channel as channel
use Rattle.pgo_mailbox.specs.Channel.{IsRead, IsWrite, of_content, has_room, take_rest, both_rows, with_value}
use Rattle.pgo_mailbox.specs.Queues.{sequence_data, Fits}
use Rattle.pgo_mailbox.proofs.Bound.{bound_sequence, first_bound}
use Rattle.pgo_mailbox.proofs.Sequences.{elements_of, sequence_is, rest_fits}

-- ---- names in scope
flipped : (x y : Name) → same_name x y ≡ false → same_name y x ≡ false
flipped x y h = same_name-not y x (λ e. let t : same_name x y ≡ true = ap (same_name x) e ∙ same_name-self x in absurd (cc))

named_value : (x : Name) (s : Scope) (v : Data) → find x s.names ≡ Some (Some v) → val (name x) s ≡ Some v
named_value x s v h = ap (λ o. or_else o (λ z. z) (or_else (find x s.now) (λ w. Some w) (call_def x [] s.defs))) h

tail_value : (s : Scope) (v : Data) → find content_name s.names ≡ Some (Some v) → val (of_content (codes "Tail")) s ≡ tail v
tail_value s v h =
    ap (λ o. option_and_then (λ args. value_of_call (codes "Tail") args s) (both (λ w ws. Some (w ∷ ws)) (or_else o (λ z. z) (or_else (find content_name s.now) (λ w. Some w) (call_def content_name [] s.defs))) (Some []))) h

-- a capacity's value: the names of the block aren't its name
limit_value : (ds : List vals.Defined) (c : Name) (x old id : Data) → same_name content_name c ≡ false → same_name value_name c ≡ false
    → Val ds (name c) ((value_name, Some x) ∷ (content_name, Some old) ∷ (self_name, Some id) ∷ []) [] None ≡ Val ds (name c) ((self_name, Some id) ∷ []) [] None
limit_value ds c x old id h k =
    let rest = find c ((self_name, Some id) ∷ []) in
    let s = seen ds [] [] None in
    let f : Option (Option Data) → Option Data = λ o. or_else o (λ z. z) (or_else (find c s.now) (λ w. Some w) (call_def c [] s.defs)) in
    ap (λ b. f (if b then Some (Some x) else if same_name c content_name then Some (Some old) else rest)) (flipped value_name c k)
    ∙ ap (λ b. f (if b then Some (Some old) else rest)) (flipped content_name c h)

module _ (ds : List vals.Defined) (id : Data) (d : Words) (made : List ChoiceMade) where
  abbrev given : Data → Given
  given old = record { defs = ds; id = id; old = old; words = d }

  abbrev pub start : Now
  start = record { content = None; choices = made }

  -- ---- a read
  abbrev is_more : Option (List Data) → Option Bool
  is_more o = truth_of (both (on_integers (λ y z. Some (boolean (int_lt z y)))) (option_map (λ xs. integer (pos (length xs))) o) (Some (integer (pos 0))))

  tested : (xs : List Data) → truth_of (value_of (given (sequence_data xs)) channel.is_filled [] None) ≡ is_more (Some xs)
  tested xs = ap is_more (elements_of xs)

  has_first : (x : Data) (xs : List Data) → is_more (Some (x ∷ xs)) ≡ Some true
  has_first x xs = let t : nat_lt 0 (suc (length xs)) ≡ true = grind (arith, nat_tests) in ap (λ b. Some b) t

  abbrev take_all : (m : PlacedName) → (w p q r x : ℕ) → Statement
  take_all m w p q r x = with_in w (record { name = m; origin = Equals (of_content (codes "Head")) } ∷ []) (take_rest m p q r x)

  module _ (m : PlacedName) (w p q r x a : ℕ) (apart : same_name content_name m.name ≡ false) where
    abbrev reads : Given → Answer
    reads g = rows g (labeled (both_rows (await_that a channel.is_filled) (take_all m w p q r x))) [] start

    abbrev behind_test : Given → Option Bool → Answer
    behind_test g o = then_do (decide o made (Goes start) (Fails Blocked made)) (λ n. rows g (labeled ((None, take_all m w p q r x) ∷ [])) [] n)

    read_blocks : reads (given (sequence_data [])) ≡ Fails Blocked made
    read_blocks = ap (behind_test (given (sequence_data []))) (tested [])

    module _ (v : Data) (vs : List Data) (f : Fits (v ∷ vs)) where
      abbrev g : Given
      g = given (sequence_data (v ∷ vs))

      abbrev under : Names
      under = (m.name, Some v) ∷ []

      abbrev taken : Now
      taken = record { content = Some (sequence_data vs); choices = made }

      head_is : bindable (value_of g (of_content (codes "Head")) [] None) ≡ Some v
      head_is = ap (λ o. bindable (option_and_then first_element o)) (elements_of (v ∷ vs)) ∙ first_bound v vs f

      rest_is : bindable (value_of g (of_content (codes "Tail")) under None) ≡ Some (sequence_data vs)
      rest_is =
          let names = under ++ ((content_name, Some (sequence_data (v ∷ vs))) ∷ (self_name, Some id) ∷ []) in
          let found : find content_name names ≡ Some (Some (sequence_data (v ∷ vs))) =
          ap (λ b. if b then Some (Some v) else Some (Some (sequence_data (v ∷ vs)))) apart in
          ap bindable (tail_value (seen ds names [] None) (sequence_data (v ∷ vs)) found)
          ∙ ap (λ o. bindable (option_and_then later_elements o)) (elements_of (v ∷ vs))
          ∙ ap bindable (sequence_is vs (rest_fits v vs f)) ∙ bound_sequence vs (rest_fits v vs f)

      message_is : bindable (value_of g (name m.name) under (Some (sequence_data vs))) ≡ Some v
      message_is =
          let names = under ++ ((content_name, Some (sequence_data vs)) ∷ (self_name, Some id) ∷ []) in
          let found : find m.name names ≡ Some (Some v) =
          ap (λ b. if b then Some (Some v) else find m.name ((content_name, Some (sequence_data vs)) ∷ (self_name, Some id) ∷ [])) (same_name-self m.name) in
          ap bindable (named_value m.name (seen ds names [] None) v found) ∙ first_bound v vs f

      read_takes : reads g ≡ Yields v taken
      read_takes =
          ap (behind_test g) (tested (v ∷ vs) ∙ has_first v vs)
          ∙ ap (λ o. then_do (then_in (named m.name [] (needs o made (λ z. Yields z start)) (λ env n. Binds env n)) (λ env n. run g (take_rest m p q r x) env n)) (λ n. Goes n)) head_is
          ∙ ap (λ o. then_do (then_do (needs (option_map (λ z. Some z) o) made (λ c. Goes (record start { content = c }))) (λ n. rows g (labeled ((None, yield_as r (name m.name)) ∷ [])) under n)) (λ n. Goes n)) rest_is
          ∙ ap (λ o. then_do (then_do (needs o made (λ z. Yields z taken)) (λ n. Goes n)) (λ n. Goes n)) message_is

  pub empty_blocks : (b : channel.Block) → IsRead b → rows (given (sequence_data [])) (labeled b) [] start ≡ Fails Blocked made
  empty_blocks b r =
      ap (λ z. rows (given (sequence_data [])) (labeled z) [] start) r.is
      ∙ read_blocks r.message r.with_place r.block_place r.assign_place r.yield_place r.name_place r.await_place r.apart

  pub first_yields : (b : channel.Block) → IsRead b → (v : Data) (vs : List Data) → Fits (v ∷ vs)
      → rows (given (sequence_data (v ∷ vs))) (labeled b) [] start ≡ Yields v (record { content = Some (sequence_data vs); choices = made })
  first_yields b r v vs f =
      ap (λ z. rows (given (sequence_data (v ∷ vs))) (labeled z) [] start) r.is
      ∙ read_takes r.message r.with_place r.block_place r.assign_place r.yield_place r.name_place r.await_place r.apart v vs f

  -- ---- a write
  abbrev pub written : Data → Names
  written x = (value_name, Some x) ∷ []

  abbrev is_less : Option (List Data) → Option Data → Option Bool
  is_less o c = truth_of (both (on_integers (λ y z. Some (boolean (int_lt y z)))) (option_map (λ xs. integer (pos (length xs))) o) c)

  module _ (c : Name) (b : channel.Block) (w : IsWrite c b) (xs : List Data) (x : Data) (z : ℤ) (limit : Val ds (name c) ((self_name, Some id) ∷ []) [] None ≡ Some (integer z)) where
    abbrev whole : Given
    whole = given (sequence_data xs)

    abbrev writes : Answer
    writes = rows whole (labeled b) (written x) start

    abbrev behind_room : Option Bool → Answer
    behind_room o = then_do (decide o made (Goes start) (Fails Blocked made)) (λ n. rows whole (labeled ((None, yield_as w.yield_place with_value) ∷ [])) (written x) n)

    room_is : truth_of (value_of whole (has_room c) (written x) None) ≡ Some (int_lt (pos (length xs)) z)
    room_is =
        ap (λ o. is_less o (Val ds (name c) ((value_name, Some x) ∷ (content_name, Some (sequence_data xs)) ∷ (self_name, Some id) ∷ []) [] None)) (elements_of xs)
        ∙ ap (is_less (Some xs)) (limit_value ds c x (sequence_data xs) id w.not_content w.not_value ∙ limit)

    opened : writes ≡ behind_room (Some (int_lt (pos (length xs)) z))
    opened = ap (λ k. rows whole (labeled k) (written x) start) w.is ∙ ap behind_room room_is

    pub full_blocks : int_lt (pos (length xs)) z ≡ false → writes ≡ Fails Blocked made
    full_blocks h = opened ∙ ap (λ t. behind_room (Some t)) h

    pub appends : int_lt (pos (length xs)) z ≡ true → Fits (xs ++ x ∷ []) → writes ≡ Yields (sequence_data (xs ++ x ∷ [])) start
    appends h f =
        opened ∙ ap (λ t. behind_room (Some t)) h
        ∙ ap (λ o. then_do (needs o made (λ v. Yields v start)) (λ n. Goes n))
        (ap (λ o. bindable (option_and_then (λ ys. sequence (ys ++ x ∷ [])) o)) (elements_of xs) ∙ ap bindable (sequence_is (xs ++ x ∷ []) f) ∙ bound_sequence (xs ++ x ∷ []) f)
