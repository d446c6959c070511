-- What attempts at sections of small specifications do, worked out by hand: which leaves they try, in which order.
use Rattle.std.specs.Prelude.{◌≡◌, ℕ, List, [], ◌∷◌, codes, refl}
use Rattle.pgo_base.specs.Data.{function, pairs}
use Rattle.pgo_base.specs.Tree.{name, binary, tuple, set_of, index, trees}
use Rattle.pgo_base.specs.Lookup.{Vars}
use Rattle.pgo_base.specs.declared.expr.Infix.TheVariants as infixs
use Rattle.pgo_model.specs.Choice.{word_at}
use Rattle.pgo_model.specs.Outcome.{Blocked, NoValue, Outcome, Next, Stuck, Section}
use Rattle.pgo_model.specs.System.{Touched}
use Rattle.pgo_syntax.specs.Statement.{Statement, either_of, await_that, with_in, statements}
use Rattle.pgo_syntax.specs.declared.archetype.Extent.TheVariants.{Element}
use Rattle.pgo_syntax.specs.declared.binding.Origin.TheVariants.{In}
use Rattle.pgo_syntax.specs.declared.spec.Spec.{Spec}
use Rattle.pgo_bound.specs.BoundOf.{bound_of}
use Rattle.pgo_meaning.specs.Attempt.{SectTry}
use Rattle.pgo_meaning.specs.Enabled.{Leaves}
use Rattle.pgo_meaning.specs.Sect.{nothing}
use Rattle.pgo_meaning.proofs.RowTools.{n, int, stuck, with_name}
use Rattle.pgo_meaning.proofs.StepRows.{v, y, spec_with, section_of, plain, to, at_v, in_block, no_value, seq2, state, to_done, whole, element, channel, via_channel, with_y}

-- what an attempt does from the start, with these words of choice
abbrev tries : Spec → List ℕ → Section Touched Vars
tries s ws = let b = bound_of s [] in SectTry b 0 b.start (word_at ws)

abbrev outcomes : Spec → List (Outcome Vars)
outcomes s = let b = bound_of s [] in Leaves b 0 b.start

abbrev never : Statement
never = await_that 0 (binary infixs.Equal (n 1) (n 2))

-- ---- `with (w \in {1, 2, 3}) { await w = 3; v := w }`

abbrev third : Spec
third = plain (n 0) (
    with_in 0 (with_name (codes "w") (In (set_of (trees (n 1 ∷ n 2 ∷ n 3 ∷ [])))) ∷ []) (in_block (await_that 0 (binary infixs.Equal (name (codes "w")) (n 3)) ∷ to v [] (name (codes "w")) ∷ [])) ∷ [])

from_the_first : tries third [] ≡ to_done (whole ∷ []) (int 3)
from_the_first = refl

from_the_second : tries third (1 ∷ []) ≡ to_done (whole ∷ []) (int 3)
from_the_second = refl

from_the_third : tries third (5 ∷ []) ≡ to_done (whole ∷ []) (int 3)
from_the_third = refl

its_leaves : outcomes third ≡ Stuck Blocked ∷ Stuck Blocked ∷ Next (state (int 3) (codes "Done")) [] ∷ []
its_leaves = refl

at_no_label : SectTry (bound_of third []) 0 (state (int 0) (codes "Done")) (word_at []) ≡ nothing
at_no_label = refl

-- ---- `either { await FALSE } or { v := 1 \div 0 }`

abbrev no_value_behind : Spec
no_value_behind = plain (n 0) (either_of 0 (statements (never ∷ to v [] no_value ∷ [])) ∷ [])

found_second : tries no_value_behind [] ≡ stuck [] NoValue
found_second = refl

found_first : tries no_value_behind (1 ∷ []) ≡ stuck [] NoValue
found_first = refl

-- ---- `either { v := 1; await FALSE } or { v := v + 1 }`: the second leaf starts as the first did

abbrev put_back : Spec
put_back = plain (n 5) (either_of 0 (statements (in_block (to v [] (n 1) ∷ never ∷ []) ∷ to v [] (binary infixs.Add (name v) (n 1)) ∷ [])) ∷ [])

both_leaves : tries put_back [] ≡ to_done (whole ∷ whole ∷ whole ∷ []) (int 6)
both_leaves = refl

one_leaf : tries put_back (1 ∷ []) ≡ to_done (whole ∷ whole ∷ []) (int 6)
one_leaf = refl

-- ---- `with (a \in {0, 1}, c \in {0, 1, 2}) { await v[3 * a + c + 1] = 9 }`, of <<1, 2, 3, 4, 5, 6>>: each leaf reads an element

abbrev each_element : Spec
each_element =
    spec_with (tuple (trees (n 1 ∷ n 2 ∷ n 3 ∷ n 4 ∷ n 5 ∷ n 6 ∷ []))) Element [] [] [] (section_of (
    with_in 0 (with_name (codes "a") (In (set_of (trees (n 0 ∷ n 1 ∷ [])))) ∷ with_name (codes "c") (In (set_of (trees (n 0 ∷ n 1 ∷ n 2 ∷ [])))) ∷ []) (
    with_in 0 (with_name (codes "i") (In (set_of (trees (binary infixs.Add (binary infixs.Add (binary infixs.Multiply (n 3) (name (codes "a"))) (name (codes "c"))) (n 1) ∷ [])))) ∷ [])
    (await_that 0 (binary infixs.Equal (index (name v) (trees (name (codes "i") ∷ []))) (n 9)))) ∷ []))

in_order : tries each_element [] ≡ stuck (element 1 ∷ element 2 ∷ element 3 ∷ element 4 ∷ element 5 ∷ element 6 ∷ []) Blocked
in_order = refl

-- both choices go round, from the arms that their words pick
round_from_the_words : tries each_element (1 ∷ 2 ∷ []) ≡ stuck (element 6 ∷ element 4 ∷ element 5 ∷ element 3 ∷ element 1 ∷ element 2 ∷ []) Blocked
round_from_the_words = refl

-- ---- `either { y := v[1] } or { y := v[2] }`, where v is read through channels of which the first is empty

abbrev either_channel : Spec
either_channel =
    spec_with (tuple (trees (tuple (trees []) ∷ tuple (trees (n 7 ∷ [])) ∷ []))) Element (y ∷ []) (channel ∷ []) (via_channel ∷ [])
    (section_of (either_of 0 (statements (to y [] (at_v 1) ∷ to y [] (at_v 2) ∷ [])) ∷ []))

abbrev second_popped : Vars
second_popped = with_y (seq2 (function (pairs [])) (function (pairs []))) (int 7) (codes "Done")

reads_both : tries either_channel [] ≡ record { trace = element 1 ∷ element 2 ∷ []; end = Next second_popped [] }
reads_both = refl

reads_the_second : tries either_channel (1 ∷ []) ≡ record { trace = element 2 ∷ []; end = Next second_popped [] }
reads_the_second = refl
