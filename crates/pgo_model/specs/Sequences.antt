-- Sequences, and the operators of the modules, which are called by name.
use Rattle.std.specs.Prelude.{ℕ, suc, ℤ, true, pos, ◌-ℤ◌, if◌then◌else◌, int_lt, List, [], ◌∷◌, ◌++◌, length, take, drop, nat_abs, codes, Option, Some, None, option_map, option_and_then}
use Rattle.pgo_base.specs.Data.{Data, boolean, integer}
use Rattle.pgo_base.specs.Lookup.{Name}
use Rattle.pgo_model.specs.Operators.{both, same_data, graph_of, sequence, span, cardinality}

-- the values of a graph whose keys are n, n + 1 and so on
abbrev pub elements_from : ℕ → List (Data × Data) → Option (List Data)
elements_from n [] = Some []
elements_from n (p ∷ ps) =
    if same_data p.0 (integer (pos n)) then option_map (λ vs. p.1 ∷ vs) (elements_from (suc n) ps) else None

-- the elements of a sequence, which is a function on 1..n
abbrev pub elements : Data → Option (List Data)
elements s = option_and_then (elements_from 1) (graph_of s)

-- Len
abbrev pub len : Data → Option Data
len s = option_map (λ xs. integer (pos (length xs))) (elements s)

-- the first of these
abbrev pub first_element : List Data → Option Data
first_element [] = None
first_element (x ∷ xs) = Some x

-- Head
abbrev pub head : Data → Option Data
head s = option_and_then first_element (elements s)

-- the sequence of all but the first
abbrev pub later_elements : List Data → Option Data
later_elements [] = None
later_elements (x ∷ xs) = sequence xs

-- Tail
abbrev pub tail : Data → Option Data
tail s = option_and_then later_elements (elements s)

-- Append
abbrev pub append : Data → Data → Option Data
append s x = option_and_then (λ xs. sequence (xs ++ x ∷ [])) (elements s)

-- s \o t
abbrev pub concat : Data → Data → Option Data
concat s t = both (λ xs ys. sequence (xs ++ ys)) (elements s) (elements t)

-- the elements at m to n: none where m is above n, else each of m to n must be the number of one
abbrev pub slice : List Data → ℤ → ℤ → Option Data
slice xs m n =
    if int_lt n m then sequence []
    else if int_lt m (pos 1) then None
    else if int_lt (pos (length xs)) n then None
    else sequence (take (span m n) (drop (nat_abs (m -ℤ pos 1)) xs))

-- the same, where the bounds are integers
abbrev pub slice_of : List Data → Data → Data → Option Data
slice_of xs (integer m) (integer n) = slice xs m n
slice_of xs _ _ = None

-- SubSeq
abbrev pub sub_seq : Data → Data → Data → Option Data
sub_seq s m n = option_and_then (λ xs. slice_of xs m n) (elements s)

-- Assert(e, m) by the value of e
abbrev pub assert : Option Data → Option Data
assert (Some (boolean true)) = Some (boolean true)
assert _ = None

-- PrintT(e) by the value of e
abbrev pub print : Data → Option Data
print v = Some (boolean true)

-- an operator on one argument, which has no value on another number of them
abbrev pub on_one : (Data → Option Data) → List Data → Option Data
on_one f (x ∷ []) = f x
on_one f _ = None

-- an operator on two arguments
abbrev pub on_two : (Data → Data → Option Data) → List Data → Option Data
on_two f (x ∷ y ∷ []) = f x y
on_two f _ = None

-- an operator on three arguments
abbrev pub on_three : (Data → Data → Data → Option Data) → List Data → Option Data
on_three f (x ∷ y ∷ z ∷ []) = f x y z
on_three f _ = None

-- the operators whose arguments are all evaluated
abbrev pub operators : List (Name × (List Data → Option Data))
operators =
    (codes "Len", on_one len) ∷
    (codes "Head", on_one head) ∷
    (codes "Tail", on_one tail) ∷
    (codes "Append", on_two append) ∷
    (codes "SubSeq", on_three sub_seq) ∷
    (codes "Cardinality", on_one cardinality) ∷
    (codes "PrintT", on_one print) ∷ []

-- the operator whose second argument is not evaluated
abbrev pub assert_name : Name
assert_name = codes "Assert"
