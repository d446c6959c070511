-- The operators on values, each with a value or none.
use Rattle.std.specs.Prelude.{ℕ, zero, suc, ◌^◌, ℤ, pos, negsuc, ◌+ℤ◌, ◌-ℤ◌, Bool, true, false, not, ◌&&◌, if◌then◌else◌, nat_lt, int_lt, List, [], ◌∷◌, ◌++◌, length, map, filter, Option, Some, None, option_map, option_and_then}
use Rattle.std.specs.Ordering.{is_eq}
use Rattle.pgo_base.specs.Data.{Data, boolean, integer, set, function, items, members, pairs, graph}
pub use Rattle.pgo_base.specs.Lists.{joined}
use Rattle.pgo_base.specs.Order.{data_cmp}
use Rattle.pgo_base.specs.Sets.{in_order}
use Rattle.pgo_base.specs.Pairs.{pairs_in_order}
use Rattle.pgo_base.specs.Size.{depth}
use Rattle.std.specs.Int.{int_div_euclid, int_rem_euclid}

-- three truth values: true, false and none
abbrev pub or3 : Option Bool → Option Bool → Option Bool
or3 (Some true) q = Some true
or3 (Some false) q = q
or3 None (Some true) = Some true
or3 None (Some false) = None
or3 None None = None

-- the other truth value
abbrev pub not3 : Option Bool → Option Bool
not3 = option_map not

-- true where both are, false where one is false
abbrev pub and3 : Option Bool → Option Bool → Option Bool
and3 p q = not3 (or3 (not3 p) (not3 q))

-- the same truth value, where both have one
abbrev pub iff3 : Option Bool → Option Bool → Option Bool
iff3 (Some true) q = q
iff3 (Some false) q = not3 q
iff3 None q = None

-- whether a value is true, where it is a Boolean
abbrev pub truth_of : Option Data → Option Bool
truth_of (Some (boolean b)) = Some b
truth_of _ = None

-- a truth value as a value
abbrev pub from_truth : Option Bool → Option Data
from_truth = option_map boolean

-- some member
abbrev pub any3 : (Data → Option Bool) → List Data → Option Bool
any3 p [] = Some false
any3 p (m ∷ ms) = or3 (p m) (any3 p ms)

-- every member
abbrev pub all3 : (Data → Option Bool) → List Data → Option Bool
all3 p [] = Some true
all3 p (m ∷ ms) = and3 (p m) (all3 p ms)

-- m where the test of m is true, what the rest gives where it is false
abbrev pub least3 : Option Bool → Data → Option Data → Option Data
least3 (Some true) m rest = Some m
least3 (Some false) m rest = rest
least3 None m rest = None

-- the least member for which p is true, where p is a Boolean up to it
abbrev pub first3 : (Data → Option Bool) → List Data → Option Data
first3 p [] = None
first3 p (m ∷ ms) = least3 (p m) m (first3 p ms)

-- m and the others where the test of m is true, the others where it is false
abbrev pub keep3 : Option Bool → Data → List Data → Option (List Data)
keep3 (Some true) m ms = Some (m ∷ ms)
keep3 (Some false) m ms = Some ms
keep3 None m ms = None

-- the members for which p is true, where p is a Boolean on all
abbrev pub filter3 : (Data → Option Bool) → List Data → Option (List Data)
filter3 p [] = Some []
filter3 p (m ∷ ms) = option_and_then (keep3 (p m) m) (filter3 p ms)

-- what both give
abbrev pub both : {A B C : Type 0} → (A → B → Option C) → Option A → Option B → Option C
both f p q = option_and_then (λ a. option_and_then (λ b. f a b) q) p

-- what each gives, in order
abbrev pub each : {A B : Type 0} → (A → Option B) → List A → Option (List B)
each f [] = Some []
each f (a ∷ as') = both (λ b bs. Some (b ∷ bs)) (f a) (each f as')

-- an integer of 64 bits
abbrev pub fits_i64 : ℤ → Bool
fits_i64 (pos n) = nat_lt n (2 ^ 63)
fits_i64 (negsuc n) = nat_lt n (2 ^ 63)

-- an integer, where it has 64 bits
abbrev pub in_64 : ℤ → Option Data
in_64 z = if fits_i64 z then Some (integer z) else None

-- f of two integers
abbrev pub on_integers : (ℤ → ℤ → Option Data) → Data → Data → Option Data
on_integers f (integer y) (integer z) = f y z
on_integers f _ _ = None

-- f of an integer and a divisor that is at least 1
abbrev pub on_divisor : (ℤ → ℤ → ℤ) → ℤ → ℤ → Option Data
on_divisor f y z = if int_lt z (pos 1) then None else Some (integer (f y z))

-- \div: the quotient rounded down
abbrev pub divide : Data → Data → Option Data
divide = on_integers (on_divisor int_div_euclid)

-- %: the remainder, which is not negative
abbrev pub modulo : Data → Data → Option Data
modulo = on_integers (on_divisor int_rem_euclid)

-- whether two values are one value
abbrev pub same_data : Data → Data → Bool
same_data x y = is_eq (data_cmp x y)

-- the most members that a set, a function or a sequence may have
abbrev pub most_members : ℕ
most_members = 65536

-- a, where n members are not too many
abbrev pub if_few : {A : Type 0} → ℕ → A → Option A
if_few n a = if nat_lt most_members n then None else Some a

-- what make gives, where n members are not too many
abbrev pub where_few : {A : Type 0} → ℕ → (Unit {0} → Option A) → Option A
where_few n make = elim (nat_lt most_members n) [ true ↦ None | false ↦ make tt ]

-- the greatest depth of a value
abbrev pub most_depth : ℕ
most_depth = 2048

-- a set or function of n members, where that is a value: every one that is built comes from here
abbrev pub built : ℕ → Data → Option Data
built n v = if nat_lt most_depth (depth v) then None else if_few n v

-- the set of these members
abbrev pub set_from : List Data → Option Data
set_from xs = let ms = in_order xs in built (length ms) (set (items ms))

-- the function with this graph, which is in order
abbrev pub function_of : List (Data × Data) → Option Data
function_of ps = built (length ps) (function (pairs ps))

-- the function of these pairs; of several with one key the left one counts
abbrev pub function_from : List (Data × Data) → Option Data
function_from ps = function_of (pairs_in_order ps)

-- whether x is one of these
abbrev pub contains : Data → List Data → Bool
contains x [] = false
contains x (y ∷ ys) = if same_data x y then true else contains x ys

-- the value at a key
abbrev pub lookup : Data → List (Data × Data) → Option Data
lookup k [] = None
lookup k (p ∷ ps) = if same_data k p.0 then Some p.1 else lookup k ps

-- the members of a set
abbrev pub members_of : Data → Option (List Data)
members_of (set xs) = Some (members xs)
members_of _ = None

-- the pairs of a function
abbrev pub graph_of : Data → Option (List (Data × Data))
graph_of (function ps) = Some (graph ps)
graph_of _ = None

-- whether x is in s, where s is a set
abbrev pub is_member : Data → Option Data → Option Bool
is_member x s = option_and_then (λ v. option_map (contains x) (members_of v)) s

-- f[i]
abbrev pub apply : Data → Data → Option Data
apply f i = option_and_then (lookup i) (graph_of f)

-- the key of a pair
abbrev pub first_of : Data × Data → Data
first_of p = p.0

-- DOMAIN
abbrev pub domain : Data → Option Data
domain f = option_and_then (λ ps. set_from (map first_of ps)) (graph_of f)

-- a sequence of these values, the first at the number n
abbrev pub sequence_at : ℕ → List Data → List (Data × Data)
sequence_at n [] = []
sequence_at n (x ∷ xs) = (integer (pos n), x) ∷ sequence_at (suc n) xs

-- <<..>>
abbrev pub sequence : List Data → Option Data
sequence xs = function_from (sequence_at 1 xs)

-- m before each of these
abbrev pub put : Data → List (List Data) → List (List Data)
put m [] = []
put m (c ∷ cs) = (m ∷ c) ∷ put m cs

-- each of these members before each of those lists
abbrev pub spread : List Data → List (List Data) → List (List Data)
spread [] cs = []
spread (m ∷ ms) cs = put m cs ++ spread ms cs

-- all lists of one member from each
abbrev pub choices : List (List Data) → List (List Data)
choices [] = [] ∷ []
choices (ms ∷ rest) = spread ms (choices rest)

-- n integers from a on
abbrev pub upward : ℤ → ℕ → List Data
upward a zero = []
upward a (suc n) = integer a ∷ upward (a +ℤ pos 1) n

-- how many integers there are from 0 to z
abbrev pub count_to : ℤ → ℕ
count_to (pos n) = suc n
count_to (negsuc n) = 0

-- how many integers there are from a to b
abbrev pub span : ℤ → ℤ → ℕ
span a b = count_to (b -ℤ a)

-- a .. b
abbrev pub range : ℤ → ℤ → Option Data
range a b = where_few (span a b) (λ _. set_from (upward a (span a b)))

-- whether a value is one of the integers from a to b
abbrev pub within_range : ℤ → ℤ → Data → Bool
within_range a b (integer z) = not (int_lt z a) && not (int_lt b z)
within_range a b _ = false

-- the graph with the value at one key replaced
abbrev pub replace_at : Data → Data → List (Data × Data) → List (Data × Data)
replace_at k v [] = []
replace_at k v (p ∷ ps) = if same_data k p.0 then (k, v) ∷ ps else p ∷ replace_at k v ps

-- the function with the part at a path replaced by what new makes of it; a part that is not there stays as it
-- is, but new must make a value of it too
abbrev pub put_at : List Data → (Option Data → Option Data) → Option Data → Option Data
put_at [] new part = new part
put_at (i ∷ is) new None = new None
put_at (i ∷ is) new (Some f) =
    option_and_then (λ ps. elim (lookup i ps) as (λ o. Option Data) [ None ↦ option_map (λ v. f) (put_at is new None) | Some part ↦ option_and_then (λ v. function_of (replace_at i v ps)) (put_at is new (Some part)) ]) (graph_of f)

-- [f EXCEPT ![i] = v]
abbrev pub except : Data → Data → Data → Option Data
except f i v = put_at (i ∷ []) (λ part. Some v) (Some f)

-- \cup
abbrev pub union : Data → Data → Option Data
union x y = both (λ ms ns. set_from (ms ++ ns)) (members_of x) (members_of y)

-- \cap
abbrev pub intersect : Data → Data → Option Data
intersect x y = both (λ ms ns. set_from (filter (λ m. contains m ns) ms)) (members_of x) (members_of y)

-- x \ y
abbrev pub minus : Data → Data → Option Data
minus x y = both (λ ms ns. set_from (filter (λ m. not (contains m ns)) ms)) (members_of x) (members_of y)

-- whether every one of these is among those
abbrev pub included : List Data → List Data → Bool
included [] ns = true
included (m ∷ ms) ns = contains m ns && included ms ns

-- \subseteq
abbrev pub subset : Data → Data → Option Data
subset x y = both (λ ms ns. Some (boolean (included ms ns))) (members_of x) (members_of y)

-- UNION
abbrev pub flatten : Data → Option Data
flatten x = option_and_then (λ ms. option_and_then (λ mss. set_from (joined mss)) (each members_of ms)) (members_of x)

-- the lists of some of these members
abbrev pub sublists : List Data → List (List Data)
sublists [] = [] ∷ []
sublists (m ∷ ms) = let rest = sublists ms in map (λ xs. m ∷ xs) rest ++ rest

-- SUBSET
abbrev pub power : Data → Option Data
power x = option_and_then (λ ms. where_few (2 ^ length ms) (λ _. option_and_then set_from (each set_from (sublists ms)))) (members_of x)

-- Cardinality
abbrev pub cardinality : Data → Option Data
cardinality x = option_map (λ ms. integer (pos (length ms))) (members_of x)

-- k :> v
abbrev pub single : Data → Data → Option Data
single k v = function_from ((k, v) ∷ [])

-- f @@ g
abbrev pub merge : Data → Data → Option Data
merge f g = both (λ ps qs. function_from (ps ++ qs)) (graph_of f) (graph_of g)

-- the set of these members, which are in order
abbrev pub set_of : List Data → Data
set_of ms = set (items ms)
