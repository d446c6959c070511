-- What a section reads where a macro's expression binds a name that the caller has as a parameter:
--   macro pick(a) { a := e; }   archetype A(ref i, ref v) { l: pick(v); }
-- with i bound to y and v to x. The `i` that e binds is not the parameter: y is not read, and x alone is written.
use Rattle.std.specs.Prelude.{◌≡◌, true, List, pos, [], ◌∷◌, Option, Some, None, codes, refl}
use Rattle.pgo_base.specs.declared.expr.Infix.TheVariants as infixs
use Rattle.pgo_base.specs.declared.expr.Quantifier.TheVariants as quantifiers
use Rattle.pgo_base.specs.declared.value.Value.TheVariants.{Int}
use Rattle.pgo_base.specs.Data.{Data, boolean, integer, string, set, items, function, pairs}
use Rattle.pgo_base.specs.Lookup.{Name, Vars}
use Rattle.pgo_base.specs.Tree.{Tree, name, number, binary, let_in, quantified, choose, tuple, set_of, filter_of, image, fun_of, index, call, trees, named, bound}
use Rattle.pgo_model.specs.Outcome.{Next, Section}
use Rattle.pgo_model.specs.System.{Touched}
use Rattle.pgo_syntax.specs.Statement.{assign, await_that, with_in, call_macro, yield_as, block, labeled}
use Rattle.pgo_syntax.specs.declared.archetype.Archetype.{Archetype}
use Rattle.pgo_syntax.specs.declared.archetype.Extent.{Extent}
use Rattle.pgo_syntax.specs.declared.archetype.Extent.TheVariants as extents
use Rattle.pgo_syntax.specs.declared.binding.Origin.TheVariants.{Equals}
use Rattle.pgo_syntax.specs.declared.bound.Mapping.{Mapping}
use Rattle.pgo_syntax.specs.declared.bound.Mapping.TheVariants.{Identity, Macro}
use Rattle.pgo_syntax.specs.declared.bound.Target.TheVariants as targets
use Rattle.pgo_meaning.proofs.RowTools.{placed_name, assignment, with_name, archetype, macro, mapping, binding, row_of}

abbrev i : Tree
i = name (codes "i")

abbrev content : Tree
content = name (codes "$variable")

-- {1, 2}, and {<<1>>, <<2>>}
abbrev numbers : Tree
numbers = set_of (trees (number (pos 1) ∷ number (pos 2) ∷ []))

abbrev tuples : Tree
tuples = set_of (trees (tuple (trees (number (pos 1) ∷ [])) ∷ tuple (trees (number (pos 2) ∷ [])) ∷ []))

-- i > 1; i[1], and i[1] > 1
abbrev greater : Tree → Tree
greater e = binary infixs.Greater e (number (pos 1))

abbrev first : Tree
first = index i (trees (number (pos 1) ∷ []))

abbrev caller : Archetype
caller = archetype (codes "A") [] ((Some (placed_name (codes "l")), call_macro 0 (placed_name (codes "pick")) (name (codes "v") ∷ [])) ∷ [])

-- a channel, from which a read takes the first
abbrev channel : Mapping
channel = Macro (mapping (codes "Channel")
    ((None, await_that 0 (binary infixs.Greater (call (codes "Len") (trees (content ∷ []))) (number (pos 0))))
    ∷ (
      None,
      with_in 0 (with_name (codes "msg") (Equals (call (codes "Head") (trees (content ∷ [])))) ∷ []) (block 0 (labeled (
          (None, assign 0 (assignment (codes "$variable") [] (call (codes "Tail") (trees (content ∷ []))) ∷ []))
          ∷ (None, yield_as 0 (name (codes "msg"))) ∷ []))),
    )
    ∷ [])
    ((None, yield_as 0 (name (codes "$value"))) ∷ []))

abbrev state : Data → Data → Name → Vars
state y x l = (codes "y", y) ∷ (codes "x", x) ∷ (codes "pc", function (pairs ((integer (pos 1), string l) ∷ []))) ∷ []

abbrev picks : Extent → Option Mapping → Data → Tree → Section Touched Vars
picks extent m y e =
    row_of (macro (codes "pick") (codes "a" ∷ []) ((None, assign 0 (assignment (codes "a") [] e ∷ [])) ∷ []) ∷ [])
    (codes "P") caller
    (binding (codes "i") (targets.Global (codes "y") extent m) ∷ binding (codes "v") (targets.Global (codes "x") extents.Whole None) ∷ [])
    (codes "y" ∷ codes "x" ∷ []) [] (Int (pos 1)) (state y (integer (pos 7)) (codes "P_l")) []

abbrev x_becomes : Data → Data → Section Touched Vars
x_becomes y v = record { trace = (codes "x", None) ∷ []; end = Next (state y v (codes "Done")) [] }

-- i is y as a whole, without a mapping macro
abbrev unmapped : Tree → Section Touched Vars
unmapped e = picks extents.Whole None (integer (pos 0)) e

abbrev unmapped_is : Data → Section Touched Vars
unmapped_is v = x_becomes (integer (pos 0)) v

-- i is y as a whole, through the channel, which has two messages
abbrev messages : Data
messages = function (pairs ((integer (pos 1), integer (pos 5)) ∷ (integer (pos 2), integer (pos 6)) ∷ []))

abbrev by_channel : Tree → Section Touched Vars
by_channel e = picks extents.Whole (Some channel) messages e

abbrev by_channel_is : Data → Section Touched Vars
by_channel_is v = x_becomes messages v

-- i is an element of y, as it is, where y[1] = 5
abbrev elements : Data
elements = function (pairs ((integer (pos 1), integer (pos 5)) ∷ []))

abbrev by_element : Tree → Section Touched Vars
by_element e = picks extents.Element (Some Identity) elements e

abbrev by_element_is : Data → Section Touched Vars
by_element_is v = x_becomes elements v

abbrev some : List Data → Data
some vs = set (items vs)

abbrev tuple_1 : Data
tuple_1 = function (pairs ((integer (pos 1), integer (pos 1)) ∷ []))

abbrev tuple_2 : Data
tuple_2 = function (pairs ((integer (pos 1), integer (pos 2)) ∷ []))

abbrev chosen : Tree → Tree → Tree
chosen range p = choose (codes "i") range p

abbrev locally : Tree → Tree → Tree
locally e body = let_in (named ((codes "i", e) ∷ [])) body

abbrev exists : Tree → Tree → Tree
exists range p = quantified quantifiers.Exists (bound ((codes "i" ∷ [], range) ∷ [])) p

abbrev filtered : Tree → Tree → Tree
filtered range p = filter_of (codes "i") range p

abbrev mapped : Tree → Tree → Tree
mapped range e = image e (codes "i") range

abbrev table : Tree → Tree → Tree
table range e = fun_of (bound ((codes "i" ∷ [], range) ∷ [])) e

unmapped_choose : unmapped (chosen numbers (greater i)) ≡ unmapped_is (integer (pos 2))
unmapped_choose = refl

unmapped_let : unmapped (locally (number (pos 2)) i) ≡ unmapped_is (integer (pos 2))
unmapped_let = refl

unmapped_exists : unmapped (exists numbers (greater i)) ≡ unmapped_is (boolean true)
unmapped_exists = refl

unmapped_filter : unmapped (filtered numbers (greater i)) ≡ unmapped_is (some (integer (pos 2) ∷ []))
unmapped_filter = refl

unmapped_image : unmapped (mapped numbers i) ≡ unmapped_is (some (integer (pos 1) ∷ integer (pos 2) ∷ []))
unmapped_image = refl

unmapped_function : unmapped (table numbers i) ≡ unmapped_is (function (pairs ((integer (pos 1), integer (pos 1)) ∷ (integer (pos 2), integer (pos 2)) ∷ [])))
unmapped_function = refl

channel_choose : by_channel (chosen numbers (greater i)) ≡ by_channel_is (integer (pos 2))
channel_choose = refl

channel_let : by_channel (locally (number (pos 2)) i) ≡ by_channel_is (integer (pos 2))
channel_let = refl

channel_exists : by_channel (exists numbers (greater i)) ≡ by_channel_is (boolean true)
channel_exists = refl

channel_filter : by_channel (filtered numbers (greater i)) ≡ by_channel_is (some (integer (pos 2) ∷ []))
channel_filter = refl

channel_image : by_channel (mapped numbers i) ≡ by_channel_is (some (integer (pos 1) ∷ integer (pos 2) ∷ []))
channel_image = refl

channel_function : by_channel (table numbers i) ≡ by_channel_is (function (pairs ((integer (pos 1), integer (pos 1)) ∷ (integer (pos 2), integer (pos 2)) ∷ [])))
channel_function = refl

element_choose : by_element (chosen tuples (greater first)) ≡ by_element_is tuple_2
element_choose = refl

element_let : by_element (locally (tuple (trees (number (pos 2) ∷ []))) first) ≡ by_element_is (integer (pos 2))
element_let = refl

element_exists : by_element (exists tuples (greater first)) ≡ by_element_is (boolean true)
element_exists = refl

element_filter : by_element (filtered tuples (greater first)) ≡ by_element_is (some (tuple_2 ∷ []))
element_filter = refl

element_image : by_element (mapped tuples first) ≡ by_element_is (some (integer (pos 1) ∷ integer (pos 2) ∷ []))
element_image = refl

element_function : by_element (table tuples first) ≡ by_element_is (function (pairs ((tuple_1, integer (pos 1)) ∷ (tuple_2, integer (pos 2)) ∷ [])))
element_function = refl
