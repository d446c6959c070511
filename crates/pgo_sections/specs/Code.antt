-- A section as a tree of effects: label-free, macros in place, each mapped occurrence read before the expression in which it
-- stands.
use Rattle.std.specs.Prelude.{List, [], ◌∷◌, Option, codes}
use Rattle.pgo_base.specs.Tree.{Tree}
use Rattle.pgo_base.specs.Lookup.{Name}
pub use Rattle.pgo_model.specs.Written.{content_name, value_name}

-- a variable as a whole, or its part at `self`, which is what a local or a value parameter is
pub data Place : Type 0 where
  Whole : (x : Name) → Place
  Own : (x : Name) → Place

abbrev pub variable_of : Place → Name
variable_of (Whole x) = x
variable_of (Own x) = x

-- The expressions name parameters, locals, `with` names and the names that this code binds (w). b is the base of the name
-- that the expansion binds.
mutual
  pub data Code : Type 0 where
    -- no statement
    Empty : Code
    -- `skip`, or that a macro's call is walked on the way
    Skip : Code
    -- w stands in c for the value of e
    Let : (b w : Name) → (e : Tree) → (c : Code) → Code
    -- w stands in c for some member of e
    Pick : (b w : Name) → (e : Tree) → (c : Code) → Code
    -- p becomes what w stands for
    Become : (p : Place) → (w : Name) → Code
    -- p becomes the value of e
    Set : (b : Name) → (p : Place) → (e : Tree) → Code
    Await : (e : Tree) → Code
    Assert : (e : Tree) → Code
    Print : (e : Tree) → Code
    If : (e : Tree) → (c d : Code) → Code
    Either : (arms : Codes) → Code
    Seq : (c d : Code) → Code
    -- the section ends at this written label
    Goto : (l : Name) → Code
    -- the block ends with this value
    Yield : (e : Tree) → Code
    -- w stands in c for what the block reads of g, or of its element at what i stands for
    Read : (w g : Name) → (i : Option Name) → (block c : Code) → Code
    -- the block writes what w stands for to g, or to its element
    Write : (g : Name) → (i : Option Name) → (w : Name) → (block : Code) → Code

  pub data Codes : Type 0 where
    no_codes : Codes
    more_codes : Code → Codes → Codes

abbrev pub in_turn : List Code → Code
in_turn [] = Empty
in_turn (c ∷ cs) = Seq c (in_turn cs)

-- what names stand for in such a block
abbrev pub content_places : List (Name × Place)
content_places = (content_name, Whole content_name) ∷ []

-- bases of made names
abbrev pub at_base : Name
at_base = codes "at"

abbrev pub old_base : Name
old_base = codes "old"

abbrev pub val_base : Name
val_base = codes "val"

abbrev pub new_base : Name
new_base = codes "new"
