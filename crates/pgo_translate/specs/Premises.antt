-- What the names of a specification and of its trees must be, for its module to mean what they mean.
use Rattle.std.specs.Prelude.{◌≡◌, Bool, true, false, ◌||◌, List, [], ◌∷◌, ◌++◌, map, Option, Some, None}
use Rattle.std.specs.List.{AllByRecursion}
use Rattle.pgo_base.specs.Data.{Data}
use Rattle.pgo_base.specs.Lookup.{Name, same_name, find}
use Rattle.pgo_model.specs.ModuleView.{defined_view}
use Rattle.pgo_model.specs.Sequences.{operators, assert_name}
use Rattle.pgo_model.specs.Val.{Defined, Given, Means}
use Rattle.pgo_model.specs.Value.{IsValue}
use Rattle.pgo_model.specs.Written.{self_name, done, proc_set, terminating, default_init_value}
use Rattle.pgo_syntax.specs.Statement.{Statement}
use Rattle.pgo_syntax.specs.declared.archetype.Archetype.{Archetype}
use Rattle.pgo_syntax.specs.declared.binding.Origin.{Origin}
use Rattle.pgo_syntax.specs.declared.binding.Origin.TheVariants.{Equals}
use Rattle.pgo_syntax.specs.declared.binding.Origin.TheVariants as origins
use Rattle.pgo_syntax.specs.declared.name.PlacedName.{PlacedName}
use Rattle.pgo_syntax.specs.declared.process.Argument.{Argument}
use Rattle.pgo_syntax.specs.declared.process.Argument.TheVariants as arguments
use Rattle.pgo_syntax.specs.declared.process.Process.{Process}
use Rattle.pgo_syntax.specs.declared.spec.Spec.{Spec}
use Rattle.pgo_bound.specs.Runs.{archetype_named}
use Rattle.pgo_bound.specs.State.{AreDifferent, variables_of}
use Rattle.pgo_bound.specs.Values.{defs_of, define_of}
use Rattle.pgo_model.specs.Names.{is_among}
use Rattle.pgo_sections.specs.Closed.{AreClosed}
use Rattle.pgo_sections.specs.Code.{content_name}
use Rattle.pgo_sections.specs.WellFormed.{NotMade}
use Rattle.pgo_sections.specs.Expansion.{Expansion, With, In, Skip, Await, Assert, Print, If, Either, End, Expansions, no_expansions, more_expansions}
use Rattle.pgo_meaning.specs.Expansions.{process_expansions}
use Rattle.pgo_translate.specs.Avoids.{Avoids}

-- the label actions of each process, and its own definition
abbrev pub process_names : Spec → List Process → List Name
process_names s [] = []
process_names s (p ∷ ps) = map (λ l. l.0) (process_expansions s p) ++ (p.name.name ∷ process_names s ps)

-- the definitions that a module has beside those of its specification, but for Init, Next, Spec and vars, which no expression
-- of it sees
abbrev pub further_names : Spec → List Name
further_names s = proc_set ∷ process_names s s.processes ++ (terminating ∷ [])

abbrev pub is_further : Spec → Name → Bool
is_further s x = is_among x (further_names s)

-- the variables and the further definitions: what an expression outside sections may not name, and one in a section only by what
-- stands for it
abbrev pub taken_names : Spec → List Name
taken_names s = variables_of s ++ further_names s

abbrev pub is_taken : Spec → Name → Bool
is_taken s x = is_among x (taken_names s)

-- or `self`
abbrev pub is_taken_or_self : Spec → Name → Bool
is_taken_or_self s x = is_taken s x || same_name x self_name

-- Of the names that a module writes: no variable and no further definition is `self` or a made name; no variable is a further
-- definition; and no two further definitions have one name. None has the name of an operator of the modules, nor that by which a
-- mapping macro's block speaks of the content.
pub record ModuleNames (s : Spec) : Type 0 where
  pub self_variable : is_among self_name (variables_of s) ≡ false
  pub self_further : is_further s self_name ≡ false
  pub written : (x : Name) → is_among x (variables_of s) ≡ true → NotMade x
  pub further : (x : Name) → is_further s x ≡ true → NotMade x
  pub apart : (x : Name) → is_among x (variables_of s) ≡ true → is_further s x ≡ false
  pub differ : AreDifferent (further_names s)
  pub operators : (x : Name) → is_further s x ≡ true → find x operators ≡ None
  pub assert : is_further s assert_name ≡ false
  pub content : is_further s content_name ≡ false

-- ---- trees

module _ (bad : Name → Bool) (free : Name → Type 0) where
  abbrev mutual
    -- under the names bound above: the tree's expressions avoid the bad names, what it binds is free, and its ends assign
    -- what is bound
    pub IsNamed : List Name → Expansion → Type 0
    IsNamed above (With x e rest) = free x × Avoids bad e × IsNamed (x ∷ above) rest
    IsNamed above (In x e rest) = free x × Avoids bad e × IsNamed (x ∷ above) rest
    IsNamed above (Skip rest) = IsNamed above rest
    IsNamed above (Await e rest) = Avoids bad e × IsNamed above rest
    IsNamed above (Assert e rest) = Avoids bad e × IsNamed above rest
    IsNamed above (Print e rest) = Avoids bad e × IsNamed above rest
    IsNamed above (If e a b) = Avoids bad e × IsNamed above a × IsNamed above b
    IsNamed above (Either arms) = ArmsNamed above arms
    IsNamed above (End changes l) = AllByRecursion (λ c. is_among c.1 above ≡ true) changes

    pub ArmsNamed : List Name → Expansions → Type 0
    ArmsNamed above no_expansions = Unit {0}
    ArmsNamed above (more_expansions a rest) = IsNamed above a × ArmsNamed above rest

-- a name that a tree may bind: no variable and not `self`
pub record IsFree (s : Spec) (x : Name) : Type 0 where
  pub self : same_name self_name x ≡ false
  pub variable : is_among x (variables_of s) ≡ false

-- the tree binds no variable and not `self`, names no further definition, and assigns what is bound above
abbrev pub TreeNamed : Spec → Expansion → Type 0
TreeNamed s x = IsNamed (is_further s) (IsFree s) [] x

-- ---- Init

-- the names of the definitions
abbrev pub definition_names : Spec → List Name
definition_names s = map (λ d. d.name.name) s.definitions ++ map (λ d. d.name.name) (define_of s.define)

abbrev pub OriginAvoids : (Name → Bool) → Option Origin → Type 0
OriginAvoids bad None = Unit {0}
OriginAvoids bad (Some (Equals e)) = Avoids bad e
OriginAvoids bad (Some (origins.In e)) = Avoids bad e

abbrev pub ArgumentAvoids : (Name → Bool) → Argument → Type 0
ArgumentAvoids bad (arguments.Ref g e) = Unit {0}
ArgumentAvoids bad (arguments.Value place e) = Avoids bad e

-- the identifiers are evaluated where `self` is bound too
pub record ProcessAvoids (s : Spec) (p : Process) : Type 0 where
  pub ids : OriginAvoids (is_taken_or_self s) (Some p.ids)
  pub arguments : AllByRecursion (ArgumentAvoids (is_taken s)) p.arguments

-- the body's first label is not `Done`, which is what `goto` has at the end
abbrev pub StartsAtLabel : Spec → Process → Type 0
StartsAtLabel s p =
    (a : Archetype) (l : PlacedName) (t : Statement) (rest : List (Option PlacedName × Statement))
    → archetype_named p.archetype.name s.archetypes ≡ Some a → a.body ≡ (Some l, t) ∷ rest → same_name l.name done ≡ false

-- what Init asks: expressions of definitions, initial values, identifiers and value arguments name no variable and no
-- further definition; nothing but `defaultInitValue` has its name; and no process starts at a label `Done`
pub record StartNames (s : Spec) (consts : List (Name × Data)) : Type 0 where
  pub bodies : AreClosed (taken_names s) (map defined_view (defs_of s consts))
  pub globals : AllByRecursion (λ d. OriginAvoids (is_taken s) d.initial) s.globals
  pub processes : AllByRecursion (ProcessAvoids s) s.processes
  pub archetypes : AllByRecursion (λ a. AllByRecursion (λ d. OriginAvoids (is_taken s) d.initial) a.locals) s.archetypes
  pub default : is_taken s default_init_value ≡ false
  pub default_defined : is_among default_init_value (definition_names s) ≡ false
  pub places : AllByRecursion (StartsAtLabel s) s.processes

-- the value that a definition is given is one
abbrev pub GivenValue : Defined → Type 0
GivenValue (Given x v) = IsValue v
GivenValue (Means x ps e) = Unit {0}

-- the constants are values
abbrev pub ConstantsAreValues : Spec → List (Name × Data) → Type 0
ConstantsAreValues s consts = AllByRecursion GivenValue (map defined_view (defs_of s consts))
