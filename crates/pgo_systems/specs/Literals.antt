-- The literals of code, and of what the start is made from, are within limits.
use Rattle.std.specs.Prelude.{Option, Some, None}
use Rattle.std.specs.List.{AllByRecursion}
use Rattle.pgo_base.specs.Tree.{Tree}
use Rattle.pgo_syntax.specs.declared.binding.Origin.{Origin}
use Rattle.pgo_syntax.specs.declared.binding.Origin.TheVariants.{Equals, In}
use Rattle.pgo_syntax.specs.declared.process.Argument.{Argument}
use Rattle.pgo_syntax.specs.declared.process.Argument.TheVariants as arguments
use Rattle.pgo_syntax.specs.declared.spec.Spec.{Spec}
use Rattle.pgo_bound.specs.Values.{define_of}
use Rattle.pgo_sections.specs.Code.{Code, Empty, Skip, Let, Pick, Become, Set, Await, Assert, Print, If, Either, Seq, Goto, Yield, Read, Write, Codes, no_codes, more_codes}
use Rattle.pgo_values.specs.Limits.{Limits}
use Rattle.pgo_values.specs.Literals.{LiteralsWithin}
use Rattle.pgo_systems.specs.Counted.{counted}

module _ (limits : Limits) where
  -- the literals of each expression in code, and in the blocks of its mapping macros
  abbrev mutual
    pub CodeWithin : Code → Type 0
    CodeWithin Empty = Unit {0}
    CodeWithin Skip = Unit {0}
    CodeWithin (Let b w e c) = LiteralsWithin limits e × CodeWithin c
    CodeWithin (Pick b w e c) = LiteralsWithin limits e × CodeWithin c
    CodeWithin (Become p w) = Unit {0}
    CodeWithin (Set b p e) = LiteralsWithin limits e
    CodeWithin (Await e) = LiteralsWithin limits e
    CodeWithin (Assert e) = LiteralsWithin limits e
    CodeWithin (Print e) = LiteralsWithin limits e
    CodeWithin (If e c d) = LiteralsWithin limits e × CodeWithin c × CodeWithin d
    CodeWithin (Either cs) = AllCodeWithin cs
    CodeWithin (Seq c d) = CodeWithin c × CodeWithin d
    CodeWithin (Goto l) = Unit {0}
    CodeWithin (Yield e) = LiteralsWithin limits e
    CodeWithin (Read w g i block c) = CodeWithin block × CodeWithin c
    CodeWithin (Write g i w block) = CodeWithin block

    pub AllCodeWithin : Codes → Type 0
    AllCodeWithin no_codes = Unit {0}
    AllCodeWithin (more_codes c cs) = CodeWithin c × AllCodeWithin cs

  -- ---- the expressions from which the start is made

  abbrev pub OriginWithin : Origin → Type 0
  OriginWithin (Equals e) = LiteralsWithin limits e
  OriginWithin (In e) = LiteralsWithin limits e

  abbrev pub InitialWithin : Option Origin → Type 0
  InitialWithin None = Unit {0}
  InitialWithin (Some o) = OriginWithin o

  abbrev pub ArgumentWithin : Argument → Type 0
  ArgumentWithin (arguments.Ref g e) = Unit {0}
  ArgumentWithin (arguments.Value place e) = LiteralsWithin limits e

  -- the literals of definitions, of initial values, and of identifiers and arguments of processes
  pub record StartWithin (s : Spec) : Type 0 where
    pub definitions : AllByRecursion (λ d. LiteralsWithin limits d.body) s.definitions
    pub define : AllByRecursion (λ d. LiteralsWithin limits d.body) (define_of s.define)
    pub globals : AllByRecursion (λ d. InitialWithin d.initial) s.globals
    pub locals : AllByRecursion (λ a. AllByRecursion (λ d. InitialWithin d.initial) a.locals) s.archetypes
    pub identifiers : AllByRecursion (λ p. OriginWithin p.ids) s.processes
    pub arguments : AllByRecursion (λ p. AllByRecursion ArgumentWithin p.arguments) s.processes

-- ---- the literals are integers of 64 bits

abbrev pub LiteralsFit : Tree → Type 0
LiteralsFit = LiteralsWithin counted

abbrev pub CodeFits : Code → Type 0
CodeFits = CodeWithin counted

abbrev pub StartFits : Spec → Type 0
StartFits = StartWithin counted
