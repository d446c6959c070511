-- What is asked of a section's code: it assigns what a name stands for only where it gave the name a value that can stand in a set;
-- it ends at a label; and no `yield` stands in it, but in the blocks of its mapped parameters.
use Rattle.std.specs.Prelude.{◌≡◌, true, List, [], ◌∷◌}
use Rattle.pgo_base.specs.Lookup.{Name}
use Rattle.pgo_model.specs.Names.{is_among}
use Rattle.pgo_sections.specs.Code.{Code, Empty, Skip, Let, Pick, Become, Set, Await, Assert, Print, If, Either, Seq, Goto, Yield, Read, Write, Codes, no_codes, more_codes}

-- ws are such names
abbrev mutual
  pub AssignsBound : List Name → Code → Type 0
  AssignsBound ws Empty = Unit {0}
  AssignsBound ws Skip = Unit {0}
  AssignsBound ws (Let b w e c) = AssignsBound (w ∷ ws) c
  AssignsBound ws (Pick b w e c) = AssignsBound [] c
  AssignsBound ws (Become p w) = is_among w ws ≡ true
  AssignsBound ws (Set b p e) = Unit {0}
  AssignsBound ws (Await e) = Unit {0}
  AssignsBound ws (Assert e) = Unit {0}
  AssignsBound ws (Print e) = Unit {0}
  AssignsBound ws (If e c d) = AssignsBound ws c × AssignsBound ws d
  AssignsBound ws (Either cs) = AllAssign ws cs
  AssignsBound ws (Seq c d) = AssignsBound ws c × AssignsBound ws d
  AssignsBound ws (Goto l) = Unit {0}
  AssignsBound ws (Yield e) = Unit {0}
  AssignsBound ws (Read w g i block c) = AssignsBound (w ∷ ws) c
  AssignsBound ws (Write g i w block) = Unit {0}

  pub AllAssign : List Name → Codes → Type 0
  AllAssign ws no_codes = Unit {0}
  AllAssign ws (more_codes c cs) = AssignsBound ws c × AllAssign ws cs

abbrev pub JumpsAtEnd : Code → Type 0
JumpsAtEnd (Goto l) = Unit {0}
JumpsAtEnd (Seq c d) = JumpsAtEnd d
JumpsAtEnd _ = ⊥

abbrev mutual
  pub NeverYields : Code → Type 0
  NeverYields Empty = Unit {0}
  NeverYields Skip = Unit {0}
  NeverYields (Let b w e c) = NeverYields c
  NeverYields (Pick b w e c) = NeverYields c
  NeverYields (Become p w) = Unit {0}
  NeverYields (Set b p e) = Unit {0}
  NeverYields (Await e) = Unit {0}
  NeverYields (Assert e) = Unit {0}
  NeverYields (Print e) = Unit {0}
  NeverYields (If e c d) = NeverYields c × NeverYields d
  NeverYields (Either cs) = NoneYields cs
  NeverYields (Seq c d) = NeverYields c × NeverYields d
  NeverYields (Goto l) = Unit {0}
  NeverYields (Yield e) = ⊥
  NeverYields (Read w g i block c) = NeverYields c
  NeverYields (Write g i w block) = Unit {0}

  pub NoneYields : Codes → Type 0
  NoneYields no_codes = Unit {0}
  NoneYields (more_codes c cs) = NeverYields c × NoneYields cs
