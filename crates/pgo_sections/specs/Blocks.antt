-- Code whose mapped parameters are read and written by blocks, which have none themselves.
use Rattle.pgo_sections.specs.Code.{Code, Empty, Skip, Let, Pick, Become, Set, Await, Assert, Print, If, Either, Seq, Goto, Yield, Read, Write, Codes, no_codes, more_codes}

-- each block in the code meets B
module _ (B : Code → Type 0) where
  abbrev mutual
    pub AreBlocks : Code → Type 0
    AreBlocks Empty = Unit {0}
    AreBlocks Skip = Unit {0}
    AreBlocks (Let b w e c) = AreBlocks c
    AreBlocks (Pick b w e c) = AreBlocks c
    AreBlocks (Become p w) = Unit {0}
    AreBlocks (Set b p e) = Unit {0}
    AreBlocks (Await e) = Unit {0}
    AreBlocks (Assert e) = Unit {0}
    AreBlocks (Print e) = Unit {0}
    AreBlocks (If e c d) = AreBlocks c × AreBlocks d
    AreBlocks (Either cs) = AllAreBlocks cs
    AreBlocks (Seq c d) = AreBlocks c × AreBlocks d
    AreBlocks (Goto l) = Unit {0}
    AreBlocks (Yield e) = Unit {0}
    AreBlocks (Read w g i m c) = B m × AreBlocks c
    AreBlocks (Write g i w m) = B m

    pub AllAreBlocks : Codes → Type 0
    AllAreBlocks no_codes = Unit {0}
    AllAreBlocks (more_codes c cs) = AreBlocks c × AllAreBlocks cs

-- a block, which reads and writes nothing by blocks
abbrev pub IsBlock : Code → Type 0
IsBlock m = AreBlocks (λ b. ⊥) m

-- code that reads and writes by blocks
abbrev pub HasBlocks : Code → Type 0
HasBlocks c = AreBlocks IsBlock c
