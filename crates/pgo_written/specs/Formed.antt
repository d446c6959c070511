-- Which expressions are well formed but for the names that stand alone in them.
use Rattle.std.specs.Prelude.{◌≡◌, ◌⊎◌, true, IsTrue}
use Rattle.pgo_base.specs.Lookup.{Name}
use Rattle.pgo_base.specs.Tree.{Tree, name, primed, number, text, truth, at, word, unary, binary, product, cond_of, case_of, case_other, let_in, quantified, choose, tuple, set_of, filter_of, image, fun_of, fun_set, record_of, record_set, except, index, field, call, unchanged, Trees, no_trees, more_trees, NamedTrees, no_named, more_named, TreePairs, no_arms, more_arms, BoundTrees, no_bound, more_bound, PathTrees, no_paths, more_paths}
use Rattle.pgo_lexer.specs.Lexemes.{all_are}
use Rattle.pgo_expr_write.specs.WellFormed.{IsName, AreSomeNames, IsNumber, is_string_byte, is_boolean, is_word, is_member_of_word}

-- as `IsWellFormed`, where a name that stands alone meets N
module _ (N : Name → Type 0) where
  abbrev mutual
    pub Formed : Tree → Type 0
    Formed (name x) = N x
    Formed (primed x) = IsName x
    Formed (number z) = IsNumber z
    Formed (text s) = IsTrue (all_are is_string_byte s)
    Formed (truth b) = Unit {0}
    Formed at = Unit {0}
    Formed (word w) = is_boolean w ≡ true
    Formed (unary p a) = Formed a
    Formed (binary p a b) = Formed a × ((is_member_of_word p b ≡ true) ⊎ Formed b)
    Formed (product ts) = TwoFormed ts
    Formed (cond_of p a b) = Formed p × Formed a × Formed b
    Formed (case_of gs) = SomeArmsFormed gs
    Formed (case_other gs e) = SomeArmsFormed gs × Formed e
    Formed (let_in ds e) = SomeNamedFormed ds × Formed e
    Formed (quantified q bs p) = SomeBoundFormed bs × Formed p
    Formed (choose x r p) = IsName x × ((is_word r ≡ true) ⊎ Formed r) × Formed p
    Formed (tuple ts) = AllFormed ts
    Formed (set_of ts) = AllFormed ts
    Formed (filter_of x r p) = IsName x × ((is_word r ≡ true) ⊎ Formed r) × Formed p
    Formed (image e x r) = Formed e × IsName x × ((is_word r ≡ true) ⊎ Formed r)
    Formed (fun_of bs e) = SomeBoundFormed bs × Formed e
    Formed (fun_set a b) = Formed a × Formed b
    Formed (record_of ds) = SomeNamedFormed ds
    Formed (record_set ds) = SomeNamedFormed ds
    Formed (except f us) = Formed f × SomePathsFormed us
    Formed (index f ts) = Formed f × SomeFormed ts
    Formed (field r x) = Formed r × IsName x
    Formed (call x ts) = IsName x × SomeFormed ts
    Formed (unchanged xs) = AreSomeNames xs

    pub AllFormed : Trees → Type 0
    AllFormed no_trees = Unit {0}
    AllFormed (more_trees t ts) = Formed t × AllFormed ts

    -- one or more
    pub SomeFormed : Trees → Type 0
    SomeFormed no_trees = ⊥
    SomeFormed (more_trees t ts) = Formed t × AllFormed ts

    -- two or more
    pub TwoFormed : Trees → Type 0
    TwoFormed no_trees = ⊥
    TwoFormed (more_trees t ts) = Formed t × SomeFormed ts

    pub NamedFormed : NamedTrees → Type 0
    NamedFormed no_named = Unit {0}
    NamedFormed (more_named x t ts) = IsName x × Formed t × NamedFormed ts

    pub SomeNamedFormed : NamedTrees → Type 0
    SomeNamedFormed no_named = ⊥
    SomeNamedFormed (more_named x t ts) = IsName x × Formed t × NamedFormed ts

    pub ArmsFormed : TreePairs → Type 0
    ArmsFormed no_arms = Unit {0}
    ArmsFormed (more_arms g e gs) = Formed g × Formed e × ArmsFormed gs

    pub SomeArmsFormed : TreePairs → Type 0
    SomeArmsFormed no_arms = ⊥
    SomeArmsFormed (more_arms g e gs) = Formed g × Formed e × ArmsFormed gs

    pub BoundFormed : BoundTrees → Type 0
    BoundFormed no_bound = Unit {0}
    BoundFormed (more_bound xs r bs) = AreSomeNames xs × ((is_word r ≡ true) ⊎ Formed r) × BoundFormed bs

    pub SomeBoundFormed : BoundTrees → Type 0
    SomeBoundFormed no_bound = ⊥
    SomeBoundFormed (more_bound xs r bs) = AreSomeNames xs × ((is_word r ≡ true) ⊎ Formed r) × BoundFormed bs

    pub PathsFormed : PathTrees → Type 0
    PathsFormed no_paths = Unit {0}
    PathsFormed (more_paths ps e us) = SomeFormed ps × Formed e × PathsFormed us

    pub SomePathsFormed : PathTrees → Type 0
    SomePathsFormed no_paths = ⊥
    SomePathsFormed (more_paths ps e us) = SomeFormed ps × Formed e × PathsFormed us

  -- what stands at the right of a `\in`
  abbrev pub RangeFormed : Tree → Type 0
  RangeFormed r = (is_word r ≡ true) ⊎ Formed r
