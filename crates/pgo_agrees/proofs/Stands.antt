-- How names stand in an expression: each with whether it is hidden there, and whether it stands directly before one index.
use Rattle.std.proofs.Common.{◌≡◌, Bool, true, false, List, [], ◌∷◌, ◌++◌, inl, inr, refl, sym, subst}
use Rattle.std.specs.Prelude.{◌⊎◌, ◌||◌}
use Rattle.pgo_base.specs.Lookup.{Name, same_name}
use Rattle.pgo_base.specs.Tree.{Tree, name, primed, number, text, truth, at, word, unary, binary, product, cond_of, case_of, case_other, let_in, quantified, choose, tuple, set_of, filter_of, image, fun_of, fun_set, record_of, record_set, except, index, field, call, unchanged, Trees, no_trees, more_trees, NamedTrees, no_named, more_named, TreePairs, no_arms, more_arms, BoundTrees, no_bound, more_bound, PathTrees, no_paths, more_paths}
use Rattle.pgo_model.specs.Names.{same_name-is, is_among}
use Rattle.pgo_sections.specs.Bound.{names_of, names_bound, below}
use Rattle.pgo_sections.specs.Plain.{All}

-- one index alone
abbrev pub is_one : Trees → Bool
is_one no_trees = false
is_one (more_trees t no_trees) = true
is_one (more_trees t (more_trees u us)) = false

-- Names alone are bound around them within the expression, or meet N, where they are hidden or not and indexed or not; those that
-- are applied meet C, and those that it binds B.
module _ (N : Bool → Bool → Name → Type 0) (C B : Name → Type 0) where
  abbrev mutual
    pub Stands : List Name → Bool → Bool → Tree → Type 0
    Stands u h i (name x) = (is_among x u ≡ true) ⊎ N h i x
    Stands u h i (primed x) = ⊥
    Stands u h i (number z) = Unit {0}
    Stands u h i (text s) = Unit {0}
    Stands u h i (truth b) = Unit {0}
    Stands u h i at = Unit {0}
    Stands u h i (word w) = Unit {0}
    Stands u h i (unary o a) = Stands u h false a
    Stands u h i (binary o a b) = Stands u h false a × Stands u h false b
    Stands u h i (product ts) = AllStand u h ts
    Stands u h i (cond_of p a b) = Stands u h false p × Stands u true false a × Stands u true false b
    Stands u h i (case_of gs) = ArmsStand u h gs
    Stands u h i (case_other gs e) = ArmsStand u h gs × Stands u true false e
    Stands u h i (let_in ds e) = LetStand u ds × Stands (below (names_of ds) u) true false e
    Stands u h i (quantified q bs p) = BoundStand u h bs × Stands (below (names_bound bs) u) true false p
    Stands u h i (choose x r p) = B x × Stands u h false r × Stands (x ∷ u) true false p
    Stands u h i (tuple ts) = AllStand u h ts
    Stands u h i (set_of ts) = AllStand u h ts
    Stands u h i (filter_of x r p) = B x × Stands u h false r × Stands (x ∷ u) true false p
    Stands u h i (image e x r) = B x × Stands u h false r × Stands (x ∷ u) true false e
    Stands u h i (fun_of bs e) = BoundStand u h bs × Stands (below (names_bound bs) u) true false e
    Stands u h i (fun_set a b) = Stands u h false a × Stands u h false b
    Stands u h i (record_of ds) = FieldsStand u h ds
    Stands u h i (record_set ds) = FieldsStand u h ds
    Stands u h i (except f us) = Stands u h false f × PathsStand u h us
    Stands u h i (index f ts) = Stands u h (is_one ts) f × AllStand u h ts
    Stands u h i (field r x) = Stands u h false r
    Stands u h i (call x ts) = C x × AllStand u h ts
    Stands u h i (unchanged xs) = ⊥

    pub AllStand : List Name → Bool → Trees → Type 0
    AllStand u h no_trees = Unit {0}
    AllStand u h (more_trees t ts) = Stands u h false t × AllStand u h ts

    pub ArmsStand : List Name → Bool → TreePairs → Type 0
    ArmsStand u h no_arms = Unit {0}
    ArmsStand u h (more_arms g e gs) = Stands u h false g × Stands u true false e × ArmsStand u true gs

    pub FieldsStand : List Name → Bool → NamedTrees → Type 0
    FieldsStand u h no_named = Unit {0}
    FieldsStand u h (more_named x t ts) = Stands u h false t × FieldsStand u h ts

    pub LetStand : List Name → NamedTrees → Type 0
    LetStand u no_named = Unit {0}
    LetStand u (more_named x t ts) = B x × Stands u true false t × LetStand (x ∷ u) ts

    pub BoundStand : List Name → Bool → BoundTrees → Type 0
    BoundStand u h no_bound = Unit {0}
    BoundStand u h (more_bound xs r bs) = All B xs × Stands u h false r × BoundStand u h bs

    pub PathsStand : List Name → Bool → PathTrees → Type 0
    PathsStand u h no_paths = Unit {0}
    PathsStand u h (more_paths ps e us) = AllStand u h ps × Stands u h false e × PathsStand u h us

-- ---- names below names

pub or_in : (a b : Bool) → a || b ≡ true → (a ≡ true) ⊎ (b ≡ true)
or_in true b e = inl refl
or_in false b e = inr e

pub or_first : (a b : Bool) → a ≡ true → a || b ≡ true
or_first true b e = refl
or_first false b e = absurd (cc)

pub or_second : (a b : Bool) → b ≡ true → a || b ≡ true
or_second true b e = refl
or_second false b e = e

-- what holds of names above, and of these
abbrev pub Meet : (Name → Type 0) → List Name → Type 0
Meet B u = (x : Name) → is_among x u ≡ true → B x

pub meet_one : (B : Name → Type 0) (y : Name) (u : List Name) → B y → Meet B u → Meet B (y ∷ u)
meet_one B y u b m x h = go (or_in (same_name x y) (is_among x u) h)
  where
    go : (same_name x y ≡ true) ⊎ (is_among x u ≡ true) → B x
    go (inl e) = subst B (sym (same_name-is x y e)) b
    go (inr e) = m x e

pub meet_below : (B : Name → Type 0) (ys u : List Name) → All B ys → Meet B u → Meet B (below ys u)
meet_below B [] u b m = m
meet_below B (y ∷ ys) u b m = meet_below B ys (y ∷ u) b.1 (meet_one B y u b.0 m)

-- more names above
abbrev pub Above : List Name → List Name → Type 0
Above u v = (x : Name) → is_among x u ≡ true → is_among x v ≡ true

pub above_one : (y : Name) (u v : List Name) → Above u v → Above (y ∷ u) (y ∷ v)
above_one y u v f x h = go (or_in (same_name x y) (is_among x u) h)
  where
    go : (same_name x y ≡ true) ⊎ (is_among x u ≡ true) → same_name x y || is_among x v ≡ true
    go (inl e) = or_first (same_name x y) (is_among x v) e
    go (inr e) = or_second (same_name x y) (is_among x v) (f x e)

pub above_below : (ys u v : List Name) → Above u v → Above (below ys u) (below ys v)
above_below [] u v f = f
above_below (y ∷ ys) u v f = above_below ys (y ∷ u) (y ∷ v) (above_one y u v f)

-- those above stay below others
pub behind : (ys u : List Name) → Above u (below ys u)
behind [] u x h = h
behind (y ∷ ys) u x h = behind ys (y ∷ u) x (or_second (same_name x y) (is_among x u) h)

pub let_all : (N : Bool → Bool → Name → Type 0) (C B : Name → Type 0) (u : List Name) (ds : NamedTrees) → LetStand N C B u ds → All B (names_of ds)
let_all N C B u no_named h = tt
let_all N C B u (more_named x t ts) h = (h.0, let_all N C B (x ∷ u) ts h.2)

pub bound_all : (N : Bool → Bool → Name → Type 0) (C B : Name → Type 0) (u : List Name) (h : Bool) (bs : BoundTrees) → BoundStand N C B u h bs → All B (names_bound bs)
bound_all N C B u h no_bound g = tt
bound_all N C B u h (more_bound xs r bs) g = joined xs g.0 (bound_all N C B u h bs g.2)
  where
    joined : (ys : List Name) → All B ys → All B (names_bound bs) → All B (ys ++ names_bound bs)
    joined [] a rest = rest
    joined (y ∷ ys) a rest = (a.0, joined ys a.1 rest)
