-- What is done by choices, as a tree of choice points, and its leaves. Source: this project's choice.
use Rattle.std.proofs.Common.{◌≡◌, ℕ, zero, suc, List, [], ◌∷◌, ◌++◌, map, Option, Some, None, refl, ap}
use Rattle.std.specs.Prelude.{if◌then◌else◌, nat_eq}
use Rattle.pgo_model.specs.Choice.{pick}
use Rattle.pgo_model.specs.System.{Words}

-- a choice that was made: of how many, and the number of the one that was taken
pub record ChoiceMade : Type 0 where
  pub count : ℕ
  pub taken : ℕ

-- it has ended, or chooses one of `suc more` arms, from 0
pub data Chosen (E : Type 0) : Type 0 where
  Ended : (e : E) → Chosen E
  Chooses : (more : ℕ) → (arms : ℕ → Chosen E) → Chosen E

-- how it ended, with the choices made, the first first
abbrev pub Leaf : Type 0 → Type 0
Leaf E = List ChoiceMade × E

abbrev pub ahead : {E : Type 0} → ℕ → ℕ → Leaf E → Leaf E
ahead more i l = (record { count = suc more; taken = i } ∷ l.0, l.1)

-- the arms of the path, and behind it those that the words pick, from word d on
abbrev pub follow : {E : Type 0} → Words → ℕ → List ℕ → Chosen E → Leaf E
follow w d p (Ended e) = ([], e)
follow w d [] (Chooses more arms) = let i = pick (w d) (suc more) in ahead more i (follow w (suc d) [] (arms i))
follow w d (i ∷ p) (Chooses more arms) = let j = pick i (suc more) in ahead more j (follow w (suc d) p (arms j))

-- the arm after arm i, round
abbrev pub round : ℕ → ℕ → ℕ
round more i = if nat_eq i more then 0 else suc i

-- so many arms from arm i on, round
abbrev pub around : {E : Type 0} → (ℕ → List (Leaf E)) → ℕ → ℕ → ℕ → List (Leaf E)
around f more zero i = []
around f more (suc left) i = map (ahead more i) (f i) ++ around f more left (round more i)

-- all leaves, each once, from the arm on that word d picks, and on from there
abbrev pub leaves_from : {E : Type 0} → Words → ℕ → Chosen E → List (Leaf E)
leaves_from w d (Ended e) = ([], e) ∷ []
leaves_from w d (Chooses more arms) = around (λ i. leaves_from w (suc d) (arms i)) more (suc more) (pick (w d) (suc more))

-- all leaves in the order of the arms
abbrev pub leaves : {E : Type 0} → Chosen E → List (Leaf E)
leaves t = leaves_from (λ d. 0) 0 t

abbrev pub below : ℕ → ℕ
below zero = 0
below (suc n) = n

-- the arm after the one that was taken
abbrev pub following : ChoiceMade → ℕ
following c = round (below c.count) c.taken

abbrev pub turned_at : ℕ → ChoiceMade → Option (List ℕ) → Option (List ℕ)
turned_at first c (Some p) = Some (c.taken ∷ p)
turned_at first c None = if nat_eq (following c) first then None else Some (following c ∷ [])

-- The path to the next leaf: at the last choice at which, under the same earlier ones, some arm was not taken, the arm after
-- the one that was taken. The first arm of choice d is the one that word d picks.
abbrev pub turned : Words → ℕ → List ChoiceMade → Option (List ℕ)
turned w d [] = None
turned w d (c ∷ cs) = turned_at (pick (w d) c.count) c (turned w (suc d) cs)

-- a member of a list
pub data In {A : Type 0} (x : A) : List A → Type 0 where
  Here : (l : List A) → In x (x ∷ l)
  There : (y : A) → {l : List A} → In x l → In x (y ∷ l)

-- the same choices, with other ends
abbrev pub mapped : {E F : Type 0} → (E → F) → Chosen E → Chosen F
mapped f (Ended e) = Ended (f e)
mapped f (Chooses more arms) = Chooses more (λ i. mapped f (arms i))

pub follow_mapped : {E F : Type 0} (f : E → F) (w : Words) (d : ℕ) (t : Chosen E) → follow w d [] (mapped f t) ≡ (let l = follow w d [] t in (l.0, f l.1))
follow_mapped f w d (Ended e) = refl
follow_mapped f w d (Chooses more arms) = let i = pick (w d) (suc more) in ap (ahead more i) (follow_mapped f w (suc d) (arms i))
