-- Words of a line, names with commas between them, and lines one behind the other.
use Rattle.std.proofs.Common.{◌≡◌, ◌<◌, ℕ, Bor, arith, length, reverse, List, [], ◌∷◌, ◌++◌, map, refl, ap, sym, ◌∙◌, append_assoc, append-nil}
use Rattle.std.proofs.lemmas.List.{length-map, length-reverse}
use Rattle.std.specs.List.{flat_map}
use Rattle.std.specs.Prelude.{codes}
use Rattle.pgo_base.specs.Lookup.{Name}
use Rattle.pgo_model.specs.ExprText.{names_text}
use Rattle.pgo_base.specs.Tree.{Tree}
use Rattle.pgo_model.specs.ModuleText.{flatten, line, bullet, body_lines}

pub names_listed : (x : Name) (xs : List Name) → names_text (x ∷ xs) ≡ x ++ flat_map (λ y. codes ", " ++ y) xs
names_listed x [] = sym (append-nil x)
names_listed x (y ∷ ys) = ap (λ t. x ++ codes ", " ++ t) (names_listed y ys) ∙ regroup x (codes ", ") y (flat_map (λ z. codes ", " ++ z) ys)
  where
    regroup : (a b c d : Name) → a ++ b ++ (c ++ d) ≡ a ++ (b ++ c ++ d)
    regroup a b c d = simp append_assoc refl

pub two_words : (a b : List ℕ) → flatten (a ∷ b ∷ []) ≡ a ++ b
two_words a b = simp append-nil refl

pub three_words : (a b c : List ℕ) → flatten (a ∷ b ∷ c ∷ []) ≡ a ++ b ++ c
three_words a b c = simp (append_assoc, append-nil) refl

-- a head and items, where there are several
pub listed_lines : (head : List ℕ) (e : Tree) (es : List Tree) → (es ≡ [] → ⊥) → body_lines head (e ∷ es) ≡ line (head ++ codes " ==") ∷ map bullet (e ∷ es)
listed_lines head e [] h = absurd (h refl)
listed_lines head e (f ∷ es) h = refl

pub several_lines : (head : List ℕ) (e : Tree) (xs : List (Bor Tree)) → 0 < length xs
    → body_lines head (e ∷ map (λ r. r.now) (reverse xs)) ≡ line (head ++ codes " ==") ∷ map bullet (e ∷ map (λ r. r.now) (reverse xs))
several_lines head e xs h = listed_lines head e (map (λ r. r.now) (reverse xs)) (λ z. let n : length (map (λ r. r.now) (reverse xs)) ≡ 0 = ap length z in omega (arith, n, length-map (reverse xs) (λ r. r.now), length-reverse xs))

group : (a l m n : List ℕ) → a ++ l ++ m ++ n ≡ a ++ flatten (l ∷ m ∷ n ∷ [])
group a l m n = simp (append_assoc, append-nil) refl

pub three_lines : (a b c d l m n : List ℕ) → b ≡ a ++ line l → c ≡ b ++ line m → d ≡ c ++ line n → d ≡ a ++ flatten (line l ∷ line m ∷ line n ∷ [])
three_lines a b c d l m n f g h =
    h ∙ ap (λ t. t ++ line n) (g ∙ ap (λ t. t ++ line m) f) ∙ group a (line l) (line m) (line n)
