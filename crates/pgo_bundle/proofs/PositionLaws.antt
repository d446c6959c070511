-- Notes that are placed one after another are those of each position.
use Rattle.std.proofs.Common.{◌≡◌, ◌≤◌, ◌<◌, ◌+◌, ℕ, zero, suc, Bool, true, false, nat_eq, List, [], ◌∷◌, ◌++◌, length, map, refl, ap, sym, ◌∙◌, arith, get_or, set, append_assoc}
use Rattle.std.specs.Prelude.{if◌then◌else◌}
use Rattle.std.proofs.lemmas.Bool.{ne_eqb, eq-eqb}
use Rattle.std.proofs.lemmas.List.{map-set, get_or-map, length-map, append-nil}
use Rattle.pgo_model.specs.Machine.{Note}
use Rattle.pgo_bundle.specs.BundleLog.{LoggedNote}
use Rattle.pgo_bundle.specs.RunLog.{notes_at}
use Rattle.pgo_bundle.specs.Positions.{by_position, place_at, place_all, empty_places}

abbrev logged : Note → LoggedNote
logged n = record { instance = n.instance; attempt = n.attempt; kind = n.kind }

-- one note more
notes_more : (p : ℕ) (done : List Note) (n : Note) → notes_at p (done ++ n ∷ []) ≡ notes_at p done ++ (if nat_eq n.position p then logged n ∷ [] else [])
notes_more p [] n = go (nat_eq n.position p)
  where
    go : (b : Bool) → (if b then logged n ∷ [] else []) ≡ [] ++ (if b then logged n ∷ [] else [])
    go true = refl
    go false = refl
notes_more p (m ∷ done) n =
    let rest = notes_more p done n in
    let more : List LoggedNote = if nat_eq n.position p then logged n ∷ [] else [] in
    ap (λ z. if nat_eq m.position p then logged m ∷ z else z) rest ∙ go (nat_eq m.position p) more
  where
    go : (b : Bool) (more : List LoggedNote) → (if b then logged m ∷ (notes_at p done ++ more) else notes_at p done ++ more) ≡ (if b then logged m ∷ notes_at p done else notes_at p done) ++ more
    go true more = refl
    go false more = refl

notes_here : (p : ℕ) (done : List Note) (n : Note) → n.position ≡ p → notes_at p (done ++ n ∷ []) ≡ notes_at p done ++ logged n ∷ []
notes_here p done n e = notes_more p done n ∙ ap (λ b. notes_at p done ++ (if b then logged n ∷ [] else [])) (eq-eqb n.position p e)

notes_there : (p : ℕ) (done : List Note) (n : Note) → (n.position ≡ p → ⊥) → notes_at p (done ++ n ∷ []) ≡ notes_at p done
notes_there p done n e = notes_more p done n ∙ ap (λ b. notes_at p done ++ (if b then logged n ∷ [] else [])) (ne_eqb n.position p e) ∙ append-nil (notes_at p done)

-- a note at none of these positions
all_there : (p k : ℕ) (done : List Note) (n : Note) → n.position < p → by_position p k (done ++ n ∷ []) ≡ by_position p k done
all_there p zero done n h = refl
all_there p (suc k) done n h =
    let first = notes_there p done n (λ e. omega (arith, e, h)) in
    let rest = all_there (suc p) k done n (omega (arith, h)) in
    λ i. first i ∷ rest i

placed_more : (i p k : ℕ) (done : List Note) (n : Note) → n.position ≡ p + i → place_at i (logged n) (by_position p k done) ≡ by_position p k (done ++ n ∷ [])
unfolding place_at
placed_more i p zero done n e = refl
placed_more zero p (suc k) done n e =
    let here : n.position ≡ p = omega (arith, e) in
    let first = sym (notes_here p done n here) in
    let rest = sym (all_there (suc p) k done n (omega (arith, here))) in
    λ j. first j ∷ rest j
placed_more (suc i) p (suc k) done n e =
    let first = sym (notes_there p done n (λ q. omega (arith, q, e))) in
    let rest = placed_more i (suc p) k done n (omega (arith, e)) in
    λ j. first j ∷ rest j

all_placed : (k : ℕ) (done ns : List Note) → place_all ns (by_position 0 k done) ≡ by_position 0 k (done ++ ns)
unfolding place_all
all_placed k done [] = ap (by_position 0 k) (sym (append-nil done))
all_placed k done (n ∷ ns) =
    ap (place_all ns) (placed_more n.position 0 k done n (omega arith)) ∙ all_placed k (done ++ n ∷ []) ns ∙ ap (by_position 0 k) (append_assoc done (n ∷ []) ns)

none_placed : (p k : ℕ) → empty_places k ≡ by_position p k []
none_placed p zero = refl
none_placed p (suc k) = ap (λ r. [] ∷ r) (none_placed (suc p) k)

pub placed_are : (k : ℕ) (ns : List Note) → place_all ns (empty_places k) ≡ by_position 0 k ns
placed_are k ns = ap (place_all ns) (none_placed 0 k) ∙ all_placed k [] ns

pub more_empty : (k : ℕ) → empty_places k ++ [] ∷ [] ≡ empty_places (suc k)
more_empty zero = refl
more_empty (suc k) = ap (λ r. [] ∷ r) (more_empty k)

-- ---- a list at its place

place_set : (p : ℕ) (n : LoggedNote) (d : List LoggedNote) (t : List (List LoggedNote)) → p < length t → place_at p n t ≡ set t p (get_or t p d ++ n ∷ [])
unfolding place_at
place_set p n d [] h = absurd (omega (arith, h))
place_set zero n d (r ∷ t) h = refl
place_set (suc p) n d (r ∷ t) h = ap (λ z. r ∷ z) (place_set p n d t (omega (arith, h)))

place_past : (p : ℕ) (n : LoggedNote) (t : List (List LoggedNote)) → length t ≤ p → place_at p n t ≡ t
unfolding place_at
place_past p n [] h = refl
place_past zero n (r ∷ t) h = absurd (omega (arith, h))
place_past (suc p) n (r ∷ t) h = ap (λ z. r ∷ z) (place_past p n t (omega (arith, h)))

module _ {A : Type 0} (see : A → List LoggedNote) where
  pub item_placed : (items : List A) (p : ℕ) (n : LoggedNote) (x d : A) → p < length items → d ≡ get_or items p d → see x ≡ see d ++ n ∷ [] → map see (set items p x) ≡ place_at p n (map see items)
  item_placed items p n x d below at is =
      let known : p < length (map see items) = let m = length-map items see in omega (arith, m, below) in
      map-set see items p x ∙ ap (set (map see items) p) is
      ∙ ap (λ z. set (map see items) p (z ++ n ∷ [])) (ap see at ∙ sym (get_or-map see items p d (see d) below))
      ∙ sym (place_set p n (see d) (map see items) known)

  pub none_placed_at : (items : List A) (p : ℕ) (n : LoggedNote) → length items ≤ p → map see items ≡ place_at p n (map see items)
  none_placed_at items p n past = sym (place_past p n (map see items) (let m = length-map items see in omega (arith, m, past)))
