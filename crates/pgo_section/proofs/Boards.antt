-- What is done to a held content, as the board shows it.
use Rattle.std.proofs.Common.{◌≡◌, ◌≤◌, ◌<◌, ◌+◌, ℕ, zero, suc, Bool, true, false, List, [], ◌∷◌, length, drop, get_or, Option, Some, None, refl, sym, ap, ◌∙◌, subst, arith}
use Rattle.std.specs.Prelude.{if◌then◌else◌, nat_eq, IsSome}
use Rattle.std.proofs.lemmas.List.{drop_more}
use Rattle.pgo_model.specs.Machine.{among}
use Rattle.pgo_workers.specs.View.{Shown, Hold, View, Once, hold_at, resources_of, with_content}
use Rattle.pgo_workers.specs.Worker.{with_held}
use Rattle.pgo_workers.specs.Holds as holds
use Rattle.pgo_section.specs.Folds.{change_at, change_all, each_changed}
use Rattle.pgo_section.proofs.Folds.{with_is_change, with_same, resources_change, changed_each}

pub some_is : {A : Type 0} (o : Option A) → IsSome o → (x : A) × (o ≡ Some x)
some_is None h = absurd (grind (arith, h))
some_is (Some x) h = (x, refl)

pub is_some_of : {A : Type 0} (o : Option A) (x : A) → o ≡ Some x → IsSome o
is_some_of o x e = subst (λ o. IsSome o) (sym e) refl

-- an element is among its list
pub at_among : (l : List ℕ) (i x : ℕ) → i < length l → x ≡ get_or l i x → among x l ≡ true
at_among [] i x h e = absurd (omega (arith, h))
at_among (y ∷ l) zero x h e = let t : nat_eq x y ≡ true = grind (arith, e) in ap (λ b. if b then true else among x l) t
at_among (y ∷ l) (suc i) x h e = go (nat_eq x y) (at_among l i x (omega (arith, h)) e)
  where
    go : (b : Bool) → among x l ≡ true → (if b then true else among x l) ≡ true
    go true q = refl
    go false q = q

module _ {D : Type 0} where
  -- one content changed
  pub changed_board : (f : Shown → Shown) (b c : View D) (r : ℕ) (old new : Shown) (h : Hold) → hold_at b.held r ≡ Some h → h.content ≡ old → new ≡ f old → c ≡ with_held (with_content r new b.held) b → c ≡ with_held (change_at f r b.held) b
  changed_board f b c r old new h at is made e = e ∙ ap (λ hs. with_held hs b) (ap (λ n. with_content r n b.held) (made ∙ ap f (sym is)) ∙ with_is_change f r b.held h at)

  pub same_board : (b c : View D) (r : ℕ) (old new : Shown) (h : Hold) → hold_at b.held r ≡ Some h → h.content ≡ old → new ≡ old → c ≡ with_held (with_content r new b.held) b → c ≡ b
  same_board b c r old new h at is made e = e ∙ ap (λ hs. with_held hs b) (ap (λ n. with_content r n b.held) (made ∙ sym is) ∙ with_same r b.held h at)

  -- a turn of a loop over what is held
  pub fold_step : (f : Shown → Shown) (taken : List ℕ) (i r : ℕ) (start b c : View D) → i < length taken → r ≡ get_or taken i r → c ≡ with_held (change_at f r b.held) b → b ≡ with_held b.held start → resources_of b.held ≡ taken
      → change_all f (drop i taken) b.held ≡ change_all f taken start.held
      → (c ≡ with_held c.held start) × (resources_of c.held ≡ taken) × (change_all f (drop (i + 1) taken) c.held ≡ change_all f taken start.held)
  fold_step f taken i r start b c near at e s res fold =
      let held : c.held ≡ change_at f r b.held = ap (λ (v : View D). v.held) e in (
        e ∙ ap (λ (v : View D). with_held (change_at f r b.held) v) s ∙ ap (λ hs. with_held hs start) (sym held),
        ap resources_of held ∙ resources_change f r b.held ∙ res,
        ap (change_all f (drop (i + 1) taken)) held ∙ sym (ap (λ l. change_all f l b.held) (drop_more taken i r near ∙ ap (λ x. x ∷ drop (i + 1) taken) (sym at))) ∙ fold,
      )

  pub fold_end : (f : Shown → Shown) (taken : List ℕ) (i : ℕ) (start b : View D) → length taken ≤ i → b ≡ with_held b.held start → taken ≡ resources_of start.held → Once taken
      → change_all f (drop i taken) b.held ≡ change_all f taken start.held → b ≡ with_held (each_changed f start.held) start
  fold_end f taken i start b far s held once fold =
      s ∙ ap (λ hs. with_held hs start) (ap (λ l. change_all f l b.held) (sym (none taken i far)) ∙ fold ∙ ap (λ l. change_all f l start.held) held ∙ changed_each f start.held (subst Once held once))
    where
      none : (l : List ℕ) (i : ℕ) → length l ≤ i → drop i l ≡ []
      none [] zero h = refl
      none [] (suc i) h = refl
      none (x ∷ l) zero h = absurd (omega (arith, h))
      none (x ∷ l) (suc i) h = none l i (omega (arith, h))

-- it is held
pub is_held : (hs : List Hold) (taken : List ℕ) (r : ℕ) → resources_of hs ≡ taken → among r taken ≡ true → IsSome (hold_at hs r)
is_held hs taken r e a = let q = holds.held_there hs r (ap (among r) e ∙ a) in is_some_of (hold_at hs r) q.0 q.1
