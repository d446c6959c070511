-- Readers of lists of parts: what they give, and what they are given by, where that holds of the reader of a part.
use Rattle.std.proofs.Common.{◌≡◌, ℕ, zero, suc, Bool, true, false, List, [], ◌∷◌, ◌++◌, length, take, Some, refl, sym, ◌∙◌, ap, subst, append_assoc}
use Rattle.std.specs.Prelude.{codes}
use Rattle.std.proofs.lemmas.Bool.{and_from}
use Rattle.std.proofs.lemmas.List.{append-nil}
use Rattle.pgo_value_text.specs.IsValueText.{is_blank, all_blank, Spaced, spaced, Joined, joined, Followed, none, next, Parted, parted, Listed, nothing, listed}
use Rattle.pgo_value_text.specs.Parsers.{Outcome, Parser}
use Rattle.pgo_value_text.specs.Reading.{expect, begins, front, behind, is_before, followed}
use Rattle.pgo_value_text.specs.Reading as reading
use Rattle.pgo_value_text.proofs.Steps.{if_some, bind_then, some_pair}
use Rattle.pgo_value_text.proofs.Runs.{expected, prefix_goes, prefix_ends, front_behind}

-- ---- what was read

-- bytes are a text of an A and those behind it
pub record Given {A : Type 0} (P : List ℕ → A → Type 0) (bs : List ℕ) (a : A) (r : List ℕ) : Type 0 where
  pub text : List ℕ
  pub is : bs ≡ text ++ r
  pub spelled : P text a

abbrev pub Sound : {A : Type 0} → Parser A → (List ℕ → A → Type 0) → Type 0
Sound {A} p P = (bs : List ℕ) (a : A) (r : List ℕ) → p bs ≡ Some (a, r) → Given P bs a r

pub given_at : {A : Type 0} (P : List ℕ → A → Type 0) (bs : List ℕ) (x a : A) (k r : List ℕ) → ◌≡◌ {A = Outcome A} (Some (x, k)) (Some (a, r)) → Given P bs x k → Given P bs a r
given_at P bs x a k r e g = let p = some_pair x a k r e in subst (λ a. Given P bs a r) p.0 (subst (λ k. Given P bs x k) p.1 g)

-- three parts and what is behind them
pub three : (a b c r s x y : List ℕ) → s ≡ a ++ x → x ≡ b ++ y → y ≡ c ++ r → s ≡ (a ++ (b ++ c)) ++ r
three a b c r s x y e f g = e ∙ ap (λ l. a ++ l) (f ∙ ap (λ l. b ++ l) g ∙ sym (append_assoc b c r)) ∙ sym (append_assoc a (b ++ c) r)

pub two : (a b r s x : List ℕ) → s ≡ a ++ x → x ≡ b ++ r → s ≡ (a ++ b) ++ r
two a b r s x e f = e ∙ ap (λ l. a ++ l) f ∙ sym (append_assoc a b r)

blanks_front : (bs : List ℕ) → all_blank (front is_blank bs) ≡ true
blanks_front [] = refl
blanks_front (b ∷ bs) = go (is_blank b) refl (blanks_front bs)
  where
    go : (t : Bool) → is_blank b ≡ t → all_blank (front is_blank bs) ≡ true → all_blank (front is_blank (b ∷ bs)) ≡ true
    go true h ih = ap (λ n. all_blank (take n (b ∷ bs))) (prefix_goes is_blank b bs h) ∙ and_from (is_blank b) (all_blank (front is_blank bs)) h ih
    go false h ih = ap (λ n. all_blank (take n (b ∷ bs))) (prefix_ends is_blank b bs h)

module _ {A : Type 0} (p : Parser A) (P : List ℕ → A → Type 0) (s : Sound p P) where
  pub sound_spaced : Sound (reading.spaced p) (Spaced P)
  unfolding reading.spaced
  sound_spaced bs a r h =
      bind_then (p (behind is_blank bs)) _ (a, r) (Given (Spaced P) bs a r) h
      (λ x j got e. let g = s (behind is_blank bs) x j got in
      given_at (Spaced P) bs x a (behind is_blank j) r e
      (record {
        text = front is_blank bs ++ (g.text ++ front is_blank j);
        is = three (front is_blank bs) g.text (front is_blank j) (behind is_blank j) bs (behind is_blank bs) j (front_behind is_blank bs _ refl) g.is (front_behind is_blank j _ refl);
        spelled = spaced (front is_blank bs) g.text (front is_blank j) (blanks_front bs) g.spelled (blanks_front j);
      }))

  -- the parts that were read behind these
  record More (w : List ℕ) (done all : List A) (bs r : List ℕ) : Type 0 where
    more : List A
    all_is : all ≡ done ++ more
    text : List ℕ
    is : bs ≡ text ++ r
    spelled : Followed w P text more

  sound_followed : (w : List ℕ) (n : ℕ) (done : List A) (bs : List ℕ) (all : List A) (r : List ℕ) → followed w p n done bs ≡ Some (all, r) → More w done all bs r
  unfolding followed
  sound_followed w zero done bs all r h =
      let q = some_pair done all bs r h in
      record { more = []; all_is = sym q.0 ∙ sym (append-nil done); text = []; is = q.1; spelled = none }
  sound_followed w (suc n) done bs all r h =
      let G : Type 0 = More w done all bs r in
      if_some (begins w bs) _ _ (all, r) G h
      (λ _ e. bind_then (expect w bs) _ (all, r) G e
      (λ u i got e. bind_then (p i) _ (all, r) G e
      (λ a j had e. let g = s i a j had in
      let m = sound_followed w n (done ++ a ∷ []) j all r e in
      record {
        more = a ∷ m.more;
        all_is = m.all_is ∙ append_assoc done (a ∷ []) m.more;
        text = w ++ (g.text ++ m.text);
        is = three w g.text m.text r bs i j (expected w bs u i got) g.is m.is;
        spelled = next g.text m.text g.spelled m.spelled;
      })))
      (λ _ e. let q = some_pair done all bs r e in
      record { more = []; all_is = sym q.0 ∙ sym (append-nil done); text = []; is = q.1; spelled = none })

  pub sound_parted : (w : List ℕ) → Sound (reading.parted w p) (Parted w P)
  unfolding reading.parted
  sound_parted w bs all r h =
      bind_then (p bs) _ (all, r) (Given (Parted w P) bs all r) h
      (λ a j got e. let g = s bs a j got in
      let m = sound_followed w (length j) (a ∷ []) j all r e in
      record {
        text = g.text ++ m.text;
        is = two g.text m.text r bs j g.is m.is;
        spelled = subst (λ l. Parted w P (g.text ++ m.text) l) (sym m.all_is) (parted g.text m.text g.spelled m.spelled);
      })

module _ {A B : Type 0} (w : List ℕ) (p : Parser A) (P : List ℕ → A → Type 0) (s : Sound p P) (q : Parser B) (Q : List ℕ → B → Type 0) (t : Sound q Q) where
  pub sound_joined : Sound (reading.joined w p q) (Joined w P Q)
  unfolding reading.joined
  sound_joined bs ab r h =
      let G : Type 0 = Given (Joined w P Q) bs ab r in
      bind_then (p bs) _ (ab, r) G h
      (λ a i got e. bind_then (expect w i) _ (ab, r) G e
      (λ u j there e. bind_then (q j) _ (ab, r) G e
      (λ b k had e. let g = s bs a i got in
      let d = t j b k had in
      given_at (Joined w P Q) bs (a, b) ab k r e
      (record { text = g.text ++ (w ++ d.text); is = three g.text w d.text k bs i j g.is (expected w i u j there) d.is; spelled = joined g.text d.text g.spelled d.spelled }))))

pub sound_listed : {A : Type 0} (close : List ℕ) (p : Parser A) (P : List ℕ → A → Type 0) → Sound p P → Sound (reading.listed close p) (Listed P)
unfolding reading.listed
sound_listed close p P s bs all r h =
    let G : Type 0 = Given (Listed P) bs all r in
    if_some (is_before close bs) _ _ (all, r) G h
    (λ _ e. given_at (Listed P) bs [] all (behind is_blank bs) r e
    (record { text = front is_blank bs; is = front_behind is_blank bs _ refl; spelled = nothing (blanks_front bs) }))
    (λ _ e. let g = sound_parted (reading.spaced p) (Spaced P) (sound_spaced p P s) (codes ",") bs all r e in
    record { text = g.text; is = g.is; spelled = listed g.spelled })
