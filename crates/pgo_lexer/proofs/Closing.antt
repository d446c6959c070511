-- A comment ends where the rule of nesting ends it.
use Rattle.std.proofs.Common.{◌≡◌, ℕ, zero, suc, true, false, ◌&&◌, nat_eq, List, [], ◌∷◌, ◌++◌, Some, refl, sym, ◌∙◌, ap}
use Rattle.std.proofs.lemmas.Bool.{and_parts, eqb-true}
use Rattle.pgo_lexer.specs.Lexemes.{opens, closes, Closes}
use Rattle.pgo_lexer.specs.Lexemes as c
use Rattle.pgo_lexer.specs.Pieces.{behind_comment}
use Rattle.pgo_lexer.proofs.Runs.{if_some, no_some, cond_false}

-- the front of these bytes closes so many comments, and this rest stands behind it
pub record Closed (n : ℕ) (bs rest : List ℕ) : Type 0 where
  pub front : List ℕ
  pub split : bs ≡ front ++ rest
  pub is : Closes n front

opened : (n b d : ℕ) (bs rest : List ℕ) → opens (b ∷ (d ∷ bs)) ≡ true → Closed (suc (suc n)) bs rest → Closed (suc n) (b ∷ (d ∷ bs)) rest
opened n b d bs rest e h =
    let q = and_parts (nat_eq b 40) (nat_eq d 42) e in
    record { front = 40 ∷ 42 ∷ h.front; split = (λ i. eqb-true b 40 q.0 i ∷ eqb-true d 42 q.1 i ∷ h.split i); is = c.open_one h.is }

ended : (n b d : ℕ) (bs rest : List ℕ) → closes (b ∷ (d ∷ bs)) ≡ true → Closed n bs rest → Closed (suc n) (b ∷ (d ∷ bs)) rest
ended n b d bs rest e h =
    let q = and_parts (nat_eq b 42) (nat_eq d 41) e in
    record { front = 42 ∷ 41 ∷ h.front; split = (λ i. eqb-true b 42 q.0 i ∷ eqb-true d 41 q.1 i ∷ h.split i); is = c.close_one h.is }

passed : (n b d : ℕ) (bs rest : List ℕ) → opens (b ∷ (d ∷ bs)) ≡ false → closes (b ∷ (d ∷ bs)) ≡ false → Closed (suc n) (d ∷ bs) rest → Closed (suc n) (b ∷ (d ∷ bs)) rest
passed n b d bs rest e k h = go h.front h.split h.is
  where
    go : (front : List ℕ) → d ∷ bs ≡ front ++ rest → Closes (suc n) front → Closed (suc n) (b ∷ (d ∷ bs)) rest
    go [] split is = elim is [ ]
    go (x ∷ xs) split is =
        let same : d ≡ x = cc in
        record {
          front = b ∷ (x ∷ xs);
          split = ap (λ y. b ∷ y) split;
          is = c.other ((λ i. nat_eq b 40 && nat_eq (sym same i) 42) ∙ e) ((λ i. nat_eq b 42 && nat_eq (sym same i) 41) ∙ k) is;
        }

pub closing_sound : (n : ℕ) (bs rest : List ℕ) → behind_comment n bs ≡ Some rest → Closed n bs rest
unfolding behind_comment
closing_sound zero bs rest e = record { front = []; split = cc; is = c.closed }
closing_sound (suc n) [] rest e = no_some rest _ e
closing_sound (suc n) (b ∷ []) rest e = no_some rest _ e
closing_sound (suc n) (b ∷ (d ∷ bs)) rest e =
    let G : Type 0 = Closed (suc n) (b ∷ (d ∷ bs)) rest in
    if_some (opens (b ∷ (d ∷ bs))) _ _ rest G e
    (λ t e. opened n b d bs rest t (closing_sound (suc (suc n)) bs rest e))
    (λ t e. if_some (closes (b ∷ (d ∷ bs))) _ _ rest G e
    (λ u e. ended n b d bs rest u (closing_sound n bs rest e))
    (λ u e. passed n b d bs rest t u (closing_sound (suc n) (d ∷ bs) rest e)))

other_complete : (n b : ℕ) (bs rest : List ℕ) → opens (b ∷ bs) ≡ false → closes (b ∷ bs) ≡ false → Closes (suc n) bs → behind_comment (suc n) (bs ++ rest) ≡ Some rest → behind_comment (suc n) (b ∷ (bs ++ rest)) ≡ Some rest
unfolding behind_comment
other_complete n b [] rest e k d h = elim d [ ]
other_complete n b (x ∷ bs) rest e k d h = cond_false (opens (b ∷ (x ∷ bs))) _ _ e ∙ cond_false (closes (b ∷ (x ∷ bs))) _ _ k ∙ h

pub closing_complete : {n : ℕ} {front : List ℕ} → Closes n front → (rest : List ℕ) → behind_comment n (front ++ rest) ≡ Some rest
unfolding behind_comment
closing_complete c.closed rest = refl
closing_complete (c.open_one d) rest = closing_complete d rest
closing_complete (c.close_one d) rest = closing_complete d rest
closing_complete (c.other {n} {b} {bs} e k d) rest = other_complete n b bs rest e k d (closing_complete d rest)
