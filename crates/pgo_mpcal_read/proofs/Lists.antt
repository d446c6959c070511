-- Lists of items: what is read of them, and that they are read.
use Rattle.std.proofs.Common.{◌≡◌, ℕ, zero, suc, ◌≤◌, Bool, true, false, List, [], ◌∷◌, ◌++◌, length, Some, refl, ap, sym, ◌∙◌, subst, arith, cond}
use Rattle.std.proofs.lemmas.List.{append_assoc, append-nil, length-append}
use Rattle.pgo_lexer.specs.declared.token.Lexeme.{Lexeme}
use Rattle.pgo_lexer.specs.declared.symbol.Symbol.{Symbol}
use Rattle.pgo_lexer.specs.declared.symbol.Bracket.TheVariants as bracket
use Rattle.pgo_lexer.specs.declared.symbol.Symbol.TheVariants as symbol
use Rattle.pgo_mpcal_read.specs.Signs.{sees}
use Rattle.pgo_mpcal_read.specs.Elements.{Spot, at, Behind, Items, InBrackets, Row}
use Rattle.pgo_mpcal_read.specs.Elements as elements
use Rattle.pgo_expr_read.specs.Steps.{and_then, pure, folded}
use Rattle.pgo_mpcal_read.specs.Reading.{Outcome, Parser, one_behind, items, some_in_brackets, in_brackets, one_more, row}
use Rattle.pgo_expr_read.proofs.Signs.{own_sign}
use Rattle.pgo_expr_read.proofs.Steps.{some_pair, bind_then, next_step}
use Rattle.pgo_mpcal_read.proofs.Parts.{Sound, Reach, front_then, expect_then, eaten_then, expect_gives, eat_true, eat_false}

-- further items were read behind those before
pub record Further {A : Type 0} (R : List Lexeme → List A → Type 0) (i : List Lexeme) (acc res : List A) (rest : List Lexeme) : Type 0 where
  pub front : List Lexeme
  pub others : List A
  pub split : i ≡ front ++ rest
  pub holds : R front others
  pub is : res ≡ acc ++ others

further_end : {A : Type 0} (R : List Lexeme → List A → Type 0) → R [] [] → (acc res : List A) (i rest : List Lexeme) → ◌≡◌ {A = Outcome (List A)} (Some (acc, i)) (Some (res, rest)) → Further R i acc res rest
further_end R none acc res i rest got = let q = some_pair _ _ _ _ got in record { front = []; others = []; split = q.1; holds = none; is = sym q.0 ∙ sym (append-nil acc) }

module _ {A : Type 0} (Item : List Lexeme → A → Type 0) (v : Symbol) (item : Parser A) (S : Sound Item item) where
  behind_by : (b : Bool) (n : ℕ) (acc : List A) (i : List Lexeme) (res : List A) (rest : List Lexeme)
      → ((next : List A) (j : List Lexeme) → folded (sees v) (one_behind v item) n next j ≡ Some (res, rest) → Further (Behind Item v) j next res rest)
      → cond b (and_then (one_behind v item acc i) (folded (sees v) (one_behind v item) n)) (Some (acc, i)) ≡ Some (res, rest) → Further (Behind Item v) i acc res rest
  unfolding one_behind
  behind_by true n acc i res rest go got =
      bind_then (one_behind v item acc i) _ _ _ got (λ next j is got.
      expect_then v i _ _ _ is (λ p i1 e1 is.
      front_then Item item S i1 _ _ _ is (λ xs a i2 e2 d is.
      let q = some_pair _ _ _ _ is in
      let g = go next j got in
      record {
        front = at p v ∷ (xs ++ g.front);
        others = a ∷ g.others;
        split = e1 ∙ ap (λ z. at p v ∷ z) (e2 ∙ ap (λ z. xs ++ z) (q.1 ∙ g.split) ∙ sym (append_assoc xs g.front rest));
        holds = elements.one_more d g.holds;
        is = g.is ∙ ap (λ z. z ++ g.others) (sym q.0) ∙ append_assoc acc (a ∷ []) g.others;
      })))
  behind_by false n acc i res rest go got = further_end (Behind Item v) elements.no_more acc res i rest got

  pub sound_behind : (n : ℕ) (acc : List A) (i : List Lexeme) (res : List A) (rest : List Lexeme) → folded (sees v) (one_behind v item) n acc i ≡ Some (res, rest) → Further (Behind Item v) i acc res rest
  unfolding folded
  sound_behind zero acc i res rest got = further_end (Behind Item v) elements.no_more acc res i rest got
  sound_behind (suc n) acc i res rest got = behind_by (sees v i) n acc i res rest (λ next j got. sound_behind n next j res rest got) got

  pub sound_items : Sound (Items Item v) (items v item)
  unfolding items
  sound_items i a rest got =
      front_then Item item S i _ _ _ got (λ xs x i1 e1 d got.
      let g = sound_behind (length i1) (x ∷ []) i1 a rest got in
      let P : List A → Type 0 = λ z. Items Item v (xs ++ g.front) z in
      record { front = xs ++ g.front; split = e1 ∙ ap (λ z. xs ++ z) g.split ∙ sym (append_assoc xs g.front rest); holds = subst P (sym g.is) (elements.items d g.holds) })

module _ {A : Type 0} (Item : List Lexeme → A → Type 0) (goes : List Lexeme → Bool) (item : Parser A) (S : Sound Item item) where
  row_by : (b : Bool) (n : ℕ) (acc : List A) (i : List Lexeme) (res : List A) (rest : List Lexeme)
      → ((next : List A) (j : List Lexeme) → folded goes (one_more item) n next j ≡ Some (res, rest) → Further (Row Item) j next res rest)
      → cond b (and_then (one_more item acc i) (folded goes (one_more item) n)) (Some (acc, i)) ≡ Some (res, rest) → Further (Row Item) i acc res rest
  unfolding one_more
  row_by true n acc i res rest go got =
      bind_then (one_more item acc i) _ _ _ got (λ next j is got.
      front_then Item item S i _ _ _ is (λ xs a i2 e2 d is.
      let q = some_pair _ _ _ _ is in
      let g = go next j got in
      record {
        front = xs ++ g.front;
        others = a ∷ g.others;
        split = e2 ∙ ap (λ z. xs ++ z) (q.1 ∙ g.split) ∙ sym (append_assoc xs g.front rest);
        holds = elements.another d g.holds;
        is = g.is ∙ ap (λ z. z ++ g.others) (sym q.0) ∙ append_assoc acc (a ∷ []) g.others;
      }))
  row_by false n acc i res rest go got = further_end (Row Item) elements.nothing acc res i rest got

  sound_more : (n : ℕ) (acc : List A) (i : List Lexeme) (res : List A) (rest : List Lexeme) → folded goes (one_more item) n acc i ≡ Some (res, rest) → Further (Row Item) i acc res rest
  unfolding folded
  sound_more zero acc i res rest got = further_end (Row Item) elements.nothing acc res i rest got
  sound_more (suc n) acc i res rest got = row_by (goes i) n acc i res rest (λ next j got. sound_more n next j res rest got) got

  pub sound_row : Sound (Row Item) (row goes item)
  sound_row i a rest got =
      let g = sound_more (length i) [] i a rest got in
      let P : List A → Type 0 = λ z. Row Item g.front z in
      record { front = g.front; split = g.split; holds = subst P (sym g.is) g.holds }

module _ {A : Type 0} (Item : List Lexeme → A → Type 0) (item : Parser A) (S : Sound Item item) where
  pub sound_in_brackets : Sound (InBrackets Item) (in_brackets item)
  unfolding in_brackets some_in_brackets
  sound_in_brackets i a rest got =
      expect_then (symbol.Open bracket.Round) i _ _ _ got (λ o i1 e1 got.
      eaten_then (symbol.Close bracket.Round) _ _ i1 _ _ got
      (λ c i2 e2 got.
      let q = some_pair _ _ _ _ got in
      let P : List A → Type 0 = λ z. InBrackets Item (at o (symbol.Open bracket.Round) ∷ (at c (symbol.Close bracket.Round) ∷ [])) z in
      record { front = at o (symbol.Open bracket.Round) ∷ (at c (symbol.Close bracket.Round) ∷ []); split = e1 ∙ ap (λ z. at o (symbol.Open bracket.Round) ∷ z) (e2 ∙ ap (λ z. at c (symbol.Close bracket.Round) ∷ z) q.1); holds = subst P q.0 elements.empty })
      (λ none got.
      front_then (Items Item symbol.Comma) (items symbol.Comma item) (sound_items Item symbol.Comma item S) i1 _ _ _ got (λ xs as' i2 e2 d got.
      expect_then (symbol.Close bracket.Round) i2 _ _ _ got (λ c i3 e3 got.
      let q = some_pair _ _ _ _ got in
      let P : List A → Type 0 = λ z. InBrackets Item (at o (symbol.Open bracket.Round) ∷ (xs ++ (at c (symbol.Close bracket.Round) ∷ []))) z in
      record {
        front = at o (symbol.Open bracket.Round) ∷ (xs ++ (at c (symbol.Close bracket.Round) ∷ []));
        split = e1 ∙ ap (λ z. at o (symbol.Open bracket.Round) ∷ z) (e2 ∙ ap (λ z. xs ++ z) (e3 ∙ ap (λ z. at c (symbol.Close bracket.Round) ∷ z) q.1) ∙ sym (append_assoc xs (at c (symbol.Close bracket.Round) ∷ []) rest));
        holds = subst P q.0 (elements.some c d);
      }))))

-- ---- what is so is read

-- such tokens may follow an item, and the list is over
abbrev pub Over : (F : List Lexeme → Type 0) (v : Symbol) → List Lexeme → Type 0
Over F v rest = F rest × (sees v rest ≡ false)

module _ {A : Type 0} (Item : List Lexeme → A → Type 0) (v : Symbol) (item : Parser A) (F : List Lexeme → Type 0) (R : Reach Item item F) (between : (p : Spot) (j : List Lexeme) → F (at p v ∷ j)) where
  behind_follows : {ys : List Lexeme} {as' : List A} → Behind Item v ys as' → (rest : List Lexeme) → F rest → F (ys ++ rest)
  behind_follows elements.no_more rest f = f
  behind_follows (elements.one_more {p = p} {xs = xs} {ys = ys} d m) rest f = between p ((xs ++ ys) ++ rest)

  pub reach_behind : {ys : List Lexeme} {as' : List A} → Behind Item v ys as' → (n : ℕ) (acc : List A) (rest : List Lexeme) → length ys ≤ n → Over F v rest
      → folded (sees v) (one_behind v item) n acc (ys ++ rest) ≡ Some (acc ++ as', rest)
  unfolding folded one_behind
  reach_behind elements.no_more zero acc rest h o = ap (λ z. Some (z, rest)) (sym (append-nil acc))
  reach_behind elements.no_more (suc n) acc rest h o = ap (λ b. cond b (and_then (one_behind v item acc rest) (folded (sees v) (one_behind v item) n)) (Some (acc, rest))) o.1 ∙ ap (λ z. Some (z, rest)) (sym (append-nil acc))
  reach_behind (elements.one_more {p = p} {xs = xs} {ys = ys} d m) zero acc rest h o = absurd (omega (arith, h))
  reach_behind (elements.one_more {p = p} {xs = xs} {ys = ys} {a = a} {as' = as'} d m) (suc n) acc rest h o =
      let flat : at p v ∷ ((xs ++ ys) ++ rest) ≡ at p v ∷ (xs ++ (ys ++ rest)) = ap (λ z. at p v ∷ z) (append_assoc xs ys rest) in
      let short : length ys ≤ n = let l = length-append xs ys in omega (arith, h, l) in
      let one : one_behind v item acc (at p v ∷ (xs ++ (ys ++ rest))) ≡ Some (acc ++ a ∷ [], ys ++ rest) =
      next_step _ _ _ _ _ (expect_gives v p (xs ++ (ys ++ rest))) (next_step _ _ _ _ _ (R xs a d (ys ++ rest) (behind_follows m rest o.0)) refl) in
      ap (λ i. cond (sees v i) (and_then (one_behind v item acc i) (folded (sees v) (one_behind v item) n)) (Some (acc, i))) flat
      ∙ ap (λ b. cond b (and_then (one_behind v item acc (at p v ∷ (xs ++ (ys ++ rest)))) (folded (sees v) (one_behind v item) n)) (Some (acc, at p v ∷ (xs ++ (ys ++ rest))))) (own_sign v)
      ∙ next_step _ _ _ _ _ one (reach_behind m n (acc ++ a ∷ []) rest short o)
      ∙ ap (λ z. Some (z, rest)) (append_assoc acc (a ∷ []) as')

  pub reach_items : Reach (Items Item v) (items v item) (Over F v)
  unfolding items
  reach_items front all (elements.items {xs = xs} {ys = ys} {a = a} {as' = as'} d m) rest o =
      ap (λ i. items v item i) (append_assoc xs ys rest)
      ∙ next_step _ _ _ _ _ (R xs a d (ys ++ rest) (behind_follows m rest o.0)) (reach_behind m (length (ys ++ rest)) (a ∷ []) rest (let l = length-append ys rest in omega (arith, l)) o)

module _ {A : Type 0} (Item : List Lexeme → A → Type 0) (item : Parser A) (F : List Lexeme → Type 0) (R : Reach Item item F)
    (comma : (p : Spot) (j : List Lexeme) → F (at p symbol.Comma ∷ j)) (close : (p : Spot) (j : List Lexeme) → F (at p (symbol.Close bracket.Round) ∷ j))
    (begins : (xs : List Lexeme) (a : A) → Item xs a → (j : List Lexeme) → sees (symbol.Close bracket.Round) (xs ++ j) ≡ false) where
  items_begin : (xs : List Lexeme) (as' : List A) → Items Item symbol.Comma xs as' → (j : List Lexeme) → sees (symbol.Close bracket.Round) (xs ++ j) ≡ false
  items_begin front all (elements.items {xs = xs} {ys = ys} {a = a} d m) j = ap (sees (symbol.Close bracket.Round)) (append_assoc xs ys j) ∙ begins xs a d (ys ++ j)

  pub reach_in_brackets : Reach (InBrackets Item) (in_brackets item) (λ rest. Unit {0})
  unfolding in_brackets some_in_brackets
  reach_in_brackets front all (elements.empty {o = o} {c = c}) rest u =
      next_step _ _ _ _ _ (expect_gives (symbol.Open bracket.Round) o (at c (symbol.Close bracket.Round) ∷ rest)) (eat_true (symbol.Close bracket.Round) (pure []) (some_in_brackets item) c rest)
  reach_in_brackets front all (elements.some {o = o} c {xs = xs} d) rest u =
      ap (λ i. in_brackets item (at o (symbol.Open bracket.Round) ∷ i)) (append_assoc xs (at c (symbol.Close bracket.Round) ∷ []) rest)
      ∙ next_step _ _ _ _ _ (expect_gives (symbol.Open bracket.Round) o (xs ++ (at c (symbol.Close bracket.Round) ∷ rest)))
      (eat_false (symbol.Close bracket.Round) (pure []) (some_in_brackets item) (xs ++ (at c (symbol.Close bracket.Round) ∷ rest)) (items_begin xs all d (at c (symbol.Close bracket.Round) ∷ rest))
      ∙ next_step _ _ _ _ _ (reach_items Item symbol.Comma item F R comma xs all d (at c (symbol.Close bracket.Round) ∷ rest) (close c rest, refl))
      (next_step _ _ _ _ _ (expect_gives (symbol.Close bracket.Round) c rest) refl))

module _ {A : Type 0} (Item : List Lexeme → A → Type 0) (goes : List Lexeme → Bool) (item : Parser A) (F : List Lexeme → Type 0) (R : Reach Item item F)
    (more : (xs : List Lexeme) (a : A) → Item xs a → (j : List Lexeme) → goes (xs ++ j) ≡ true) (follows : (xs : List Lexeme) (a : A) → Item xs a → (j : List Lexeme) → F (xs ++ j))
    (full : (xs : List Lexeme) (a : A) → Item xs a → 1 ≤ length xs) where
  row_follows : {ys : List Lexeme} {as' : List A} → Row Item ys as' → (rest : List Lexeme) → F rest → F (ys ++ rest)
  row_follows elements.nothing rest f = f
  row_follows (elements.another {xs = xs} {ys = ys} {a = a} d m) rest f = subst F (sym (append_assoc xs ys rest)) (follows xs a d (ys ++ rest))

  reach_more : {ys : List Lexeme} {as' : List A} → Row Item ys as' → (n : ℕ) (acc : List A) (rest : List Lexeme) → length ys ≤ n → F rest → goes rest ≡ false
      → folded goes (one_more item) n acc (ys ++ rest) ≡ Some (acc ++ as', rest)
  unfolding folded one_more
  reach_more elements.nothing zero acc rest h f o = ap (λ z. Some (z, rest)) (sym (append-nil acc))
  reach_more elements.nothing (suc n) acc rest h f o = ap (λ b. cond b (and_then (one_more item acc rest) (folded goes (one_more item) n)) (Some (acc, rest))) o ∙ ap (λ z. Some (z, rest)) (sym (append-nil acc))
  reach_more (elements.another {xs = xs} {ys = ys} {a = a} d m) zero acc rest h f o = absurd (let l = length-append xs ys in let k = full xs a d in omega (arith, h, l, k))
  reach_more (elements.another {xs = xs} {ys = ys} {a = a} {as' = as'} d m) (suc n) acc rest h f o =
      let short : length ys ≤ n = let l = length-append xs ys in let k = full xs a d in omega (arith, h, l, k) in
      let one : one_more item acc (xs ++ (ys ++ rest)) ≡ Some (acc ++ a ∷ [], ys ++ rest) = next_step _ _ _ _ _ (R xs a d (ys ++ rest) (row_follows m rest f)) refl in
      ap (λ i. cond (goes i) (and_then (one_more item acc i) (folded goes (one_more item) n)) (Some (acc, i))) (append_assoc xs ys rest)
      ∙ ap (λ b. cond b (and_then (one_more item acc (xs ++ (ys ++ rest))) (folded goes (one_more item) n)) (Some (acc, xs ++ (ys ++ rest)))) (more xs a d (ys ++ rest))
      ∙ next_step _ _ _ _ _ one (reach_more m n (acc ++ a ∷ []) rest short f o)
      ∙ ap (λ z. Some (z, rest)) (append_assoc acc (a ∷ []) as')

  pub reach_row : Reach (Row Item) (row goes item) (λ rest. F rest × (goes rest ≡ false))
  reach_row front all d rest o = reach_more d (length (front ++ rest)) [] rest (let l = length-append front rest in omega (arith, l)) o.0 o.1
