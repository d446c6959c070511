-- Words give constants in one way: a name is parted from its value at the first `=`.
use Rattle.std.proofs.Common.{◌≡◌, ◌+◌, ◌<◌, ℕ, zero, suc, Bool, true, false, not, ◌&&◌, ◌||◌, IsTrue, List, [], ◌∷◌, ◌++◌, length, drop, get_or, Some, None, refl, sym, ◌∙◌, ap, subst, cond, arith, append_assoc, append-nil}
use Rattle.std.proofs.lemmas.List.{drop_more}
use Rattle.std.specs.Borrow.{Bor}
use Rattle.std.specs.Prelude.{Option, is_some}
use Rattle.std.proofs.lemmas.Bool.{and_parts}
use Rattle.pgo_base.specs.Data.{Data}
use Rattle.pgo_base.specs.Lookup.{Name, same_name}
use Rattle.pgo_model.specs.Names.{same_bytes-self, same_bytes-is, same_name-self, same_name-is}
use Rattle.pgo_model.specs.ValueText.{same_bytes, is_word_byte, all_word_bytes}
use Rattle.pgo_value_text.specs.IsValueText.{is_name, IsValueText}
use Rattle.pgo_value_text.proofs.WordBytes.{name_words}
use Rattle.pgo_words.specs.Cuts.{Lacks}
use Rattle.pgo_words.specs.Constants.{IsConstant, AreConstants, has_name, names_differ, ReadsConstant, ConstantsOnly, ReadsRest}
use Rattle.pgo_words.specs.Parts.{texts}
use Rattle.pgo_words.proofs.CutLaws.{same_cut, not_lacks}

-- ---- one word

name_bytes_lack : (x : List ℕ) → all_word_bytes x ≡ true → Lacks 61 x
name_bytes_lack [] h i lt e = absurd (omega (arith, lt))
name_bytes_lack (b ∷ bs) h zero lt e =
    let w = (and_parts (is_word_byte b) (all_word_bytes bs) h).0 in
    let n : is_word_byte 61 ≡ true = subst (λ k. is_word_byte k ≡ true) e w in
    absurd (grind (arith, n))
name_bytes_lack (b ∷ bs) h (suc i) lt e = name_bytes_lack bs (and_parts (is_word_byte b) (all_word_bytes bs) h).1 i (omega (arith, lt)) e

name_lacks : (x : List ℕ) → IsTrue (is_name x) → Lacks 61 x
name_lacks x h = name_bytes_lack x (name_words x h)

-- a word without `=` is no constant
pub no_cut : (word : List ℕ) → Lacks 61 word → ReadsConstant word None
no_cut word lacks c h = not_lacks 61 c.0 h.text (subst (Lacks 61) h.word_is lacks)

-- the parts of a constant are those of its word's cut
parts_are : (word name text : List ℕ) → word ≡ name ++ (61 ∷ text) → Lacks 61 name → (c : Name × Data) → (h : IsConstant word c) → (c.0 ≡ name) × (h.text ≡ text)
parts_are word name text e lacks c h = same_cut 61 c.0 h.text name text (name_lacks c.0 h.named) lacks (sym h.word_is ∙ e)

-- a word whose front is no name is no constant
pub no_name : (word name text : List ℕ) → word ≡ name ++ (61 ∷ text) → Lacks 61 name → is_name name ≡ false → ReadsConstant word None
no_name word name text e lacks n c h =
    let p = parts_are word name text e lacks c h in
    let t : is_name name ≡ true = subst (λ x. is_name x ≡ true) p.0 h.named in
    absurd (differ (is_name name) t n)
  where
    differ : (b : Bool) → b ≡ true → b ≡ false → ⊥
    differ true t f = absurd (grind (arith, f))
    differ false t f = absurd (grind (arith, t))

-- a word whose back is no value's text is no constant
pub no_value : (word name text : List ℕ) → word ≡ name ++ (61 ∷ text) → Lacks 61 name → ((d : Data) → IsValueText text d → ⊥) → ReadsConstant word None
no_value word name text e lacks n c h =
    let p = parts_are word name text e lacks c h in n c.1 (subst (λ t. IsValueText t c.1) p.1 h.value)

-- a word that is a constant is that one alone
pub the_constant : (word name text : List ℕ) (d : Data) → word ≡ name ++ (61 ∷ text) → Lacks 61 name → is_name name ≡ true → IsValueText text d
    → ((other : Data) → IsValueText text other → other ≡ d) → ReadsConstant word (Some (name, d))
the_constant word name text d e lacks n value only = (
  record { text = text; word_is = e; named = n; value = value },
  λ c h. let p = parts_are word name text e lacks c h in let q = only c.1 (subst (λ t. IsValueText t c.1) p.1 h.value) in λ i. (p.0 i, q i),
)

-- ---- several words

other_way : (x y : List ℕ) → same_bytes x y ≡ false → same_bytes y x ≡ false
other_way x y h = go (same_bytes y x) refl
  where
    go : (b : Bool) → same_bytes y x ≡ b → b ≡ false
    go false e = refl
    go true e = absurd (let s = subst (λ z. same_bytes x z ≡ true) (sym (same_bytes-is y x e)) (same_bytes-self x) in let f : true ≡ false = sym s ∙ h in grind (arith, f))

neither : (a b : Bool) → a || b ≡ false → (a ≡ false) × (b ≡ false)
neither true b h = absurd (grind (arith, h))
neither false b h = (refl, h)

no_other : (a b : Bool) → a ≡ false → b ≡ false → a || b ≡ false
no_other a b e f = cc

has_more : (x : Name) (cs : List (Name × Data)) (c : Name × Data) → has_name x cs ≡ false → same_bytes x c.0 ≡ false → has_name x (cs ++ c ∷ []) ≡ false
has_more x [] c h s = no_other (same_bytes x c.0) false s refl
has_more x (d ∷ cs) c h s =
    let n = neither (same_bytes x d.0) (has_name x cs) h in
    no_other (same_bytes x d.0) (has_name x (cs ++ c ∷ [])) n.0 (has_more x cs c n.1 s)

joined : (a b : Bool) → a ≡ false → b ≡ true → not a && b ≡ true
joined a b e f = cc

not_false : (a : Bool) → not a ≡ true → a ≡ false
not_false true h = absurd (grind (arith, h))
not_false false h = refl

-- one name more that none of them has
differ_more : (cs : List (Name × Data)) (c : Name × Data) → names_differ cs ≡ true → has_name c.0 cs ≡ false → names_differ (cs ++ c ∷ []) ≡ true
differ_more [] c h f = refl
differ_more (d ∷ cs) c h f =
    let p = and_parts (not (has_name d.0 cs)) (names_differ cs) h in
    let n = neither (same_bytes c.0 d.0) (has_name c.0 cs) f in
    joined (has_name d.0 (cs ++ c ∷ [])) (names_differ (cs ++ c ∷ []))
    (has_more d.0 cs c (not_false (has_name d.0 cs) p.0) (other_way c.0 d.0 n.0)) (differ_more cs c p.1 n.1)

-- a name that stands again
has_again : (x : Name) (cs ds : List (Name × Data)) (c : Name × Data) → x ≡ c.0 → has_name x (cs ++ c ∷ ds) ≡ true
has_again x [] ds c e = either_true (same_bytes x c.0) (has_name x ds) (subst (λ y. same_bytes x y ≡ true) e (same_bytes-self x))
  where
    either_true : (a b : Bool) → a ≡ true → a || b ≡ true
    either_true a b h = cc
has_again x (d ∷ cs) ds c e = or_true (same_bytes x d.0) (has_name x (cs ++ c ∷ ds)) (has_again x cs ds c e)
  where
    or_true : (a b : Bool) → b ≡ true → a || b ≡ true
    or_true true b h = refl
    or_true false b h = h

pub repeated : (cs ds : List (Name × Data)) (c : Name × Data) → has_name c.0 cs ≡ true → names_differ (cs ++ c ∷ ds) ≡ true → ⊥
repeated [] ds c h n = absurd (grind (arith, h))
repeated (d ∷ cs) ds c h n = go (same_bytes c.0 d.0) refl (λ k. repeated cs ds c k parts.1)
  where
    parts : (not (has_name d.0 (cs ++ c ∷ ds)) ≡ true) × (names_differ (cs ++ c ∷ ds) ≡ true)
    parts = and_parts (not (has_name d.0 (cs ++ c ∷ ds))) (names_differ (cs ++ c ∷ ds)) n

    differ : (b : Bool) → b ≡ true → b ≡ false → ⊥
    differ true t f = absurd (grind (arith, f))
    differ false t f = absurd (grind (arith, t))

    later : (b : Bool) → same_bytes c.0 d.0 ≡ b → b ≡ false → has_name c.0 cs ≡ true
    later b e f = right (same_bytes c.0 d.0) (has_name c.0 cs) (e ∙ f) h
      where
        right : (x y : Bool) → x ≡ false → x || y ≡ true → y ≡ true
        right x y e f = cc

    go : (b : Bool) → same_bytes c.0 d.0 ≡ b → (has_name c.0 cs ≡ true → ⊥) → ⊥
    go true e again = differ (has_name d.0 (cs ++ c ∷ ds)) (has_again d.0 cs ds c (sym (same_bytes-is c.0 d.0 e))) (not_false (has_name d.0 (cs ++ c ∷ ds)) parts.0)
    go false e again = again (later false e refl)

-- a reference to no text
abbrev pub nothing : Bor (List ℕ)
nothing = record { ref_ptr = (0, 0); now = [] }

-- the next word, and what is left behind it
pub next_word : (words : List (Bor (List ℕ))) (i : ℕ) → i < length words → texts (drop i words) ≡ (get_or words i nothing).now ∷ texts (drop (i + 1) words)
next_word words i h = ap texts (drop_more words i nothing h)

pub rest_step : (words : List (List ℕ)) (read : List (Name × Data)) (w : List ℕ) (rest : List (List ℕ)) (c : Name × Data)
    → ReadsRest words read (w ∷ rest) → ReadsConstant w (Some c) → has_name c.0 read ≡ false → ReadsRest words (read ++ c ∷ []) rest
rest_step words read w rest c r rc fresh = record {
  sound = λ cs h. subst (AreConstants words) (sym (append_assoc read (c ∷ []) cs)) (r.sound (c ∷ cs) (rc.0, h));
  only = λ ds h. let g = r.only ds h in split ds g.0 g.1 g.2;
  once = differ_more read c r.once fresh;
}
  where
    split : (ds cs : List (Name × Data)) → AreConstants (w ∷ rest) cs → ds ≡ read ++ cs → (es : List (Name × Data)) × AreConstants rest es × (ds ≡ (read ++ c ∷ []) ++ es)
    split ds [] h e = absurd h
    split ds (d ∷ cs) h e = (cs, h.1, e ∙ ap (λ x. read ++ (x ∷ cs)) (rc.1 d h.0) ∙ sym (append_assoc read (c ∷ []) cs))

-- a word that is no constant
pub rest_none : (words : List (List ℕ)) (read : List (Name × Data)) (w : List ℕ) (rest : List (List ℕ))
    → ReadsRest words read (w ∷ rest) → ReadsConstant w None → ConstantsOnly words None
rest_none words read w rest r none ds h = let g = r.only ds h.each in go g.0 g.1
  where
    go : (cs : List (Name × Data)) → AreConstants (w ∷ rest) cs → ⊥
    go [] k = k
    go (c ∷ cs) k = none c k.0

-- a name that stands twice
pub rest_twice : (words : List (List ℕ)) (read : List (Name × Data)) (w : List ℕ) (rest : List (List ℕ)) (c : Name × Data)
    → ReadsRest words read (w ∷ rest) → ReadsConstant w (Some c) → has_name c.0 read ≡ true → ConstantsOnly words None
rest_twice words read w rest c r rc again ds h = let g = r.only ds h.each in go g.0 g.1 g.2
  where
    go : (cs : List (Name × Data)) → AreConstants (w ∷ rest) cs → ds ≡ read ++ cs → ⊥
    go [] k e = k
    go (d ∷ cs) k e =
        repeated read cs c again
        (subst (λ x. names_differ x ≡ true) (e ∙ ap (λ x. read ++ (x ∷ cs)) (rc.1 d k.0)) h.once)

pub rest_end : (words : List (List ℕ)) (read : List (Name × Data)) → ReadsRest words read [] → ConstantsOnly words (Some read)
rest_end words read r = (
  record { each = subst (AreConstants words) (append-nil read) (r.sound [] tt); once = r.once },
  λ ds h. let g = r.only ds h.each in go ds g.0 g.1 g.2,
)
  where
    go : (ds cs : List (Name × Data)) → AreConstants [] cs → ds ≡ read ++ cs → ds ≡ read
    go ds [] k e = e ∙ append-nil read
    go ds (c ∷ cs) k e = absurd k

-- ---- names that are noted

-- two names are one by their order where they are one by their bytes
pub same_either : (x y : Name) → same_name x y ≡ same_bytes x y
same_either x y = go (same_name x y) (same_bytes x y) refl refl
  where
    go : (b c : Bool) → same_name x y ≡ b → same_bytes x y ≡ c → b ≡ c
    go true true h k = refl
    go false false h k = refl
    go true false h k = absurd (let s : true ≡ false = sym (subst (λ z. same_bytes x z ≡ true) (same_name-is x y h) (same_bytes-self x)) ∙ k in grind (arith, s))
    go false true h k = absurd (let s : true ≡ false = sym (subst (λ z. same_name x z ≡ true) (same_bytes-is x y k) (same_name-self x)) ∙ h in grind (arith, s))

-- one name more
pub one_noted : {T : Type 0} (b c : Bool) (v : T) (o : Option T) → b ≡ c → is_some (cond b (Some v) o) ≡ c || is_some o
one_noted b c v o e = ap (λ d. is_some (cond d (Some v) o)) e ∙ go c
  where
    go : (d : Bool) → is_some (cond d (Some v) o) ≡ d || is_some o
    go true = refl
    go false = refl

-- one constant more, at the end
pub has_one_more : (x : Name) (cs : List (Name × Data)) (c : Name × Data) → same_bytes x c.0 || has_name x cs ≡ has_name x (cs ++ c ∷ [])
has_one_more x [] c = refl
has_one_more x (d ∷ cs) c = go (same_bytes x c.0) (same_bytes x d.0) (has_name x cs) (has_one_more x cs c)
  where
    go : (a b r : Bool) → a || r ≡ has_name x (cs ++ c ∷ []) → a || (b || r) ≡ b || has_name x (cs ++ c ∷ [])
    go true true r h = refl
    go false true r h = refl
    go true false r h = h
    go false false r h = h
