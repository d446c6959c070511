-- Lines one behind the other, and fields of a line.
use Rattle.std.proofs.Common.{◌≡◌, ◌<◌, ◌≤◌, ◌+◌, min, ℕ, zero, suc, length, get_or, drop, List, [], ◌∷◌, ◌++◌, map, refl, ap, sym, ◌∙◌, append_assoc, append-nil, add-one, arith}
use Rattle.std.proofs.lemmas.List.{length-map}
use Rattle.std.specs.List.{flat_map}
use Rattle.pgo_base.specs.declared.log.Change.{Change}
use Rattle.pgo_base.specs.declared.value.Value.{Value}
use Rattle.pgo_base.specs.Lookup.{Vars}
use Rattle.pgo_base.specs.View.{named_data}
use Rattle.pgo_model.specs.LogView.{change_view}
use Rattle.std.specs.Prelude.{codes, decimal}
use Rattle.pgo_model.specs.Bundle.{fields, value_line}
use Rattle.pgo_model.specs.ModuleText.{Line, line, flatten}
use Rattle.pgo_model.specs.System.{Resource}
use Rattle.pgo_syntax.specs.declared.bound.Instance.{Instance}
use Rattle.pgo_journal.specs.declared.finished.Account.{Account}
use Rattle.pgo_module_write.proofs.Joins.{flatten_more, lines_joined, drop_step}
use Rattle.pgo_log_write.specs.declared.line.Field.{Field}
use Rattle.pgo_log_write.specs.Fields.{field_text}
use Rattle.pgo_log_write.specs.Lines.{account_rows, accounts_rows}

-- ---- fields

abbrev pub behind_blank : List Field → List ℕ
behind_blank fs = flat_map (λ f. codes " " ++ field_text f) fs

pub fields_listed : (f : Field) (fs : List Field) → fields (map field_text (f ∷ fs)) ≡ field_text f ++ behind_blank fs
fields_listed f [] = sym (append-nil (field_text f))
fields_listed f (g ∷ fs) =
    ap (λ t. field_text f ++ codes " " ++ t) (fields_listed g fs)
    ∙ regroup (field_text f) (codes " ") (field_text g) (behind_blank fs)
  where
    regroup : (a b c d : List ℕ) → a ++ b ++ (c ++ d) ≡ a ++ (b ++ c ++ d)
    regroup a b c d = simp append_assoc refl

pub value_fields : (x v : List ℕ) → fields (x ∷ codes "=" ∷ v ∷ []) ≡ x ++ codes " = " ++ v
value_fields x v = append_assoc x (codes " ") (codes "= " ++ v) ∙ sym (append_assoc x (codes " = ") v)

pub set_fields : (x v : List ℕ) → fields (codes "set" ∷ x ∷ codes "=" ∷ v ∷ []) ≡ codes "set " ++ x ++ codes " = " ++ v
set_fields x v = ap (λ t. codes "set " ++ t) (value_fields x v)

-- ---- lines

-- lines behind what was written, with those of the rest
lines_step : (a b whole : List ℕ) (ls more all : List Line) → b ≡ a ++ flatten ls → all ≡ ls ++ more → a ++ flatten all ≡ whole → b ++ flatten more ≡ whole
lines_step a b whole ls more all e h k =
    ap (λ t. t ++ flatten more) e ∙ append_assoc a (flatten ls) (flatten more) ∙ ap (λ t. a ++ t) (sym (flatten_more ls more) ∙ sym (ap flatten h)) ∙ k

-- a loop over items, each with the lines of its number
pub each_step : {A B : Type 0} (see : A → B) (own : ℕ → B → List Line) (all : ℕ → List B → List Line) → ((n : ℕ) (x : B) (xs : List B) → all n (x ∷ xs) ≡ own n x ++ all (suc n) xs)
    → (xs : List A) (i n m : ℕ) (x : A) (a b whole : List ℕ) → i < length xs → x ≡ get_or xs i x → m ≡ suc n → b ≡ a ++ flatten (own n (see x))
    → a ++ flatten (all n (map see (drop i xs))) ≡ whole
    → b ++ flatten (all m (map see (drop (i + 1) xs))) ≡ whole
each_step see own all law xs i n m x a b whole below is next g k =
    lines_step a b whole (own n (see x)) (all m (map see (drop (i + 1) xs))) (all n (map see (drop i xs))) g
    (ap (λ ys. all n (map see ys)) (drop_step xs i x below is) ∙ law n (see x) (map see (drop (i + 1) xs)) ∙ ap (λ q. own n (see x) ++ all q (map see (drop (i + 1) xs))) (sym next))
    k

-- ---- accounts

-- a loop over instances and their accounts
pub account_step : (rs : List Resource) (xs : List Instance) (ys : List Account) (k : ℕ) (x : Instance) (y : Account) (a b whole : List ℕ)
    → k < length xs → x ≡ get_or xs k x → k < length ys → y ≡ get_or ys k y
    → b ≡ a ++ flatten (account_rows rs k x y)
    → a ++ flatten (accounts_rows rs k (drop k xs) (drop k ys)) ≡ whole
    → b ++ flatten (accounts_rows rs (k + 1) (drop (k + 1) xs) (drop (k + 1) ys)) ≡ whole
account_step rs xs ys k x y a b whole hx ex hy ey g inv =
    lines_step a b whole (account_rows rs k x y) (accounts_rows rs (k + 1) (drop (k + 1) xs) (drop (k + 1) ys)) _ g
    ((λ j. accounts_rows rs k (drop_step xs k x hx ex j) (drop_step ys k y hy ey j))
    ∙ (λ j. account_rows rs k x y ++ accounts_rows rs (sym (add-one k) j) (drop (k + 1) xs) (drop (k + 1) ys)))
    inv

no_account : (rs : List Resource) (k : ℕ) (xs : List Instance) (ys : List Account) → ys ≡ [] → accounts_rows rs k xs ys ≡ []
no_account rs k [] ys e = refl
no_account rs k (x ∷ xs) ys e = ap (accounts_rows rs k (x ∷ xs)) e

-- where one of both is at its end there is no more
pub rows_end : (rs : List Resource) (n k : ℕ) (xs : List Instance) (ys : List Account) → min (length xs) (length ys) ≤ k → accounts_rows rs n (drop k xs) (drop k ys) ≡ []
rows_end rs n zero [] ys h = refl
rows_end rs n (suc k) [] ys h = refl
rows_end rs n zero (x ∷ xs) [] h = refl
rows_end rs n (suc k) (x ∷ xs) [] h = no_account rs n (drop k xs) [] refl
rows_end rs n zero (x ∷ xs) (y ∷ ys) h = absurd (omega (arith, h))
rows_end rs n (suc k) (x ∷ xs) (y ∷ ys) h = rows_end rs n k xs ys (let e : min (length xs) (length ys) ≤ k = omega (arith, h) in e)

-- ---- values and entries as a whole

pub values_are : (word : List ℕ) (values : List (List ℕ × Value)) (s : Vars) → map named_data values ≡ s
    → flatten (line (fields (word ∷ decimal (length values) ∷ [])) ∷ map value_line (map named_data values)) ≡ flatten (line (fields (word ∷ decimal (length s) ∷ [])) ∷ map value_line s)
values_are word values s e =
    let size : length values ≡ length s = sym (length-map values named_data) ∙ ap length e in
    λ j. flatten (line (fields (word ∷ decimal (size j) ∷ [])) ∷ map value_line (e j))

-- ---- entries

pub step_joined : (n instance attempt : ℕ) (label next label' next' : List ℕ) (m : ℕ) (cs : List Change) (q q' : List ℕ) → label ≡ label' → next ≡ next' → m ≡ length cs → q ≡ q'
    → line (fields (codes "step" ∷ decimal n ∷ decimal instance ∷ decimal attempt ∷ label ∷ next ∷ decimal m ∷ q ∷ []))
    ≡ line (fields (codes "step" ∷ decimal n ∷ decimal instance ∷ decimal attempt ∷ label' ∷ next' ∷ decimal (length (map change_view cs)) ∷ q' ∷ []))
step_joined n instance attempt label next label' next' m cs q q' el en em eq =
    let size : m ≡ length (map change_view cs) = em ∙ sym (length-map cs change_view) in
    λ j. line (fields (codes "step" ∷ decimal n ∷ decimal instance ∷ decimal attempt ∷ el j ∷ en j ∷ decimal (size j) ∷ eq j ∷ []))

-- lines behind those that were written
after : (a b : List ℕ) (ls ms : List Line) (c : List ℕ) → b ≡ a ++ flatten ls → c ≡ b ++ flatten ms → c ≡ a ++ flatten (ls ++ ms)
after a b ls ms c h k = lines_joined a b c ls ms h k

-- an entry's first line, its changes, its prints, and the notes behind it
pub logged_joined : (old b1 b2 b3 : List ℕ) (first : Line) (changes prints notes : List Line) → b1 ≡ old ++ first → b2 ≡ b1 ++ flatten changes → b3 ≡ b2 ++ flatten prints
    → b3 ++ flatten notes ≡ old ++ flatten (first ∷ (changes ++ (prints ++ notes)))
logged_joined old b1 b2 b3 first changes prints notes h1 h2 h3 =
    let s1 : b1 ≡ old ++ flatten (first ∷ []) = h1 ∙ ap (λ t. old ++ t) (sym (append-nil first)) in
    let s2 : b2 ≡ old ++ flatten ((first ∷ []) ++ changes) = lines_joined old b1 b2 (first ∷ []) changes s1 h2 in
    let s3 : b3 ≡ old ++ flatten ((first ∷ []) ++ changes ++ prints) = lines_joined old b2 b3 ((first ∷ []) ++ changes) prints s2 h3 in
    lines_joined old b3 (b3 ++ flatten notes) ((first ∷ []) ++ changes ++ prints) notes s3 refl
    ∙ ap (λ ls. old ++ flatten ls) (ap (λ ls. first ∷ ls) (append_assoc changes prints notes))

-- ---- the whole

-- the lines before the log
pub head_joined : (old b1 b2 b3 : List ℕ) (version consts : Line) (cs : List Line) (size : Line) (text : List ℕ)
    → b1 ≡ old ++ version → b2 ≡ b1 ++ flatten (consts ∷ cs) → b3 ≡ b2 ++ size ++ text → b3 ≡ old ++ (flatten ((version ∷ consts ∷ []) ++ cs ++ (size ∷ [])) ++ text)
head_joined old b1 b2 b3 version consts cs size text e1 e2 e3 =
    let l2 = (version ∷ consts ∷ []) ++ cs in
    let h1 : b1 ≡ old ++ flatten (version ∷ []) = e1 ∙ ap (λ t. old ++ t) (sym (append-nil version)) in
    let h2 : b2 ≡ old ++ flatten l2 = lines_joined old b1 b2 (version ∷ []) (consts ∷ cs) h1 e2 in
    let h3 : b2 ++ size ≡ old ++ flatten (l2 ++ (size ∷ [])) = lines_joined old b2 (b2 ++ size) l2 (size ∷ []) h2 (ap (λ t. b2 ++ t) (sym (append-nil size))) in
    e3 ∙ ap (λ t. t ++ text) h3 ∙ append_assoc old (flatten (l2 ++ (size ∷ []))) text

-- the start, what stands before the entries, the entries, the accounts and the end
pub log_joined : (old b1 b2 b3 b4 b5 : List ℕ) (init : Line) (ss notes es accounts : List Line) (last : Line)
    → b1 ≡ old ++ flatten (init ∷ ss) → b2 ≡ b1 ++ flatten notes → b3 ≡ b2 ++ flatten es → b4 ≡ b3 ++ flatten accounts → b5 ≡ b4 ++ last
    → b5 ≡ old ++ flatten ((init ∷ []) ++ ss ++ (notes ++ es) ++ accounts ++ (last ∷ []))
log_joined old b1 b2 b3 b4 b5 init ss notes es accounts last e1 e2 e3 e4 e5 =
    let h2 : b2 ≡ old ++ flatten ((init ∷ ss) ++ notes) = lines_joined old b1 b2 (init ∷ ss) notes e1 e2 in
    let h3 : b3 ≡ old ++ flatten ((init ∷ ss) ++ notes ++ es) = lines_joined old b2 b3 ((init ∷ ss) ++ notes) es h2 e3 in
    let h3 : b3 ≡ old ++ flatten ((init ∷ ss) ++ (notes ++ es)) = h3 ∙ ap (λ ls. old ++ flatten ls) (append_assoc (init ∷ ss) notes es) in
    let h4 : b4 ≡ old ++ flatten ((init ∷ ss) ++ (notes ++ es) ++ accounts) = lines_joined old b3 b4 ((init ∷ ss) ++ (notes ++ es)) accounts h3 e4 in
    lines_joined old b4 b5 ((init ∷ ss) ++ (notes ++ es) ++ accounts) (last ∷ []) h4 (e5 ∙ ap (λ t. b4 ++ t) (sym (append-nil last)))

-- the head, the lines of the start, the notes before the entries, the entries, the accounts and the end
pub whole_joined : (b1 b2 b3 b4 head : List ℕ) (first notes es accounts : List Line) (last : Line)
    → b1 ≡ [] ++ head → b2 ≡ b1 ++ flatten (first ++ notes ++ es) → b3 ≡ b2 ++ flatten accounts → b4 ≡ b3 ++ last
    → b4 ≡ head ++ flatten (first ++ (notes ++ es) ++ accounts ++ (last ∷ []))
whole_joined b1 b2 b3 b4 head first notes es accounts last e1 e2 e3 e4 =
    let h2 : b2 ≡ head ++ flatten (first ++ (notes ++ es)) = e2 ∙ ap (λ t. t ++ flatten (first ++ notes ++ es)) e1 ∙ ap (λ ls. head ++ flatten ls) (append_assoc first notes es) in
    let h3 : b3 ≡ head ++ flatten (first ++ (notes ++ es) ++ accounts) = lines_joined head b2 b3 (first ++ (notes ++ es)) accounts h2 e3 in
    lines_joined head b3 b4 (first ++ (notes ++ es) ++ accounts) (last ∷ []) h3 (e4 ∙ ap (λ t. b3 ++ t) (sym (append-nil last)))
