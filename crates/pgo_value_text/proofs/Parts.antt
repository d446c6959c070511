-- The canonical text of a set and of a function is that of its parts with the word between them.
use Rattle.std.proofs.Common.{◌≡◌, ℕ, suc, Bool, true, false, cond, List, [], ◌∷◌, ◌++◌, map, refl, sym, ◌∙◌, ap, append_assoc}
use Rattle.std.specs.Prelude.{codes}
use Rattle.std.proofs.lemmas.List.{append-nil}
use Rattle.pgo_base.specs.declared.value.Value.{Value}
use Rattle.pgo_base.specs.declared.value.Value.TheVariants.{Set, Fun}
use Rattle.pgo_base.specs.Data.{Data, set, function, items, pairs}
use Rattle.pgo_base.specs.View.{data_of, pair_of}
use Rattle.pgo_model.specs.ValueText.{value_text, items_text, sequence_text, fields_text, is_sequence_from, all_fields}
use Rattle.pgo_model.specs.ValueText as text
use Rattle.pgo_value_text.specs.declared.write.FunctionForm.{FunctionForm}
use Rattle.pgo_value_text.specs.declared.write.FunctionForm.TheVariants.{Tuple, Record, Mapping}
use Rattle.pgo_value_text.specs.Writing.{parts_text, opening, closing, pair_text, pairs_text, set_text, function_text}

-- a part, the word and the rest
more : (a w b c : List ℕ) → b ≡ c → (a ++ w) ++ b ≡ a ++ (w ++ c)
more a w b c e = append_assoc a w b ∙ ap (λ l. a ++ (w ++ l)) e

items_from : (n : ℕ) (x : Data) (xs : List Data) → items_text (items (x ∷ xs)) ≡ value_text x ++ parts_text (codes ", ") value_text (suc n) xs
items_from n x [] = sym (append-nil (value_text x))
items_from n x (y ∷ ys) = more (value_text x) (codes ", ") _ _ (items_from (suc n) y ys)

pub items_parts : (xs : List Data) → items_text (items xs) ≡ parts_text (codes ", ") value_text 0 xs
items_parts [] = refl
items_parts (x ∷ xs) = items_from 0 x xs

sequence_from : (n : ℕ) (p : Data × Data) (ps : List (Data × Data)) → sequence_text (pairs (p ∷ ps)) ≡ pair_text Tuple p ++ parts_text (codes ", ") (pair_text Tuple) (suc n) ps
sequence_from n p [] = sym (append-nil (pair_text Tuple p))
sequence_from n p (q ∷ qs) = more (pair_text Tuple p) (codes ", ") _ _ (sequence_from (suc n) q qs)

pub sequence_parts : (ps : List (Data × Data)) → sequence_text (pairs ps) ≡ pairs_text Tuple ps
sequence_parts [] = refl
sequence_parts (p ∷ ps) = sequence_from 0 p ps

fields_from : (n : ℕ) (p : Data × Data) (ps : List (Data × Data)) → fields_text (pairs (p ∷ ps)) ≡ pair_text Record p ++ parts_text (codes ", ") (pair_text Record) (suc n) ps
fields_from n p [] = sym (append-nil (pair_text Record p))
fields_from n p (q ∷ qs) = more (pair_text Record p) (codes ", ") _ _ (fields_from (suc n) q qs)

pub fields_parts : (ps : List (Data × Data)) → fields_text (pairs ps) ≡ pairs_text Record ps
fields_parts [] = refl
fields_parts (p ∷ ps) = fields_from 0 p ps

mappings_from : (n : ℕ) (p : Data × Data) (ps : List (Data × Data)) → text.pairs_text (pairs (p ∷ ps)) ≡ pair_text Mapping p ++ parts_text (codes " @@ ") (pair_text Mapping) (suc n) ps
mappings_from n p [] = sym (append-nil (pair_text Mapping p))
mappings_from n p (q ∷ qs) = more (pair_text Mapping p) (codes " @@ ") _ _ (mappings_from (suc n) q qs)

pub mappings_parts : (ps : List (Data × Data)) → text.pairs_text (pairs ps) ≡ pairs_text Mapping ps
mappings_parts [] = refl
mappings_parts (p ∷ ps) = mappings_from 0 p ps

-- the text of a function in this form
abbrev in_form : List (Data × Data) → FunctionForm → List ℕ
in_form ps f = opening f ++ pairs_text f ps ++ closing f

by_form : (ps : List (Data × Data)) (s r : Bool) (a b c : List ℕ) → a ≡ in_form ps Tuple → b ≡ in_form ps Record → c ≡ in_form ps Mapping
    → cond s a (cond r b c) ≡ in_form ps (cond s Tuple (cond r Record Mapping))
by_form ps true r a b c e f g = e
by_form ps false true a b c e f g = f
by_form ps false false a b c e f g = g

pub function_parts : (ps : List (Data × Data)) → value_text (function (pairs ps)) ≡ function_text ps
function_parts ps =
    by_form ps (is_sequence_from 1 (pairs ps)) (all_fields (pairs ps)) _ _ _
    (ap (λ l. codes "<<" ++ l ++ codes ">>") (sequence_parts ps))
    (ap (λ l. codes "[" ++ l ++ codes "]") (fields_parts ps))
    (ap (λ l. codes "(" ++ l ++ codes ")") (mappings_parts ps))

pub set_parts : (xs : List Data) → value_text (set (items xs)) ≡ set_text xs
set_parts xs = ap (λ l. codes "{" ++ l ++ codes "}") (items_parts xs)

pub set_written : (v : Value) (s : List Data) (xs : List Value) → v ≡ Set s → map data_of xs ≡ s → set_text (map data_of xs) ≡ value_text (data_of v)
set_written v s xs e h = rw (e, ← h) (sym (set_parts (map data_of xs)))

pub function_written : (v : Value) (f : List (Data × Data)) (ps : List (Value × Value)) → v ≡ Fun f → map pair_of ps ≡ f → function_text (map pair_of ps) ≡ value_text (data_of v)
function_written v f ps e h = rw (e, ← h) (sym (function_parts (map pair_of ps)))
