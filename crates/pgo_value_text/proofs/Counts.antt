-- Whether a set or a function has too many members, by those in memory.
use Rattle.std.proofs.Common.{◌≡◌, Bool, true, false, ◌&&◌, nat_le, List, length, map, ◌∙◌, ap}
use Rattle.std.proofs.lemmas.List.{length-map}
use Rattle.pgo_base.specs.declared.value.Value.{Value}
use Rattle.pgo_base.specs.declared.value.Value.TheVariants.{Set, Fun}
use Rattle.pgo_base.specs.Data.{Data, items, pairs, members-items, graph-pairs}
use Rattle.pgo_base.specs.View.{data_of, pair_of}
use Rattle.pgo_value_text.specs.IsValueText.{is_small, are_small, all_small}

pub set_members : (v : Value) (s : List Data) (xs : List Value) → v ≡ Set s → map data_of xs ≡ s
    → is_small (data_of v) ≡ (nat_le (length xs) 65536 && are_small (items (map data_of xs)))
set_members v s xs e h =
    rw (e, ← h) (λ i. nat_le ((ap length (members-items (map data_of xs)) ∙ length-map xs data_of) i) 65536 && are_small (items (map data_of xs)))

pub function_pairs : (v : Value) (f : List (Data × Data)) (ps : List (Value × Value)) → v ≡ Fun f → map pair_of ps ≡ f
    → is_small (data_of v) ≡ (nat_le (length ps) 65536 && all_small (pairs (map pair_of ps)))
function_pairs v f ps e h =
    rw (e, ← h) (λ i. nat_le ((ap length (graph-pairs (map pair_of ps)) ∙ length-map ps pair_of) i) 65536 && all_small (pairs (map pair_of ps)))

-- both tests, where the first passes, and where it fails
pub both : (a b c : Bool) → a ≡ true → c ≡ b → c ≡ (a && b)
both true b c h e = e
both false b c h e = absurd (cc)

pub not_both : (a b c : Bool) → a ≡ false → c ≡ false → c ≡ (a && b)
not_both true b c h e = absurd (cc)
not_both false b c h e = e
