-- What the words of constants give are values.
use Rattle.std.proofs.Common.{◌≡◌, ℕ, List, [], ◌∷◌}
use Rattle.std.specs.List.{AllByRecursion}
use Rattle.pgo_base.specs.Data.{Data, items, pairs}
use Rattle.pgo_base.specs.Lookup.{Name}
use Rattle.pgo_model.specs.State.{AllValues}
use Rattle.pgo_model.specs.Value.{IsValue, AreValues, ArePairs}
use Rattle.pgo_log_text.specs.IsBundle.{IsCanonicalValue, AreCanonical}
use Rattle.pgo_value_text.specs.IsValueText.{IsValueText}
use Rattle.pgo_execute.specs.Schedules.{Schedule, Turns, Rounds, Threads}
use Rattle.pgo_model.specs.Core.{Settings}
use Rattle.pgo_accept.proofs.TextValues.{OfPair, OfTexts, text_value}
use Rattle.pgo_words.specs.Constants.{AreConstants}
use Rattle.pgo_front.specs.declared.target.Target.{Target}
use Rattle.pgo_front.specs.declared.target.Target.TheVariants as targets
use Rattle.pgo_front.specs.Asked.{AsksExecution, AsksTranslation}

all_values : (xs : List Data) → AllByRecursion IsValue xs → AreValues (items xs)
all_values [] hs = tt
all_values (x ∷ xs) hs = (hs.0, all_values xs hs.1)

all_pairs : (ps : List (Data × Data)) → AllByRecursion (OfPair IsValue) ps → ArePairs (pairs ps)
all_pairs [] hs = tt
all_pairs (p ∷ ps) hs = (hs.0.0, hs.0.1, all_pairs ps hs.1)

value_texts : OfTexts IsValue
value_texts = record {
  of_truth = λ b. tt;
  of_number = λ z fits. fits;
  of_string = λ s h. tt;
  of_name = λ x h. tt;
  of_field = λ x h. tt;
  of_set = λ xs hs o few. (all_values xs hs, o);
  of_function = λ ps hs o few. (all_pairs ps hs, o);
}

constants_are_values : (ws : List (List ℕ)) (cs : List (Name × Data)) → AreConstants ws cs → AllValues cs
constants_are_values ws [] h = tt
constants_are_values [] (c ∷ cs) h = absurd h
constants_are_values (w ∷ ws) (c ∷ cs) h = (text_value IsValue value_texts h.0.text c.1 h.0.value, constants_are_values ws cs h.1)

-- and texts spell them
constants_are_canonical : ((text : List ℕ) (v : Data) → IsValueText text v → IsCanonicalValue v) → (ws : List (List ℕ)) (cs : List (Name × Data)) → AreConstants ws cs → AreCanonical cs
constants_are_canonical read ws [] h = tt
constants_are_canonical read [] (c ∷ cs) h = absurd h
constants_are_canonical read (w ∷ ws) (c ∷ cs) h = (read h.0.text c.1 h.0.value, constants_are_canonical read ws cs h.1)

-- those of a translation
pub translation_constants : (words : List (List ℕ)) (target : Target) (consts : List (Name × Data)) → AsksTranslation target words consts → AllValues consts
translation_constants words targets.Expansion consts a = constants_are_values a.rest consts a.consts_are.each
translation_constants words targets.Module consts a = constants_are_values a.rest consts a.consts_are.each

-- those of a run
pub run_constants : ((text : List ℕ) (v : Data) → IsValueText text v → IsCanonicalValue v) → (words : List (List ℕ)) (schedule : Schedule) (settings : Settings)
    (consts : List (Name × Data)) → AsksExecution words schedule settings consts → AreCanonical consts
run_constants read words (Turns ts) settings consts a = constants_are_canonical read a.parts.rest consts a.parts.consts_are.each
run_constants read words Rounds settings consts a = absurd a
run_constants read words Threads settings consts a = constants_are_canonical read a.parts.rest consts a.parts.consts_are.each
