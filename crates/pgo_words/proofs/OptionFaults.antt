-- When a command of options fails, and its matches.
use Rattle.std.proofs.Common.{◌≡◌, ◌∙◌, Bool, cond, true, false, refl, sym, ap, List, [], ◌∷◌, Option, None, is_some, codes}
use Rattle.clap.specs.Walk.{Held, Row, Text, Walk, finished, nothing_held, rows_after, settled, walk}
use Rattle.clap.specs.Faults.{built_fault, check_fault, defaults_fault, entered_fault, fault_of, is_simple_and_free, level_fault, settle_fault, walk_fault}
use Rattle.clap.specs.Kinds.{Kinds, or_else}
use Rattle.clap.specs.Simple.{App, argument_words, built, entered, is_simple, matches_of}
use Rattle.clap.specs.declared.error.kind.ErrorKind.TheVariants as kind
use Rattle.pgo_words.specs.Commands.{command_of, options_of}
use Rattle.pgo_words.specs.Options.{AreOptions}
use Rattle.pgo_words.proofs.OptionSteps.{at}
use Rattle.pgo_words.proofs.OptionRows.{option_rules, option_rows, option_shape, names_of, no_default, no_default_fault, check_is, is_missing}
use Rattle.pgo_words.proofs.OptionWalks.{AreKnown, AreWritten, ends, fails, has_kind, names_known, nothing_first, nothing_then, or_else-assoc, still, walk_ends, walk_fails, words_of}
use Rattle.pgo_words.proofs.OptionUses.{options_differ, options_pass}

module _ (name : Text) (ps : List (Bool × Text)) where
  abbrev app : App
  app = record { top = option_shape name ps; subs = [] }

  all_known : (os : List (Text × Text)) → AreOptions (names_of ps) os → AreKnown ps os
  all_known [] h = tt
  all_known (o ∷ os) h = (h.0, all_known os h.2)

  all_pass : (os : List (Text × Text)) → AreOptions (names_of ps) os
      → (fails name ps [] None os ≡ []) × ((settled (option_rules ps) (ends name ps [] None os).held).rows ≡ option_rows os)
  unfolding fails ends
  all_pass [] h = (refl, refl)
  all_pass (o ∷ os) h = options_pass name ps [] o os h

  all_differ : (os : List (Text × Text)) → AreKnown ps os → fails name ps [] None os ≡ [] → AreOptions (names_of ps) os
  unfolding fails
  all_differ [] k e = tt
  all_differ (o ∷ os) k e = options_differ name ps [] o os tt k e

  -- the last checks, at the rows that are left
  abbrev last : List Row → Kinds
  last rows = check_fault (option_shape name ps) rows false

  abbrev by_stop : List Text → Option (Text × List Text) → Kinds
  by_stop words stop = level_fault (option_shape name ps) [] nothing_held words (is_some (entered app stop)) (entered_fault app stop)

  abbrev by_end : Kinds → Held → Kinds
  by_end first end = or_else first (or_else (settle_fault (option_rules ps) false end)
      (or_else (defaults_fault (settled (option_rules ps) end).rows (option_rules ps)) (last (finished (option_rules ps) end))))

  -- what may fail at options that the command has
  faults : (os : List (Text × Text)) → AreWritten os → AreKnown ps os
      → built_fault app nothing_held (words_of os) ≡ or_else (fails name ps [] None os) (last (settled (option_rules ps) (ends name ps [] None os).held).rows)
  faults os w k =
      let end = walk_ends name ps [] None os w k in
      let first = walk_fault (option_shape name ps) [] (at [] None) (words_of os) in
      let stop : (walk (option_rules ps) [] nothing_held (words_of os)).stopped ≡ None = ap (λ (w : Walk). w.stopped) end ∙ still name ps [] None os in
      let last_held = (ends name ps [] None os).held in
      ap (by_stop (words_of os)) stop
      ∙ ap (λ (w : Walk). by_end first w.held) end
      ∙ ap (λ ks. or_else first (or_else (settle_fault (option_rules ps) false last_held) (or_else ks (last (finished (option_rules ps) last_held))))) (no_default_fault ps (settled (option_rules ps) last_held).rows)
      ∙ ap (λ rs. or_else first (or_else (settle_fault (option_rules ps) false last_held) (last rs))) (no_default ps (settled (option_rules ps) last_held).rows)
      ∙ sym (or_else-assoc first (settle_fault (option_rules ps) false last_held) _)
      ∙ ap (λ ks. or_else ks (last (settled (option_rules ps) last_held).rows)) (walk_fails name ps [] None os w k)

  -- where nothing fails, the options are the command's, each once, and what is required is there
  pub sound : (os : List (Text × Text)) → AreWritten os → built_fault app nothing_held (words_of os) ≡ [] → AreOptions (names_of ps) os × (is_missing ps os ≡ false)
  sound os w e =
      let k = names_known name ps [] None os w (nothing_first _ _ e) in
      let is = sym (faults os w k) ∙ e in
      let h = all_differ os k (nothing_first _ _ is) in
      (h, go (is_missing ps os) (sym (check_is name ps os) ∙ ap last (sym (all_pass os h).1) ∙ nothing_then _ _ is))
    where
      go : (b : Bool) → cond b (kind.MissingRequiredArgument ∷ []) [] ≡ [] → b ≡ false
      go true h = absurd (has_kind h)
      go false h = refl

  -- at such options nothing fails
  pub complete : (os : List (Text × Text)) → AreWritten os → AreOptions (names_of ps) os → is_missing ps os ≡ false → built_fault app nothing_held (words_of os) ≡ []
  complete os w h m =
      let pass = all_pass os h in
      faults os w (all_known os h) ∙ ap (λ ks. or_else ks (last (settled (option_rules ps) (ends name ps [] None os).held).rows)) pass.0
      ∙ ap last pass.1 ∙ check_is name ps os ∙ ap (λ b. cond b (kind.MissingRequiredArgument ∷ []) []) m

  -- and each is a row
  pub rows_are : (os : List (Text × Text)) → AreWritten os → AreOptions (names_of ps) os → rows_after (option_rules ps) [] (words_of os) ≡ option_rows os
  rows_are os w h =
      ap (λ (w : Walk). finished (option_rules ps) w.held) (walk_ends name ps [] None os w (all_known os h))
      ∙ no_default ps (settled (option_rules ps) (ends name ps [] None os).held).rows ∙ (all_pass os h).1

-- ---- the commands of `step` and `run`

built_is : (is_step : Bool) → built (command_of is_step) ≡ record { top = option_shape (codes "options") (options_of is_step); subs = [] }
built_is true = refl
built_is false = refl

pub simple : (is_step : Bool) → is_simple_and_free (command_of is_step) ≡ true
simple true = refl
simple false = refl

pub simple_alone : (is_step : Bool) → is_simple (command_of is_step) ≡ true
simple_alone true = refl
simple_alone false = refl

same_words : (is_step : Bool) (words : List Text) → argument_words (command_of is_step) words ≡ words
same_words true words = refl
same_words false words = refl

pub fault_is : (is_step : Bool) (words : List Text) → fault_of (command_of is_step) words ≡ built_fault (app (codes "options") (options_of is_step)) nothing_held words
fault_is is_step words = λ i. built_fault (built_is is_step i) nothing_held (same_words is_step words i)

pub matches_are : (is_step : Bool) (words : List Text) → matches_of (command_of is_step) words ≡ rows_after (option_rules (options_of is_step)) [] words
matches_are true words = refl
matches_are false words = refl
