-- What a command of `clap` says of options that words were cut into.
use Rattle.std.proofs.Common.{◌≡◌, ◌∙◌, ℕ, Bool, sym, ap, subst, List, [], take, drop, codes, is_some}
use Rattle.std.specs.Borrow.{Bor}
use Rattle.clap.specs.Faults.{fault_of}
use Rattle.clap.specs.Kinds.{IsAmong}
use Rattle.clap.specs.Simple.{matches_of}
use Rattle.clap.specs.Walk.{first_of}
use Rattle.clap.specs.declared.error.kind.ErrorKind.{ErrorKind}
use Rattle.pgo_words.specs.Commands.{command_of, options_of}
use Rattle.pgo_words.specs.Options.{find_bytes, option_words, AreOptions}
use Rattle.pgo_words.specs.Parts.{HasOptions, Pairs, Parts, texts}
use Rattle.pgo_words.proofs.OptionCuts.{front_words, one_cut}
use Rattle.pgo_words.proofs.OptionFaults.{complete, fault_is, matches_are, rows_are, sound}
use Rattle.pgo_words.proofs.OptionParts.{dashed_all, names_are, none_missing, options_for, parts_of, plain_values, turns_there, values_same, with_dashes, without_dashes, words_same, written}
use Rattle.pgo_words.proofs.OptionRows.{names_of, rows_first}
use Rattle.pgo_words.proofs.OptionSteps.{dashed}
use Rattle.pgo_words.proofs.OptionWalks.{words_of}

module _ (is_step : Bool) (ws : List (Bor (List ℕ))) (end : ℕ) (os : Pairs) (p : Parts (texts ws) os (texts (drop end ws))) where
  -- where nothing fails, the options are those of the command, and the matches have their values
  pub reads : fault_of (command_of is_step) (texts (take end ws)) ≡ []
      → HasOptions is_step (texts ws) os (texts (drop end ws)) × ((n : List ℕ) → first_of n (matches_of (command_of is_step) (texts (take end ws))) ≡ find_bytes (dashed n) os)
  reads e =
      let w = written os p.formed in
      let given : texts (take end ws) ≡ words_of w.0 = front_words ws end os p.words_are ∙ ap option_words w.1 ∙ words_same w.0 in
      let none = sym (fault_is is_step (words_of w.0)) ∙ ap (fault_of (command_of is_step)) (sym given) ∙ e in
      let s = sound (codes "options") (options_of is_step) w.0 w.2 none in
      let dashes = subst (λ ns. AreOptions ns (dashed_all w.0)) (names_are is_step) (with_dashes (names_of (options_of is_step)) w.0 s.0) in
      let rows = matches_are is_step (words_of w.0) ∙ rows_are (codes "options") (options_of is_step) w.0 w.2 s.0 in (
        record {
          words_are = p.words_are;
          options_are = subst (AreOptions (options_for is_step)) (sym w.1) dashes;
          turns_given = λ t. ap (λ q. is_some (find_bytes (codes "--turns") q)) w.1 ∙ turns_there is_step w.0 s.1 t;
          values_plain = plain_values os p.formed;
          rest_plain = p.plain;
        },
        λ n. ap (λ words. first_of n (matches_of (command_of is_step) words)) given ∙ ap (first_of n) rows ∙ rows_first n w.0 ∙ sym (values_same n w.0)
            ∙ ap (find_bytes (dashed n)) (sym w.1),
      )

  -- where something fails, the words have no options of the command
  pub refuses : (k : ErrorKind) → IsAmong k (fault_of (command_of is_step) (texts (take end ws))) → (qs : Pairs) (rest : List (List ℕ)) → HasOptions is_step (texts ws) qs rest → ⊥
  refuses k among qs rest h =
      let w = written os p.formed in
      let same : qs ≡ dashed_all w.0 = one_cut (texts ws) os qs (texts (drop end ws)) rest p (parts_of is_step (texts ws) qs rest h) ∙ w.1 in
      let given : texts (take end ws) ≡ words_of w.0 = front_words ws end os p.words_are ∙ ap option_words w.1 ∙ words_same w.0 in
      let dashes = subst (AreOptions (options_for is_step)) same h.options_are in
      let are = without_dashes (names_of (options_of is_step)) w.0 (subst (λ ns. AreOptions ns (dashed_all w.0)) (sym (names_are is_step)) dashes) in
      let there = none_missing is_step w.0 (λ t. ap (λ q. is_some (find_bytes (codes "--turns") q)) (sym same) ∙ h.turns_given t) in
      let none = ap (fault_of (command_of is_step)) given ∙ fault_is is_step (words_of w.0) ∙ complete (codes "options") (options_of is_step) w.0 w.2 are there in
      subst (IsAmong k) none among
