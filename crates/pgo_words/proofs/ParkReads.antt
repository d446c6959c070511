-- What `run` asks for with `--park` among its options, and without it; no other command has it.
use Rattle.std.proofs.Common.{◌≡◌, ◌∙◌, inl, inr, ℕ, Bool, true, false, refl, sym, ap, subst, arith, List, [], ◌∷◌, ◌++◌, codes, decimal, Option, Some, None, Result, Ok, Err, IfOk, IfSome}
use Rattle.std.specs.Borrow.{Bor}
use Rattle.pgo_base.specs.Data.{Data}
use Rattle.pgo_base.specs.Lookup.{Name}
use Rattle.pgo_model.specs.Core.{Settings}
use Rattle.pgo_model.specs.ValueText.{is_one_of}
use Rattle.pgo_words.specs.Asks.{Command, Compile, Expand, Step, Run, Check, Migrate, Load, Request, AsksRun, AsksBy}
use Rattle.pgo_words.specs.Options.{option_words, MayPark}
use Rattle.pgo_words.specs.Park.{park_word, are_valued, IsPark}
use Rattle.pgo_words.specs.Parts.{HasOptions, Pairs, is_plain}
use Rattle.pgo_words.specs.Reads.{BehindOnly, RunOnly, parks_at, word_of, name_of}
use Rattle.pgo_words.specs.declared.commands.CommandName.{CommandName}
use Rattle.pgo_words.specs.declared.commands.CommandName.TheVariants as names
use Rattle.pgo_words.proofs.OptionAsks as asking
use Rattle.pgo_words.proofs.OptionCuts.{joined, stripped}
use Rattle.pgo_words.proofs.OptionParts.{parts_of}
use Rattle.pgo_words.proofs.ParkCuts.{all_valued, among, no_park, not_among, one_park, valued_first, valued_formed}
use Rattle.pgo_words.proofs.ReadLaws.{first_word_is, run_by, run_has, same_behind, same_command}

-- options that words of a command have
has_valued : (is_step : Bool) (words : List (List ℕ)) (os : Pairs) (rest : List (List ℕ)) → HasOptions is_step words os rest → are_valued os ≡ true
has_valued is_step words os rest h = all_valued is_step os h.options_are (parts_of is_step words os rest h).formed

-- where words have options, `--park` isn't among them
pub has_no_park : (is_step : Bool) (words : List (List ℕ)) (os : Pairs) (rest : List (List ℕ)) → HasOptions is_step words os rest → is_one_of park_word words ≡ false
has_no_park is_step words os rest h = ap (is_one_of park_word) h.words_are ∙ not_among os rest (has_valued is_step words os rest h) h.rest_plain

-- ---- `run`

-- the options among what `run` asks for
run_options_are : (words : List (List ℕ)) (cs : List (Name × Data)) (s : Settings) → (a : AsksRun words cs s) → HasOptions false a.others a.options a.parts.rest
run_options_are words cs s a = run_has a.others a.options s cs (record { parts = a.parts; settings_are = a.settings_are })

module _ (behind : List (List ℕ)) where
  -- with `--park` behind these options
  module _ (before : Pairs) (later : List (List ℕ)) (p : IsPark behind before later) where
    parts_with : (options : Pairs) (rest : List (List ℕ)) → HasOptions false (option_words before ++ later) options rest → MayPark options behind (option_words before ++ later)
    parts_with options rest h =
        let k = parts_of false (option_words before ++ later) options rest h in
        let s = stripped before options later rest (valued_formed before p.valued) k.formed k.plain k.words_are in
        inr (record { before = before; after = s.0; later = later; options_are = s.1; words_are = p.words_are; others_are = refl })

    others_with : (cs : List (Name × Data)) (s : Settings) → (a : AsksRun (codes "run" ∷ behind) cs s) → a.others ≡ option_words before ++ later
    others_with cs s a =
        let h = run_options_are (codes "run" ∷ behind) cs s a in
        let v = has_valued false a.others a.options a.parts.rest h in
        let same : a.behind ≡ behind = same_behind (codes "run") behind a.behind a.words_are in
        elim a.park [
          | inl e ↦ absurd (no_park before a.options later a.parts.rest p.valued v h.rest_plain (sym p.words_are ∙ sym same ∙ e ∙ h.words_are))
          | inr k ↦
              let first = valued_first k.before k.after (ap are_valued (sym k.options_are) ∙ v) in
              let one = one_park k.before before k.later later first p.valued (sym k.words_are ∙ same ∙ p.words_are) in
              k.others_are ∙ (λ i. option_words (one.0 i) ++ one.1 i)
        ]

    pub run_with : (others : List (List ℕ)) (o : Option Request) → others ≡ option_words before ++ later → RunOnly others o → BehindOnly names.Run behind o
    run_with others o e b = run_by behind (option_words before ++ later) parts_with others_with o (subst (λ w. RunOnly w o) e b)

    pub with_park : is_one_of park_word behind ≡ true
    with_park = ap (is_one_of park_word) p.words_are ∙ among before later

  -- and without it
  module _ (none : (options : Pairs) (later : List (List ℕ)) → IsPark behind options later → ⊥) where
    others_without : (cs : List (Name × Data)) (s : Settings) → (a : AsksRun (codes "run" ∷ behind) cs s) → a.others ≡ behind
    others_without cs s a =
        let h = run_options_are (codes "run" ∷ behind) cs s a in
        let v = has_valued false a.others a.options a.parts.rest h in
        let same : a.behind ≡ behind = same_behind (codes "run") behind a.behind a.words_are in
        elim a.park [
          | inl e ↦ sym e ∙ same
          | inr k ↦ absurd (none k.before k.later (record { words_are = sym same ∙ k.words_are; valued = valued_first k.before k.after (ap are_valued (sym k.options_are) ∙ v) }))
        ]

    pub run_without : (o : Option Request) → RunOnly behind o → BehindOnly names.Run behind o
    run_without o b = run_by behind behind (λ options rest h. inl refl) others_without o b

pub without_park : (words : List (List ℕ)) (q : Request) → RunOnly words (Some q) → is_one_of park_word words ≡ false
without_park words q b = has_no_park false words b.1.0 b.1.1.parts.rest (run_has words b.1.0 q.settings q.consts b.1.1)

-- ---- the other commands

park_of : (c : Command) (words behind : List (List ℕ)) (cs : List (Name × Data)) (s : Settings) → AsksBy c words cs s → words ≡ word_of (name_of c) ∷ behind
    → parks_at (name_of c) behind ≡ is_one_of park_word words
park_of Compile words behind cs s a e = sym (ap (is_one_of park_word) a.words_are ∙ not_among [] a.rest refl (asking.constants_plain a.rest cs a.consts_are.each))
park_of Expand words behind cs s a e = sym (ap (is_one_of park_word) a.words_are ∙ not_among [] a.rest refl (asking.constants_plain a.rest cs a.consts_are.each))
park_of (Step ts) words behind cs s a e =
    let h = asking.step_parts a.options s a.settings_are a.behind cs a.parts a.list ts a.list_is a.spells in
    sym (ap (is_one_of park_word) a.words_are ∙ has_no_park true a.behind a.options a.parts.rest h)
park_of Run words behind cs s a e = sym (ap (is_one_of park_word) e)
park_of Check words behind cs s a e = sym (ap (is_one_of park_word) a.words_are)
park_of Migrate words behind cs s a e = sym (ap (is_one_of park_word) a.words_are)
park_of (Load k) words behind cs s a e =
    let few = a.few in
    let plain : is_plain (decimal k) ≡ true = asking.decimal_plain k (omega (arith, few)) in
    sym (ap (is_one_of park_word) a.alone.words_are ∙ not_among [] (decimal k ∷ []) refl (joined (is_plain (decimal k)) true plain refl))

-- what is read behind a command's word says whether `--park` is among all words
pub known_park : (words behind : List (List ℕ)) (word : List ℕ) (k : CommandName) (q : Request) → words ≡ word ∷ behind → word ≡ word_of k → BehindOnly k behind (Some q)
    → parks_at k behind ≡ is_one_of park_word words
known_park words behind word k q e f b =
    let n : name_of q.command ≡ k = same_command (name_of q.command) k (sym (first_word_is (word_of k ∷ behind) behind (word_of k) q refl b.0)) in
    ap (λ m. parks_at m behind) (sym n)
    ∙ park_of q.command (word_of k ∷ behind) behind q.consts q.settings b.0 (ap (λ m. word_of m ∷ behind) (sym n))
    ∙ ap (is_one_of park_word) (sym (e ∙ ap (λ w. w ∷ behind) f))

-- what is so of one's value, by what else is so of it
pub if_found : {A B E : Type 0} (r : Result (Option A) E) (f : A → B) (P : Option B → Type 0) (Q R : A → Type 0)
    → ((a : A) → P (Some (f a)) → Q a → R a) → IfOk r (λ o. P (Rattle.std.specs.Prelude.option_map f o)) → IfOk r (λ o. IfSome o Q) → IfOk r (λ o. IfSome o R)
if_found (Ok (Some a)) f P Q R g h k = g a h k
if_found (Ok None) f P Q R g h k = k
if_found (Err e) f P Q R g h k = k
