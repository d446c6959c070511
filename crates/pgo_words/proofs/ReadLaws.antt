-- Words ask for one thing at most: constants begin as no option does, and each command has its own word.
use Rattle.std.proofs.Common.{◌≡◌, ◌≤◌, ◌-◌, ◌^◌, ℕ, Bool, true, false, List, [], ◌∷◌, length, drop, take, get_or, codes, decimal, Option, Some, None, option_map, Result, Ok, Err, IfOk, if◌then◌else◌, refl, sym, ◌∙◌, ap, subst, arith}
use Rattle.std.proofs.Math.Seq.{take-length}
use Rattle.std.specs.Borrow.{Bor}
use Rattle.pgo_base.specs.Data.{Data}
use Rattle.pgo_base.specs.Lookup.{Name}
use Rattle.pgo_model.specs.Core.{Settings}
use Rattle.pgo_model.specs.ValueText.{same_bytes}
use Rattle.pgo_words.specs.Asks.{Command, Compile, Expand, Step, Run, Check, Migrate, Load, Request, HasParts, AsksStep, AsksRun, AsksBy, Asks}
use Rattle.pgo_words.specs.Constants.{Constants}
use Rattle.pgo_words.specs.Failures.{FailuresOr}
use Rattle.pgo_words.specs.Items.{SpelledOnly}
use Rattle.pgo_words.specs.Options.{find_bytes, MayPark}
use Rattle.pgo_words.specs.Parts.{HasOptions, HasValues, Pairs, ReadsOptions, now_of, texts}
use Rattle.pgo_words.specs.Reads.{ValuesGive, GivesBoth, BothOnly, GivesRun, RunOnly, BehindOnly, IsWordOf, RequestOnly, word_of, name_of}
use Rattle.pgo_words.specs.Settings.{NumberOr, SettingsOf, run_options, step_options}
use Rattle.pgo_words.specs.Turns.{TurnList}
use Rattle.pgo_words.specs.declared.commands.CommandName.{CommandName}
use Rattle.pgo_words.specs.declared.commands.CommandName.TheVariants as names
use Rattle.pgo_words.specs.declared.options.Options.{Options}
use Rattle.pgo_words.proofs.ConstantWords.{nothing}
use Rattle.pgo_words.proofs.OptionAsks as asking
use Rattle.pgo_words.proofs.OptionParts.{one_way, options_for}

heads : (x : List ℕ) (xs : List (List ℕ)) (y : List ℕ) (ys : List (List ℕ)) → x ∷ xs ≡ y ∷ ys → x ≡ y
heads x xs y ys e = cc

-- the first word, and those behind it
pub first_word : (words : List (Bor (List ℕ))) → 1 ≤ length words → texts words ≡ (get_or words 0 nothing).now ∷ texts (take (length words - 1) (drop 1 words))
first_word [] h = absurd (omega (arith, h))
first_word (w ∷ ws) h = λ i. w.now ∷ texts (sym (all_taken ws (length (w ∷ ws) - 1) (omega arith)) i)
  where
    all_taken : (ws : List (Bor (List ℕ))) (n : ℕ) → n ≡ length ws → take n ws ≡ ws
    all_taken ws n e = ap (λ k. take k ws) e ∙ take-length ws

-- ---- options and the constants behind them

-- settings are those of the options' values
values_give : (os : Pairs) (o : Options) (s : Settings) → HasValues os o → SettingsOf os s → ValuesGive o s
values_give os o s v g = record {
  seed = subst (λ x. NumberOr 0 (2 ^ 64) x s.seed) (sym v.seed) g.seed;
  attempts = subst (λ x. NumberOr 10000 100001 x s.attempts) (sym v.attempts) g.attempts;
  steps = subst (λ x. NumberOr 10000 100001 x s.steps) (sym v.steps) g.steps;
  down = subst (λ x. FailuresOr x s.down) (sym v.fail) g.down;
}

options_give : (os : Pairs) (o : Options) (s : Settings) → HasValues os o → ValuesGive o s → SettingsOf os s
options_give os o s v g = record {
  seed = subst (λ x. NumberOr 0 (2 ^ 64) x s.seed) v.seed g.seed;
  attempts = subst (λ x. NumberOr 10000 100001 x s.attempts) v.attempts g.attempts;
  steps = subst (λ x. NumberOr 10000 100001 x s.steps) v.steps g.steps;
  down = subst (λ x. FailuresOr x s.down) v.fail g.down;
}

module _ (is_step : Bool) (behind : List (Bor (List ℕ))) (o : Options) (read : ReadsOptions is_step behind (Some o)) where
  -- other options of the same words are these
  same_options : (os : Pairs) (rest : List (List ℕ)) → HasOptions is_step (texts behind) os rest → (os ≡ read.0) × (rest ≡ texts o.rest.now)
  same_options os rest h = one_way is_step (texts behind) read.0 os (texts o.rest.now) rest read.1 h

  these_give : (os : Pairs) (rest : List (List ℕ)) (cs : List (Name × Data)) (s : Settings) → HasOptions is_step (texts behind) os rest → SettingsOf os s → Constants rest cs → GivesBoth o s cs
  these_give os rest cs s h g k =
      let e = same_options os rest h in
      record { settings_are = values_give read.0 o s read.2 (subst (λ q. SettingsOf q s) e.0 g); consts_are = subst (λ r. Constants r cs) e.1 k }

  parts_are : (cs : List (Name × Data)) → Constants (texts o.rest.now) cs → HasParts (options_for is_step) (texts behind) read.0 cs
  parts_are cs k = record { rest = texts o.rest.now; words_are = read.1.words_are; options_are = read.1.options_are; consts_are = k }

pub same_behind : (x : List ℕ) (a b : List (List ℕ)) → x ∷ a ≡ x ∷ b → b ≡ a
same_behind x a b e = cc

-- a request of these parts
abbrev request : Command → List (Name × Data) → Settings → Request
request c cs s = record { command = c; consts = cs; settings = s }

-- ---- `run`

pub run_has : (words : List (List ℕ)) (options : Pairs) (s : Settings) (cs : List (Name × Data)) → (g : GivesRun words options s cs) → HasOptions false words options g.parts.rest
run_has words options s cs g = asking.run_parts options s g.settings_are words cs g.parts

pub run_none_options : (words : List (Bor (List ℕ))) → ReadsOptions false words None → RunOnly (texts words) None
run_none_options words o = λ options s cs g. o options g.parts.rest (run_has (texts words) options s cs g)

module _ (words : List (Bor (List ℕ))) (o : Options) (read : ReadsOptions false words (Some o)) where
  run_both : (options : Pairs) (s : Settings) (cs : List (Name × Data)) → GivesRun (texts words) options s cs → GivesBoth o s cs
  run_both options s cs g = these_give false words o read options g.parts.rest cs s (run_has (texts words) options s cs g) g.settings_are g.parts.consts_are

  pub run_none_both : BothOnly o None → RunOnly (texts words) None
  run_none_both b = λ options s cs g. b s cs (run_both options s cs g)

  pub run_some : (q : Settings × List (Name × Data)) → BothOnly o (Some q) → RunOnly (texts words) (Some (record { command = Run; consts = q.1; settings = q.0 }))
  run_some q b = (
    refl,
    (read.0, record { parts = parts_are false words o read q.1 b.0.consts_are; settings_are = options_give read.0 o q.0 read.2 b.0.settings_are }),
    λ options s cs g. b.1 s cs (run_both options s cs g),
  )

-- no run where this holds of none
run_none : (behind : List (List ℕ)) → ((cs : List (Name × Data)) (s : Settings) → AsksRun (codes "run" ∷ behind) cs s → ⊥) → BehindOnly names.Run behind None
run_none behind f r n a = go r.command n a
  where
    go : (c : Command) → name_of c ≡ names.Run → AsksBy c (codes "run" ∷ behind) r.consts r.settings → ⊥
    go Compile n a = cc
    go Expand n a = cc
    go (Step ts) n a = cc
    go Run n a = f r.consts r.settings a
    go Check n a = cc
    go Migrate n a = cc
    go (Load k) n a = cc

-- what is read of the words that are left without `--park`
module _ (behind others : List (List ℕ)) (stands : (options : Pairs) (rest : List (List ℕ)) → HasOptions false others options rest → MayPark options behind others)
    (left : (cs : List (Name × Data)) (s : Settings) → (a : AsksRun (codes "run" ∷ behind) cs s) → a.others ≡ others) where
  gives : (cs : List (Name × Data)) (s : Settings) → (a : AsksRun (codes "run" ∷ behind) cs s) → GivesRun others a.options s cs
  gives cs s a = record { parts = subst (λ w. HasParts run_options w a.options cs) (left cs s a) a.parts; settings_are = a.settings_are }

  pub run_by : (o : Option Request) → RunOnly others o → BehindOnly names.Run behind o
  run_by None b = run_none behind (λ cs s a. b a.options s cs (gives cs s a))
  run_by (Some q) b = (asks, λ r n a. go r.command r.consts r.settings n a)
    where
      asks : Asks (codes "run" ∷ behind) q
      asks =
          let options = b.1.0 in
          let g = b.1.1 in
          subst (λ c. AsksBy c (codes "run" ∷ behind) q.consts q.settings) (sym b.0) (record {
            behind = behind;
            others = others;
            options = options;
            words_are = refl;
            park = stands options g.parts.rest (run_has others options q.settings q.consts g);
            parts = g.parts;
            settings_are = g.settings_are;
          })

      go : (c : Command) (cs : List (Name × Data)) (s : Settings) → name_of c ≡ names.Run → AsksBy c (codes "run" ∷ behind) cs s
          → request c cs s ≡ request q.command q.consts q.settings
      go Compile cs s n a = cc
      go Expand cs s n a = cc
      go (Step ts) cs s n a = cc
      go Run cs s n a = let e = b.2 a.options s cs (gives cs s a) in λ i. record { command = sym b.0 i; consts = e.1 i; settings = e.0 i }
      go Check cs s n a = cc
      go Migrate cs s n a = cc
      go (Load k) cs s n a = cc

-- ---- `step`

step_has : (behind : List (List ℕ)) (ts : List ℕ) (cs : List (Name × Data)) (s : Settings) → (a : AsksStep ts (codes "step" ∷ behind) cs s)
    → (rest : List (List ℕ)) × HasOptions true behind a.options rest × Constants rest cs
step_has behind ts cs s a =
    let p = subst (λ b. HasParts step_options b a.options cs) (same_behind (codes "step") behind a.behind a.words_are) a.parts in
    (p.rest, asking.step_parts a.options s a.settings_are behind cs p a.list ts a.list_is a.spells, p.consts_are)

-- no step where this holds of none
step_none : (behind : List (List ℕ)) → ((ts : List ℕ) (cs : List (Name × Data)) (s : Settings) → AsksStep ts (codes "step" ∷ behind) cs s → ⊥) → BehindOnly names.Step behind None
step_none behind f r n a = go r.command n a
  where
    go : (c : Command) → name_of c ≡ names.Step → AsksBy c (codes "step" ∷ behind) r.consts r.settings → ⊥
    go Compile n a = cc
    go Expand n a = cc
    go (Step ts) n a = f ts r.consts r.settings a
    go Run n a = cc
    go Check n a = cc
    go Migrate n a = cc
    go (Load k) n a = cc

pub step_none_options : (behind : List (Bor (List ℕ))) → ReadsOptions true behind None → BehindOnly names.Step (texts behind) None
step_none_options behind o = step_none (texts behind) (λ ts cs s a. let h = step_has (texts behind) ts cs s a in o a.options h.0 h.1)

module _ (behind : List (Bor (List ℕ))) (o : Options) (read : ReadsOptions true behind (Some o)) where
  step_both : (ts : List ℕ) (cs : List (Name × Data)) (s : Settings) → (a : AsksStep ts (codes "step" ∷ texts behind) cs s) → GivesBoth o s cs × (now_of o.turns ≡ Some a.list)
  step_both ts cs s a =
      let h = step_has (texts behind) ts cs s a in
      let e = same_options true behind o read a.options h.0 h.1 in (
        these_give true behind o read a.options h.0 cs s h.1 a.settings_are h.2,
        read.2.turns ∙ ap (find_bytes (codes "--turns")) (sym e.0) ∙ a.list_is,
      )

  module _ (list : List ℕ) (v : now_of o.turns ≡ Some list) where
    same_list : (ts : List ℕ) (cs : List (Name × Data)) (s : Settings) → (a : AsksStep ts (codes "step" ∷ texts behind) cs s) → a.list ≡ list
    same_list ts cs s a = let k = (step_both ts cs s a).1 in let e : Some a.list ≡ Some list = sym k ∙ v in cc

    pub step_none_turns : SpelledOnly list None → BehindOnly names.Step (texts behind) None
    step_none_turns t = step_none (texts behind) (λ ts cs s a. t ts (subst (λ l. TurnList l ts) (same_list ts cs s a) a.spells) a.few)

    pub step_none_both : BothOnly o None → BehindOnly names.Step (texts behind) None
    step_none_both b = step_none (texts behind) (λ ts cs s a. b s cs (step_both ts cs s a).0)

    pub step_some : (turns : List ℕ) (q : Settings × List (Name × Data)) → SpelledOnly list (Some turns) → BothOnly o (Some q)
        → BehindOnly names.Step (texts behind) (Some (record { command = Step turns; consts = q.1; settings = q.0 }))
    step_some turns q t b = (
      record {
        behind = texts behind;
        options = read.0;
        words_are = refl;
        parts = parts_are true behind o read q.1 b.0.consts_are;
        settings_are = options_give read.0 o q.0 read.2 b.0.settings_are;
        list = list;
        list_is = sym read.2.turns ∙ v;
        spells = t.0;
        few = t.1;
      },
      λ r n a. go r.command r.consts r.settings n a,
    )
      where
        go : (c : Command) (cs : List (Name × Data)) (s : Settings) → name_of c ≡ names.Step → AsksBy c (codes "step" ∷ texts behind) cs s
            → request c cs s ≡ request (Step turns) q.1 q.0
        go Compile cs s n a = cc
        go Expand cs s n a = cc
        go (Step ts) cs s n a =
            let e = b.1 s cs (step_both ts cs s a).0 in
            let f = t.2 ts (subst (λ l. TurnList l ts) (same_list ts cs s a) a.spells) a.few in
            λ i. record { command = Step (f i); consts = e.1 i; settings = e.0 i }
        go Run cs s n a = cc
        go Check cs s n a = cc
        go Migrate cs s n a = cc
        go (Load k) cs s n a = cc

-- ---- the command

-- the command of a word
abbrev command_by_word : List ℕ → Option CommandName
command_by_word word =
    if same_bytes word (codes "compile") then Some names.Compile else if same_bytes word (codes "expand") then Some names.Expand
    else if same_bytes word (codes "step") then Some names.Step else if same_bytes word (codes "run") then Some names.Run
    else if same_bytes word (codes "check") then Some names.Check else if same_bytes word (codes "migrate") then Some names.Migrate else if same_bytes word (codes "load") then Some names.Load else None

-- commands have words of their own
own_word : (k : CommandName) → command_by_word (word_of k) ≡ Some k
own_word names.Compile = refl
own_word names.Expand = refl
own_word names.Step = refl
own_word names.Run = refl
own_word names.Check = refl
own_word names.Migrate = refl
own_word names.Load = refl

pub same_command : (k l : CommandName) → word_of k ≡ word_of l → k ≡ l
same_command k l e = some (sym (own_word k) ∙ ap command_by_word e ∙ own_word l)
  where
    some : Some k ≡ Some l → k ≡ l
    some e = cc

-- words that ask for something begin with its command's word
pub word_first : (c : Command) (words : List (List ℕ)) (cs : List (Name × Data)) (s : Settings) → AsksBy c words cs s → (rest : List (List ℕ)) × (words ≡ word_of (name_of c) ∷ rest)
word_first Compile words cs s a = (a.rest, a.words_are)
word_first Expand words cs s a = (a.rest, a.words_are)
word_first (Step ts) words cs s a = (a.behind, a.words_are)
word_first Run words cs s a = (a.behind, a.words_are)
word_first Check words cs s a = ([], a.words_are)
word_first Migrate words cs s a = ([], a.words_are)
word_first (Load k) words cs s a = (decimal k ∷ [], a.alone.words_are)

pub first_word_is : (words behind : List (List ℕ)) (word : List ℕ) (r : Request) → words ≡ word ∷ behind → Asks words r → word ≡ word_of (name_of r.command)
first_word_is words behind word r e a =
    let f = word_first r.command words r.consts r.settings a in heads word behind (word_of (name_of r.command)) f.0 (sym e ∙ f.1)

-- words ask for one command
pub one_command : (words : List (List ℕ)) (q r : Request) → Asks words q → Asks words r → name_of q.command ≡ name_of r.command
one_command words q r a b =
    let f = word_first q.command words q.consts q.settings a in
    same_command (name_of q.command) (name_of r.command) (first_word_is words f.0 (word_of (name_of q.command)) r f.1 b)

-- what is so of one's value is so of the other's
pub if_ok_more : {A E : Type 0} (r : Result A E) (P Q : A → Type 0) → ((a : A) → P a → Q a) → IfOk r P → IfOk r Q
if_ok_more (Ok a) P Q f h = f a h
if_ok_more (Err e) P Q f h = h

pub at_none : {A B : Type 0} (P : Option B → Type 0) (f : A → B) (o : Option A) → o ≡ None → P (option_map f o) → P None
at_none P f o e h = subst (λ x. P (option_map f x)) e h

pub at_some : {A B : Type 0} (P : Option B → Type 0) (f : A → B) (o : Option A) (a : A) → o ≡ Some a → P (option_map f o) → P (Some (f a))
at_some P f o a e h = subst (λ x. P (option_map f x)) e h

pub known_word : (words behind : List (List ℕ)) (word : List ℕ) (k : CommandName) (o : Option Request) → words ≡ word ∷ behind → word ≡ word_of k → BehindOnly k behind o → RequestOnly words o
known_word words behind word k o e f b = go o b
  where
    at : words ≡ word_of k ∷ behind
    at = e ∙ ap (λ w. w ∷ behind) f

    name : (r : Request) → Asks words r → name_of r.command ≡ k
    name r a = same_command (name_of r.command) k (sym (first_word_is words behind word r e a) ∙ f)

    go : (o : Option Request) → BehindOnly k behind o → RequestOnly words o
    go None b = λ r a. b r (name r a) (subst (λ w. Asks w r) at a)
    go (Some q) b = (subst (λ w. Asks w q) (sym at) b.0, λ r a. b.1 r (name r a) (subst (λ w. Asks w r) at a))

pub unknown_word : (words behind : List (List ℕ)) (word : List ℕ) → words ≡ word ∷ behind → IsWordOf word None → RequestOnly words None
unknown_word words behind word e f r a = f (name_of r.command) (first_word_is words behind word r e a)
