-- What a section does with some words of choice it does with a list of words.
use Rattle.std.proofs.Common.{◌≡◌, ℕ, suc, Bool, true, false, if◌then◌else◌, List, [], ◌∷◌, ◌++◌, length, Option, Some, None, refl, ap, ◌∙◌, subst, arith, append_assoc, length-append}
use Rattle.pgo_base.specs.Data.{Data}
use Rattle.pgo_base.specs.Lookup.{Name, Vars}
use Rattle.pgo_model.specs.Choice.{word_at}
use Rattle.pgo_model.specs.Options.{on}
use Rattle.pgo_model.specs.Outcome.{NoValue, Next, Stuck, Nowhere}
use Rattle.pgo_model.specs.State.{is_shallow}
use Rattle.pgo_model.specs.System.{Words}
use Rattle.pgo_sections.specs.Blocks.{HasBlocks}
use Rattle.pgo_sections.specs.Code.{Code}
use Rattle.pgo_sections.specs.Context.{Context}
use Rattle.pgo_sections.specs.Macros.{exec}
use Rattle.pgo_sections.specs.Section.{closed, end_of, if_shallow, section, SectionReaches}
use Rattle.pgo_sections.specs.SectionRun.{SectionRun, begun, Out, Go, Jump, Yielded, Stop}
use Rattle.pgo_sections.proofs.May.{never}
use Rattle.pgo_sections.proofs.Words.{Holds, may_from, ends_from, Reads}

abbrev no_gift : Data → Vars → Type 0
no_gift v ch = ⊥

-- a list of words has its words
read_word : (front : List ℕ) (w : ℕ) (ws : List ℕ) → word_at (front ++ w ∷ ws) (length front) ≡ w
read_word [] w ws = refl
read_word (x ∷ front) w ws = read_word front w ws

reads_all : (front ws : List ℕ) → Reads (word_at (front ++ ws)) (length front) ws
reads_all front [] = tt
reads_all front (w ∷ ws) = (read_word front w ws, again (reads_all (front ++ w ∷ []) ws))
  where
    again : Reads (word_at ((front ++ w ∷ []) ++ ws)) (length (front ++ w ∷ [])) ws → Reads (word_at (front ++ w ∷ ws)) (suc (length front)) ws
    again h =
        let same : (front ++ w ∷ []) ++ ws ≡ front ++ w ∷ ws = append_assoc front (w ∷ []) ws in
        let long : length (front ++ w ∷ []) ≡ suc (length front) = omega (arith, length-append front (w ∷ [])) in
        subst (λ n. Reads (word_at (front ++ w ∷ ws)) n ws) long (subst (λ l. Reads (word_at l) (length (front ++ w ∷ [])) ws) same h)

module _ (k : Context) (t : Vars) where
  -- a jump to the label with these changes ends in t
  abbrev EndsIn : Name → Vars → Type 0
  EndsIn l ch = (closed k l ch k.start ≡ Some t) × (is_shallow t ≡ true)

  shallow_end : (u : Vars) (q prints : List Data) (b : Bool) → is_shallow u ≡ b → (if b then Next u q else Stuck NoValue) ≡ Next t prints → (u ≡ t) × (is_shallow t ≡ true)
  shallow_end u q prints true e g =
      let same : u ≡ t = ap (λ o. elim o as (λ o. Vars) [ Next v p ↦ v | Stuck v ↦ t | Nowhere ↦ t ]) g in
      (same, subst (λ v. is_shallow v ≡ true) same e)
  shallow_end u q prints false e g = absurd (grind (arith, g))

  jumped : (l : Name) (run : SectionRun) (q : Option Vars) → closed k l run.changes k.start ≡ q → (prints : List Data) → on (Stuck NoValue) q (if_shallow run.prints) ≡ Next t prints → EndsIn l run.changes
  jumped l run None e prints g = absurd (grind (arith, g))
  jumped l run (Some u) e prints g = let s = shallow_end u run.prints prints (is_shallow u) refl g in (e ∙ ap (λ z. Some z) s.0, s.1)

  holds : (o : Out) (prints : List Data) → end_of k o ≡ Next t prints → Holds never EndsIn no_gift o
  holds (Go run) prints e = absurd (grind (arith, e))
  holds (Jump l run) prints e = jumped l run (closed k l run.changes k.start) refl prints e
  holds (Yielded v run) prints e = absurd (grind (arith, e))
  holds (Stop kind run) prints e = absurd (grind (arith, e))

  ended : (o : Out) → Holds never EndsIn no_gift o → (prints : List Data) × (end_of k o ≡ Next t prints)
  ended (Go run) h = absurd h
  ended (Jump l run) h =
      (run.prints, ap (λ q. on (Stuck NoValue) q (if_shallow run.prints)) h.0 ∙ ap (λ b. if b then Next t run.prints else Stuck NoValue) h.1)
  ended (Yielded v run) h = absurd h
  ended (Stop kind run) h = absurd h

  pub by_list : (c : Code) (d : Words) (prints : List Data) → HasBlocks c → (section k c d).end ≡ Next t prints → SectionReaches k c t
  by_list c d prints blocks h =
      let m = may_from k c [] d (begun [] []) never EndsIn no_gift blocks (holds (exec k c [] d (begun [] [])) prints h) in
      let x = ends_from k c [] (begun [] []) never EndsIn no_gift blocks m in
      let e = ended x.out x.holds in
      record { words = x.words; prints = e.0; leads = ap (end_of k) (x.runs (word_at x.words) (reads_all [] x.words)) ∙ e.1 }
