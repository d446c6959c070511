-- What code may do is what it does for some words of choice.
use Rattle.std.proofs.Common.{◌≡◌, ℕ, zero, suc, ◌+◌, ◌<◌, ◌%◌, true, false, List, [], ◌∷◌, ◌++◌, length, get_or, Option, Some, None, ◌⊎◌, Contains, refl, sym, ap, ◌∙◌, subst, arith, inl, inr, length-append, mod-lt, mod-eq_of_lt, option_and_then}
use Rattle.std.proofs.lemmas.List.{get_or_default}
use Rattle.pgo_base.specs.Data.{Data, boolean, integer, string, model, set, function}
use Rattle.pgo_base.specs.Lookup.{Name, Names, Vars}
use Rattle.pgo_model.specs.Operators.{truth_of}
use Rattle.pgo_model.specs.Options.{on}
use Rattle.pgo_model.specs.Outcome.{Blocked, NoValue, AssertFails}
use Rattle.pgo_model.specs.System.{Words}
use Rattle.pgo_sections.specs.Code.{Code, Empty, Skip, Let, Pick, Become, Set, Await, Assert, Print, If, Either, Seq, Goto, Yield, Read, Write, Codes, no_codes, more_codes, value_name}
use Rattle.pgo_sections.specs.Blocks.{AreBlocks, AllAreBlocks, IsBlock, HasBlocks}
use Rattle.pgo_sections.specs.Context.{Context, content, put_content, put_new, content_state, new_content}
use Rattle.pgo_sections.specs.Exec.{Gives, Stops, read_end, write_end, with_choices, if_gives, touching, read_unmapped, becoming, count, Reads as ReadsBlock, Writes as WritesBlock, exec_with, exec_arm_with}
use Rattle.pgo_sections.specs.BoundValues.{bindable, value_under}
use Rattle.pgo_sections.specs.Macros.{no_reads, no_writes, exec_block, block_read, block_write, exec}
use Rattle.pgo_sections.specs.SectionRun.{ChoiceMade, SectionRun, words_used, begun, printed, picked_number, chosen, Out, Go, Jump, Yielded, Stop, with_value, if_true, picked, go_on}
use Rattle.pgo_sections.proofs.May.{block_of, left_content, left_is, May, SomeMay, never, never_at}

abbrev pub Holds : (Vars → Type 0) → (Name → Vars → Type 0) → (Data → Vars → Type 0) → Out → Type 0
Holds P J Y (Go run) = P run.changes
Holds P J Y (Jump l run) = J l run.changes
Holds P J Y (Yielded v run) = Y v run.changes
Holds P J Y (Stop kind run) = ⊥

module _ (P : Vars → Type 0) (J : Name → Vars → Type 0) (Y : Data → Vars → Type 0) where
  value_holds : {A : Type 0} → (o : Option A) (run : SectionRun) (f : A → Out) → Holds P J Y (with_value o run f) → (v : A) × (o ≡ Some v) × Holds P J Y (f v)
  value_holds None run f h = absurd h
  value_holds (Some v) run f h = (v, refl, h)

  picked_holds : (ms : List Data) (d : Words) (run : SectionRun) (f : Data → SectionRun → Out) → Holds P J Y (picked ms d run f) → (v : Data) × Contains ms v × (i : ℕ) × Holds P J Y (f v (chosen (length ms) i run))
  picked_holds [] d run f h = absurd h
  picked_holds (m ∷ ms) d run f h =
      let k = d (words_used run) % length (m ∷ ms) in
      let lt : k < length (m ∷ ms) = (let pos : 0 < length (m ∷ ms) = omega arith in mod-lt (d (words_used run)) pos) in
      (get_or (m ∷ ms) k m, (k, lt, get_or_default (m ∷ ms) k _ m lt), k, h)

  go_holds : (r : Out) (f : SectionRun → Out) (Q : Vars → Type 0) → ((run : SectionRun) → Holds P J Y (f run) → Q run.changes) → Holds P J Y (go_on r f) → Holds Q J Y r
  go_holds (Go run) f Q step h = step run h
  go_holds (Jump l run) f Q step h = h
  go_holds (Yielded v run) f Q step h = h
  go_holds (Stop kind run) f Q step h = h

  read_holds : (r : Out) (now : SectionRun) (f : Data × Option Data → SectionRun → Out) (Q : Data → Vars → Type 0) → ((v : Data) (run : SectionRun) (new : Option Data) → new_content run.changes ≡ Some new → Holds P J Y (f (v, new) (with_choices run.choices now)) → Q v run.changes) → Holds P J Y (if_gives (read_end r) now f) → Holds never never_at Q r
  read_holds (Go run) now f Q step h = h
  read_holds (Jump l run) now f Q step h = h
  read_holds (Yielded v run) now f Q step h = go (new_content run.changes) refl h
    where
      go : (o : Option (Option Data)) → new_content run.changes ≡ o → Holds P J Y (if_gives (on (Stops NoValue run.choices) o (λ new. Gives (v, new) run.choices)) now f) → Q v run.changes
      go None e h = absurd h
      go (Some new) e h = step v run new e h
  read_holds (Stop kind run) now f Q step h = h

  write_holds : (r : Out) (now : SectionRun) (f : Data → SectionRun → Out) (Q : Data → Vars → Type 0) → ((v : Data) (run : SectionRun) → Holds P J Y (f v (with_choices run.choices now)) → Q v run.changes) → Holds P J Y (if_gives (write_end r) now f) → Holds never never_at Q r
  write_holds (Go run) now f Q step h = h
  write_holds (Jump l run) now f Q step h = h
  write_holds (Yielded v run) now f Q step h = step v run h
  write_holds (Stop kind run) now f Q step h = h

  only_true : (o : Option Data) (run : SectionRun) (a b : Out) (A : Type 0) → (Holds P J Y a → A) → (Holds P J Y b → ⊥) → Holds P J Y (if_true (truth_of o) run a b) → (o ≡ Some (boolean true)) × A
  only_true None run a b A f g h = absurd h
  only_true (Some (boolean true)) run a b A f g h = (refl, f h)
  only_true (Some (boolean false)) run a b A f g h = absurd (g h)
  only_true (Some (integer z)) run a b A f g h = absurd h
  only_true (Some (string z)) run a b A f g h = absurd h
  only_true (Some (model z)) run a b A f g h = absurd h
  only_true (Some (set z)) run a b A f g h = absurd h
  only_true (Some (function z)) run a b A f g h = absurd h

  true_or_false : (o : Option Data) (run : SectionRun) (a b : Out) (A B : Type 0) → (Holds P J Y a → A) → (Holds P J Y b → B) → Holds P J Y (if_true (truth_of o) run a b) → ((o ≡ Some (boolean true)) × A) ⊎ ((o ≡ Some (boolean false)) × B)
  true_or_false None run a b A B f g h = absurd h
  true_or_false (Some (boolean true)) run a b A B f g h = inl (refl, f h)
  true_or_false (Some (boolean false)) run a b A B f g h = inr (refl, g h)
  true_or_false (Some (integer z)) run a b A B f g h = absurd h
  true_or_false (Some (string z)) run a b A B f g h = absurd h
  true_or_false (Some (model z)) run a b A B f g h = absurd h
  true_or_false (Some (set z)) run a b A B f g h = absurd h
  true_or_false (Some (function z)) run a b A B f g h = absurd h

-- what is asked of reads and writes by blocks that meet B: what they do, the block may do
abbrev ReadsMay : (Code → Type 0) → ReadsBlock → Type 1
ReadsMay B rd = (m : Code) → B m → (k : Context) (old : Data) (d : Words) (u : List ChoiceMade) (now : SectionRun) (P : Vars → Type 0) (J : Name → Vars → Type 0) (Y : Data → Vars → Type 0) (f : Data × Option Data → SectionRun → Out) (Q : Data → Vars → Type 0) → ((v : Data) (block : SectionRun) (new : Option Data) → new_content block.changes ≡ Some new → Holds P J Y (f (v, new) (with_choices block.choices now)) → Q v block.changes)
    → Holds P J Y (if_gives (rd m k.defs k.id old d u) now f) → May (block_of k) m [] (content_state old) never never_at Q

abbrev WritesMay : (Code → Type 0) → WritesBlock → Type 1
WritesMay B wr = (m : Code) → B m → (k : Context) (old value : Data) (d : Words) (u : List ChoiceMade) (now : SectionRun) (P : Vars → Type 0) (J : Name → Vars → Type 0) (Y : Data → Vars → Type 0) (f : Data → SectionRun → Out) (Q : Data → Vars → Type 0) → ((v : Data) (block : SectionRun) → Holds P J Y (f v (with_choices block.choices now)) → Q v block.changes)
    → Holds P J Y (if_gives (wr m k.defs k.id old value d u) now f) → May (block_of k) m ((value_name, Some value) ∷ []) (content_state old) never never_at Q

module _ (B : Code → Type 0) (rd : ReadsBlock) (wr : WritesBlock) (reads_may : ReadsMay B rd) (writes_may : WritesMay B wr) where
  mutual
    -- what code does, it may do
    may_with : (k : Context) (c : Code) (env : Names) (d : Words) (run : SectionRun) (P : Vars → Type 0) (J : Name → Vars → Type 0) (Y : Data → Vars → Type 0) → AreBlocks B c → Holds P J Y (exec_with rd wr k c env d run) → May k c env run.changes P J Y
    may_with k Empty env d run P J Y bl h = h
    may_with k Skip env d run P J Y bl h = h
    may_with k (Let b w e c) env d run P J Y bl h =
        let x = value_holds P J Y _ _ _ h in (x.0, x.1, may_with k c ((w, Some x.0) ∷ env) d (read_unmapped k e run) P J Y bl x.2)
    may_with k (Pick b w e c) env d run P J Y bl h =
        let x = value_holds P J Y _ _ _ h in
        let y = picked_holds P J Y x.0 _ _ _ x.2 in
        (y.0, x.0, x.1, y.1, may_with k c ((w, Some y.0) ∷ env) d (chosen (length x.0) y.2 (read_unmapped k e run)) P J Y bl y.3)
    may_with k (Become p w) env d run P J Y bl h = value_holds P J Y _ _ _ h
    may_with k (Set b p e) env d run P J Y bl h = value_holds P J Y _ _ _ h
    may_with k (Await e) env d run P J Y bl h = only_true P J Y _ _ _ _ (P run.changes) (λ a. a) (λ a. a) h
    may_with k (Assert e) env d run P J Y bl h = only_true P J Y _ _ _ _ (P run.changes) (λ a. a) (λ a. a) h
    may_with k (Print e) env d run P J Y bl h = value_holds P J Y _ _ _ h
    may_with k (If e a b) env d run P J Y bl h =
        true_or_false P J Y _ _ _ _ (May k a env run.changes P J Y) (May k b env run.changes P J Y) (λ x. may_with k a env d (read_unmapped k e run) P J Y bl.0 x) (λ x. may_with k b env d (read_unmapped k e run) P J Y bl.1 x) h
    may_with k (Either cs) env d run P J Y bl h =
        let i = picked_number d run (count cs) in may_with_arm k cs i env d (chosen (count cs) i run) P J Y bl h
    may_with k (Seq a b) env d run P J Y bl h =
        may_with k a env d run (λ st'. May k b env st' P J Y) J Y bl.0 (go_holds P J Y (exec_with rd wr k a env d run) _ (λ st'. May k b env st' P J Y) (λ now x. may_with k b env d now P J Y bl.1 x) h)
    may_with k (Goto l) env d run P J Y bl h = h
    may_with k (Yield e) env d run P J Y bl h = value_holds P J Y _ _ _ h
    may_with k (Read w g i m c) env d run P J Y bl h =
        let x = value_holds P J Y _ _ _ h in
        let y = value_holds P J Y _ _ _ x.2 in
        let now = touching k g x.0 run in (
          x.0,
          y.0,
          x.1,
          y.1,
          reads_may m bl.0 k y.0 d run.choices now P J Y _ (λ v mem. (st' : Vars) × (left_content k g x.0 mem run.changes ≡ Some st') × May k c ((w, Some v) ∷ env) st' P J Y) (λ v block new is z.
              let q = value_holds P J Y _ _ _ z in (
                q.0,
                left_is k g x.0 block.changes run.changes ∙ ap (option_and_then (λ new. put_new k g x.0 new run.changes)) is ∙ q.1,
                may_with k c ((w, Some v) ∷ env) d (record (with_choices block.choices now) { changes = q.0 }) P J Y bl.1 q.2,
              )) y.2,
        )
    may_with k (Write g i w m) env d run P J Y bl h =
        let x = value_holds P J Y _ _ _ h in
        let y = value_holds P J Y _ _ _ x.2 in
        let z = value_holds P J Y _ _ _ y.2 in
        (x.0, y.0, x.1, y.1, (z.0, z.1, writes_may m bl k y.0 z.0 d run.choices (touching k g x.0 run) P J Y _ (λ v mem. (st' : Vars) × (put_content k g x.0 (Some v) run.changes ≡ Some st') × P st') (λ v block q. value_holds P J Y _ _ _ q) z.2))

    may_with_arm : (k : Context) (cs : Codes) (i : ℕ) (env : Names) (d : Words) (run : SectionRun) (P : Vars → Type 0) (J : Name → Vars → Type 0) (Y : Data → Vars → Type 0) → AllAreBlocks B cs → Holds P J Y (exec_arm_with rd wr k cs i env d run) → SomeMay k cs env run.changes P J Y
    may_with_arm k no_codes i env d run P J Y bl h = absurd h
    may_with_arm k (more_codes c cs) zero env d run P J Y bl h = inl (may_with k c env d run P J Y bl.0 h)
    may_with_arm k (more_codes c cs) (suc i) env d run P J Y bl h = inr (may_with_arm k cs i env d run P J Y bl.1 h)

may_block : (k : Context) (c : Code) (env : Names) (d : Words) (run : SectionRun) (P : Vars → Type 0) (J : Name → Vars → Type 0) (Y : Data → Vars → Type 0) → IsBlock c → Holds P J Y (exec_block k c env d run) → May k c env run.changes P J Y
may_block =
    may_with (λ b. ⊥) no_reads no_writes (λ m b k old d u now P J Y f Q step h. absurd b) (λ m b k old value d u now P J Y f Q step h. absurd b)

pub may_from : (k : Context) (c : Code) (env : Names) (d : Words) (run : SectionRun) (P : Vars → Type 0) (J : Name → Vars → Type 0) (Y : Data → Vars → Type 0) → HasBlocks c → Holds P J Y (exec k c env d run) → May k c env run.changes P J Y
may_from =
    may_with IsBlock block_read block_write (λ m b k old d u now P J Y f Q step h.
    may_block (block_of k) m [] d (begun (content_state old) u) never never_at Q b (read_holds P J Y (exec_block (block_of k) m [] d (begun (content_state old) u)) now f Q step h)) (λ m b k old value d u now P J Y f Q step h.
    may_block (block_of k) m ((value_name, Some value) ∷ []) d (begun (content_state old) u) never never_at Q b (write_holds P J Y (exec_block (block_of k) m ((value_name, Some value) ∷ []) d (begun (content_state old) u)) now f Q step h))

-- d has these words from place u on
abbrev pub Reads : Words → ℕ → List ℕ → Type 0
Reads d u [] = Unit {0}
Reads d u (w ∷ ws) = (d u ≡ w) × Reads d (suc u) ws

reads_front : (d : Words) (u : ℕ) (a b : List ℕ) → Reads d u (a ++ b) → Reads d u a
reads_front d u [] b h = tt
reads_front d u (w ∷ a) b h = (h.0, reads_front d (suc u) a b h.1)

reads_back : (d : Words) (u : ℕ) (a b : List ℕ) → Reads d u (a ++ b) → Reads d (u + length a) b
reads_back d u [] b h = let e : u ≡ u + 0 = omega arith in subst (λ n. Reads d n b) e h
reads_back d u (w ∷ a) b h =
    let e : suc u + length a ≡ u + length (w ∷ a) = omega arith in subst (λ n. Reads d n b) e (reads_back d (suc u) a b h.1)

-- an outcome that used the words up to n
abbrev UsedTo : ℕ → Out → Type 0
UsedTo n (Go run) = (words_used run) ≡ n
UsedTo n (Jump l run) = (words_used run) ≡ n
UsedTo n (Yielded v run) = (words_used run) ≡ n
UsedTo n (Stop kind run) = ⊥

-- some words from place u on make it end so
pub record Ends (f : Words → Out) (u : ℕ) (P : Vars → Type 0) (J : Name → Vars → Type 0) (Y : Data → Vars → Type 0) : Type 0 where
  pub words : List ℕ
  pub out : Out
  pub runs : (d : Words) → Reads d u words → f d ≡ out
  pub used : UsedTo (u + length words) out
  pub holds : Holds P J Y out

module _ (u : ℕ) (P : Vars → Type 0) (J : Name → Vars → Type 0) (Y : Data → Vars → Type 0) where
  ends_now : (o : Out) → UsedTo u o → Holds P J Y o → Ends (λ d. o) u P J Y
  ends_now o us h = let e : u ≡ u + 0 = omega arith in record { words = []; out = o; runs = λ d r. refl; used = subst (λ n. UsedTo n o) e us; holds = h }

  -- another run with the same end
  ends_as : (f g : Words → Out) → ((d : Words) → g d ≡ f d) → Ends f u P J Y → Ends g u P J Y
  ends_as f g e x = record { words = x.words; out = x.out; runs = λ d r. e d ∙ x.runs d r; used = x.used; holds = x.holds }

  -- behind a value
  value_ends : {A : Type 0} → (o : Option A) (run : SectionRun) (v : A) (g : Words → A → Out) → o ≡ Some v → Ends (λ d. g d v) u P J Y → Ends (λ d. with_value o run (g d)) u P J Y
  value_ends o run v g e x = ends_as (λ d. g d v) (λ d. with_value o run (g d)) (λ d. ap (λ o. with_value o run (g d)) e) x

  -- one word first
  ends_after : (w : ℕ) (f g : Words → Out) → ((d : Words) → d u ≡ w → g d ≡ f d) → Ends f (suc u) P J Y → Ends g u P J Y
  ends_after w f g e x = record {
    words = w ∷ x.words;
    out = x.out;
    runs = λ d r. e d r.0 ∙ x.runs d r.1;
    used = let n : suc u + length x.words ≡ u + length (w ∷ x.words) = omega arith in subst (λ n. UsedTo n x.out) n x.used;
    holds = x.holds;
  }

module _ (P : Vars → Type 0) (J : Name → Vars → Type 0) (Y : Data → Vars → Type 0) where
  -- one run behind another
  seq_ends : (u : ℕ) (f : Words → Out) (k : Words → SectionRun → Out) (Q : Vars → Type 0) → Ends f u Q J Y → ((run : SectionRun) → Q run.changes → Ends (λ d. k d run) (words_used run) P J Y) → Ends (λ d. go_on (f d) (k d)) u P J Y
  seq_ends u f k Q x next = go x.out x.runs x.used x.holds
    where
      go : (o : Out) → ((d : Words) → Reads d u x.words → f d ≡ o) → UsedTo (u + length x.words) o → Holds Q J Y o → Ends (λ d. go_on (f d) (k d)) u P J Y
      go (Go run) runs used h =
          let y = next run h in
          record {
            words = x.words ++ y.words;
            out = y.out;
            runs = λ d r. ap (λ o. go_on o (k d)) (runs d (reads_front d u x.words y.words r)) ∙ y.runs d (subst (λ n. Reads d n y.words) (sym used) (reads_back d u x.words y.words r));
            used = let n : (words_used run) + length y.words ≡ u + length (x.words ++ y.words) = omega (arith, used, length-append x.words y.words) in subst (λ n. UsedTo n y.out) n y.used;
            holds = y.holds;
          }
      go (Jump l run) runs used h = record { words = x.words; out = Jump l run; runs = λ d r. ap (λ o. go_on o (k d)) (runs d r); used = used; holds = h }
      go (Yielded v run) runs used h = record { words = x.words; out = Yielded v run; runs = λ d r. ap (λ o. go_on o (k d)) (runs d r); used = used; holds = h }
      go (Stop kind run) runs used h = absurd h

  read_ends : (u : ℕ) (now : SectionRun) (f : Words → Out) (k : Words → Data × Option Data → SectionRun → Out) (Q : Data → Vars → Type 0) → Ends f u never never_at Q → ((v : Data) (run : SectionRun) → Q v run.changes → (new : Option Data) × (new_content run.changes ≡ Some new) × Ends (λ d. k d (v, new) (with_choices run.choices now)) (words_used run) P J Y) → Ends (λ d. if_gives (read_end (f d)) now (k d)) u P J Y
  read_ends u now f k Q x next = go x.out x.runs x.used x.holds
    where
      go : (o : Out) → ((d : Words) → Reads d u x.words → f d ≡ o) → UsedTo (u + length x.words) o → Holds never never_at Q o → Ends (λ d. if_gives (read_end (f d)) now (k d)) u P J Y
      go (Go run) runs used h = absurd h
      go (Jump l run) runs used h = absurd h
      go (Yielded v run) runs used h =
          let n = next v run h in
          let y = n.2 in
          record {
            words = x.words ++ y.words;
            out = y.out;
            runs = λ d r.
                ap (λ o. if_gives (read_end o) now (k d)) (runs d (reads_front d u x.words y.words r))
                ∙ ap (λ o. if_gives (on (Stops NoValue run.choices) o (λ new. Gives (v, new) run.choices)) now (k d)) n.1
                ∙ y.runs d (subst (λ n. Reads d n y.words) (sym used) (reads_back d u x.words y.words r));
            used = let e : (words_used run) + length y.words ≡ u + length (x.words ++ y.words) = omega (arith, used, length-append x.words y.words) in subst (λ n. UsedTo n y.out) e y.used;
            holds = y.holds;
          }
      go (Stop kind run) runs used h = absurd h

  write_ends : (u : ℕ) (now : SectionRun) (f : Words → Out) (k : Words → Data → SectionRun → Out) (Q : Data → Vars → Type 0) → Ends f u never never_at Q → ((v : Data) (run : SectionRun) → Q v run.changes → Ends (λ d. k d v (with_choices run.choices now)) (words_used run) P J Y) → Ends (λ d. if_gives (write_end (f d)) now (k d)) u P J Y
  write_ends u now f k Q x next = go x.out x.runs x.used x.holds
    where
      go : (o : Out) → ((d : Words) → Reads d u x.words → f d ≡ o) → UsedTo (u + length x.words) o → Holds never never_at Q o → Ends (λ d. if_gives (write_end (f d)) now (k d)) u P J Y
      go (Go run) runs used h = absurd h
      go (Jump l run) runs used h = absurd h
      go (Yielded v run) runs used h =
          let y = next v run h in
          record {
            words = x.words ++ y.words;
            out = y.out;
            runs = λ d r. ap (λ o. if_gives (write_end o) now (k d)) (runs d (reads_front d u x.words y.words r)) ∙ y.runs d (subst (λ n. Reads d n y.words) (sym used) (reads_back d u x.words y.words r));
            used = let e : (words_used run) + length y.words ≡ u + length (x.words ++ y.words) = omega (arith, used, length-append x.words y.words) in subst (λ n. UsedTo n y.out) e y.used;
            holds = y.holds;
          }
      go (Stop kind run) runs used h = absurd h

-- the word that picks a member
picked_by : (ms : List Data) (v : Data) → Contains ms v → (w : ℕ) × ((d : Words) (run : SectionRun) (f : Data → SectionRun → Out) → d (words_used run) ≡ w → picked ms d run f ≡ f v (chosen (length ms) w run))
picked_by [] v h = absurd (omega (arith, h.1))
picked_by (x ∷ ms) v h =
    let n = length (x ∷ ms) in
    let lt : h.0 < length (x ∷ ms) = h.1 in (
      h.0,
      λ d run f e.
          ap (λ a. f (get_or (x ∷ ms) (a % n) x) (chosen n (a % n) run)) e
          ∙ ap (λ i. f (get_or (x ∷ ms) i x) (chosen n i run)) (mod-eq_of_lt lt)
          ∙ ap (λ z. f z (chosen n h.0 run)) (get_or_default (x ∷ ms) h.0 x v lt ∙ h.2),
    )

-- the new content that a block left
new_is : (o : Option (Option Data)) (f : Option Data → Option Vars) (s : Vars) → option_and_then f o ≡ Some s → (new : Option Data) × (o ≡ Some new) × (f new ≡ Some s)
new_is None f s h = absurd (grind (arith, h))
new_is (Some new) f s h = (new, refl, h)

-- what is asked of reads and writes by blocks that meet B: what the block may do, they do for some words
abbrev ReadsEnd : (Code → Type 0) → ReadsBlock → Type 1
ReadsEnd B rd = (m : Code) → B m → (k : Context) (old : Data) (u : List ChoiceMade) (now : SectionRun) (P : Vars → Type 0) (J : Name → Vars → Type 0) (Y : Data → Vars → Type 0) (f : Words → Data × Option Data → SectionRun → Out) (Q : Data → Vars → Type 0) → ((v : Data) (block : SectionRun) → Q v block.changes → (new : Option Data) × (new_content block.changes ≡ Some new) × Ends (λ d. f d (v, new) (with_choices block.choices now)) (words_used block) P J Y)
    → May (block_of k) m [] (content_state old) never never_at Q → Ends (λ d. if_gives (rd m k.defs k.id old d u) now (f d)) (length u) P J Y

abbrev WritesEnd : (Code → Type 0) → WritesBlock → Type 1
WritesEnd B wr = (m : Code) → B m → (k : Context) (old value : Data) (u : List ChoiceMade) (now : SectionRun) (P : Vars → Type 0) (J : Name → Vars → Type 0) (Y : Data → Vars → Type 0) (f : Words → Data → SectionRun → Out) (Q : Data → Vars → Type 0) → ((v : Data) (block : SectionRun) → Q v block.changes → Ends (λ d. f d v (with_choices block.choices now)) (words_used block) P J Y)
    → May (block_of k) m ((value_name, Some value) ∷ []) (content_state old) never never_at Q → Ends (λ d. if_gives (wr m k.defs k.id old value d u) now (f d)) (length u) P J Y

module _ (B : Code → Type 0) (rd : ReadsBlock) (wr : WritesBlock) (reads_end : ReadsEnd B rd) (writes_end : WritesEnd B wr) where
  -- the number of an arm that ends so, where the choice among n ways takes f of it
  record ArmEnds (k : Context) (cs : Codes) (env : Names) (run : SectionRun) (n : ℕ) (f : ℕ → ℕ) (P : Vars → Type 0) (J : Name → Vars → Type 0) (Y : Data → Vars → Type 0) : Type 0 where
    number : ℕ
    few : number < count cs
    arm : Ends (λ d. exec_arm_with rd wr k cs number env d (chosen n (f number) run)) (suc (words_used run)) P J Y

  mutual
    ends_with : (k : Context) (c : Code) (env : Names) (run : SectionRun) (P : Vars → Type 0) (J : Name → Vars → Type 0) (Y : Data → Vars → Type 0) → AreBlocks B c → May k c env run.changes P J Y → Ends (λ d. exec_with rd wr k c env d run) (words_used run) P J Y
    ends_with k Empty env run P J Y bl h = ends_now (words_used run) P J Y (Go run) refl h
    ends_with k Skip env run P J Y bl h = ends_now (words_used run) P J Y (Go run) refl h
    ends_with k (Let b w e c) env run P J Y bl h =
        let now = read_unmapped k e run in
        value_ends (words_used run) P J Y _ now h.0 (λ d v. exec_with rd wr k c ((w, Some v) ∷ env) d now) h.1 (ends_with k c ((w, Some h.0) ∷ env) now P J Y bl h.2)
    ends_with k (Pick b w e c) env run P J Y bl h =
        let q = picked_by h.1 h.0 h.3 in
        let now = read_unmapped k e run in
        let then' = chosen (length h.1) q.0 now in
        value_ends (words_used run) P J Y _ now h.1 (λ d ms. picked ms d now (λ v n. exec_with rd wr k c ((w, Some v) ∷ env) d n)) h.2 (ends_after (words_used run) P J Y q.0 (λ d. exec_with rd wr k c ((w, Some h.0) ∷ env) d then') _ (λ d r.
        q.1 d now (λ v n. exec_with rd wr k c ((w, Some v) ∷ env) d n) r) (ends_with k c ((w, Some h.0) ∷ env) then' P J Y bl h.4))
    ends_with k (Become p w) env run P J Y bl h =
        value_ends (words_used run) P J Y _ run h.0 (λ d v. Go (becoming p v run)) h.1 (ends_now (words_used run) P J Y (Go (becoming p h.0 run)) refl h.2)
    ends_with k (Set b p e) env run P J Y bl h =
        let now = read_unmapped k e run in
        value_ends (words_used run) P J Y _ now h.0 (λ d v. Go (becoming p v now)) h.1 (ends_now (words_used run) P J Y (Go (becoming p h.0 now)) refl h.2)
    ends_with k (Await e) env run P J Y bl h =
        let now = read_unmapped k e run in
        ends_as (words_used run) P J Y (λ d. Go now) _ (λ d. ap (λ o. if_true (truth_of o) now (Go now) (Stop Blocked now)) h.0) (ends_now (words_used run) P J Y (Go now) refl h.1)
    ends_with k (Assert e) env run P J Y bl h =
        let now = read_unmapped k e run in
        ends_as (words_used run) P J Y (λ d. Go now) _ (λ d. ap (λ o. if_true (truth_of o) now (Go now) (Stop AssertFails now)) h.0) (ends_now (words_used run) P J Y (Go now) refl h.1)
    ends_with k (Print e) env run P J Y bl h =
        let now = read_unmapped k e run in
        value_ends (words_used run) P J Y _ now h.0 (λ d v. Go (printed v now)) h.1 (ends_now (words_used run) P J Y (Go (printed h.0 now)) refl h.2)
    ends_with k (If e a b) env run P J Y bl (inl h) =
        let now = read_unmapped k e run in
        ends_as (words_used run) P J Y (λ d. exec_with rd wr k a env d now) _ (λ d. ap (λ o. if_true (truth_of o) now (exec_with rd wr k a env d now) (exec_with rd wr k b env d now)) h.0) (ends_with k a env now P J Y bl.0 h.1)
    ends_with k (If e a b) env run P J Y bl (inr h) =
        let now = read_unmapped k e run in
        ends_as (words_used run) P J Y (λ d. exec_with rd wr k b env d now) _ (λ d. ap (λ o. if_true (truth_of o) now (exec_with rd wr k a env d now) (exec_with rd wr k b env d now)) h.0) (ends_with k b env now P J Y bl.1 h.1)
    ends_with k (Either cs) env run P J Y bl h =
        let x = arm_with k cs env run (count cs) (λ i. i) P J Y bl h in
        ends_after (words_used run) P J Y x.number (λ d. exec_arm_with rd wr k cs x.number env d (chosen (count cs) x.number run)) _ (λ d r.
        ap (λ a. exec_arm_with rd wr k cs (a % count cs) env d (chosen (count cs) (a % count cs) run)) r
        ∙ ap (λ i. exec_arm_with rd wr k cs i env d (chosen (count cs) i run)) (mod-eq_of_lt x.few)) x.arm
    ends_with k (Seq a b) env run P J Y bl h =
        seq_ends P J Y (words_used run) (λ d. exec_with rd wr k a env d run) (λ d now. exec_with rd wr k b env d now) (λ st'. May k b env st' P J Y) (ends_with k a env run (λ st'. May k b env st' P J Y) J Y bl.0 h) (λ now x. ends_with k b env now P J Y bl.1 x)
    ends_with k (Goto l) env run P J Y bl h = ends_now (words_used run) P J Y (Jump l run) refl h
    ends_with k (Yield e) env run P J Y bl h =
        value_ends (words_used run) P J Y _ run h.0 (λ d v. Yielded v run) h.1 (ends_now (words_used run) P J Y (Yielded h.0 run) refl h.2)
    ends_with k (Read w g i m c) env run P J Y bl h =
        let rest = λ (j : Option Data) (d : Words) (r : Data × Option Data) (then' : SectionRun). with_value (put_new k g j r.1 run.changes) then' (λ ch. exec_with rd wr k c ((w, Some r.0) ∷ env) d (record then' { changes = ch })) in
        let block = λ (old : Data) (d : Words). rd m k.defs k.id old d run.choices in
        let now = touching k g h.0 run in
        value_ends (words_used run) P J Y _ run h.0 (λ d j. with_value (bindable (content k g j run.changes)) (touching k g j run) (λ old. if_gives (block old d) (touching k g j run) (rest j d))) h.2 (value_ends (words_used run) P J Y _ now h.1 (λ d old. if_gives (block old d) now (rest h.0 d)) h.3 (reads_end m bl.0 k h.1 run.choices now P J Y (rest h.0) (λ v mem. (st' : Vars) × (left_content k g h.0 mem run.changes ≡ Some st') × May k c ((w, Some v) ∷ env) st' P J Y) (λ v b z.
        let new = new_is (new_content b.changes) (λ n. put_new k g h.0 n run.changes) z.0 (sym (left_is k g h.0 b.changes run.changes) ∙ z.1) in
        let then' = with_choices b.choices now in
        (new.0, new.1, value_ends (words_used b) P J Y _ then' z.0 (λ d ch. exec_with rd wr k c ((w, Some v) ∷ env) d (record then' { changes = ch })) new.2 (ends_with k c ((w, Some v) ∷ env) (record then' { changes = z.0 }) P J Y bl.1 z.2))) h.4))
    ends_with k (Write g i w m) env run P J Y bl h =
        let rest = λ (j : Option Data) (d : Words) (v : Data) (then' : SectionRun). with_value (put_content k g j (Some v) run.changes) then' (λ ch. Go (record then' { changes = ch })) in
        let block = λ (old value : Data) (d : Words). wr m k.defs k.id old value d run.choices in
        let now = touching k g h.0 run in
        let x = h.4 in
        value_ends (words_used run) P J Y _ run h.0 (λ d j. with_value (bindable (content k g j run.changes)) (touching k g j run) (λ old. with_value (value_under w env) (touching k g j run) (λ value. if_gives (block old value d) (touching k g j run) (rest j d)))) h.2 (value_ends (words_used run) P J Y _ now h.1 (λ d old. with_value (value_under w env) now (λ value. if_gives (block old value d) now (rest h.0 d))) h.3 (value_ends (words_used run) P J Y _ now x.0 (λ d value. if_gives (block h.1 value d) now (rest h.0 d)) x.1 (writes_end m bl k h.1 x.0 run.choices now P J Y (rest h.0) (λ v mem. (st' : Vars) × (put_content k g h.0 (Some v) run.changes ≡ Some st') × P st') (λ v b z.
        let then' = with_choices b.choices now in
        value_ends (words_used b) P J Y _ then' z.0 (λ d ch. Go (record then' { changes = ch })) z.1 (ends_now (words_used b) P J Y (Go (record then' { changes = z.0 })) refl z.2)) x.2)))

    arm_with : (k : Context) (cs : Codes) (env : Names) (run : SectionRun) (n : ℕ) (f : ℕ → ℕ) (P : Vars → Type 0) (J : Name → Vars → Type 0) (Y : Data → Vars → Type 0) → AllAreBlocks B cs → SomeMay k cs env run.changes P J Y → ArmEnds k cs env run n f P J Y
    arm_with k no_codes env run n f P J Y bl h = absurd h
    arm_with k (more_codes c cs) env run n f P J Y bl (inl h) =
        record { number = 0; few = omega arith; arm = ends_with k c env (chosen n (f 0) run) P J Y bl.0 h }
    arm_with k (more_codes c cs) env run n f P J Y bl (inr h) =
        let x = arm_with k cs env run n (λ i. f (suc i)) P J Y bl.1 h in
        record { number = suc x.number; few = omega (arith, x.few); arm = x.arm }

ends_block : (k : Context) (c : Code) (env : Names) (run : SectionRun) (P : Vars → Type 0) (J : Name → Vars → Type 0) (Y : Data → Vars → Type 0) → IsBlock c → May k c env run.changes P J Y → Ends (λ d. exec_block k c env d run) (words_used run) P J Y
ends_block =
    ends_with (λ b. ⊥) no_reads no_writes (λ m b k old u now P J Y f Q step h. absurd b) (λ m b k old value u now P J Y f Q step h. absurd b)

pub ends_from : (k : Context) (c : Code) (env : Names) (run : SectionRun) (P : Vars → Type 0) (J : Name → Vars → Type 0) (Y : Data → Vars → Type 0) → HasBlocks c → May k c env run.changes P J Y → Ends (λ d. exec k c env d run) (words_used run) P J Y
ends_from =
    ends_with IsBlock block_read block_write (λ m b k old u now P J Y f Q step h.
    read_ends P J Y (length u) now (λ d. exec_block (block_of k) m [] d (begun (content_state old) u)) f Q (ends_block (block_of k) m [] (begun (content_state old) u) never never_at Q b h) step) (λ m b k old value u now P J Y f Q step h.
    write_ends P J Y (length u) now (λ d. exec_block (block_of k) m ((value_name, Some value) ∷ []) d (begun (content_state old) u)) f Q (ends_block (block_of k) m ((value_name, Some value) ∷ []) (begun (content_state old) u) never never_at Q b h) step)
