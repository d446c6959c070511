-- The expansion of a section allows exactly the steps that the section allows.
use Rattle.std.proofs.Common.{◌≡◌, ℕ, suc, ◌-◌, ◌<◌, ◌^◌, Bool, true, false, if◌then◌else◌, List, [], ◌∷◌, ◌++◌, length, Option, Some, None, ◌↔◌, refl, sym, ap, ◌∙◌, subst, arith, option_and_then, option_map, append_assoc, length-append}
use Rattle.pgo_base.specs.Data.{Data, string}
use Rattle.pgo_base.specs.Lookup.{Name, Names, Vars, same_name, find}
use Rattle.pgo_base.specs.Tree.{name}
use Rattle.pgo_model.specs.Names.{AreDifferent, same_name-self, same_name-is, is_among}
use Rattle.pgo_model.specs.Operators.{apply, both}
use Rattle.pgo_model.specs.Options.{on}
use Rattle.pgo_model.specs.Outcome.{NoValue, Next, Stuck, Nowhere}
use Rattle.pgo_model.specs.State.{is_shallow}
use Rattle.pgo_model.specs.Val.{or_else, sem, plain, call_def, meanings, index_of}
use Rattle.pgo_model.specs.Written.{pc, self_name}
use Rattle.pgo_sections.specs.SectionsAgree.{IsPlace, Fit, PathAgrees, SectionsAgree}
use Rattle.pgo_sections.specs.Blocks.{HasBlocks}
use Rattle.pgo_sections.specs.Code.{Place, Whole, Own, Code}
use Rattle.pgo_sections.specs.Macros.{exec}
use Rattle.pgo_sections.specs.Context.{Context, value_before}
use Rattle.pgo_sections.specs.SectionRun.{SectionRun, begun, Out, Go, Jump, Yielded, Stop}
use Rattle.pgo_sections.specs.Section.{closed_value, closed, end_of, if_shallow, SectionReaches}
use Rattle.pgo_model.specs.Choice.{word_at}
use Rattle.pgo_sections.specs.BoundValues.{put_part, value_put, value_under}
use Rattle.pgo_sections.specs.Expand.{Current, untouched, no_go, settled, to_end, no_yield, expansion}
use Rattle.pgo_sections.specs.Nodes.{most_names}
use Rattle.pgo_sections.specs.Expansion.{PathContext, value_at_end, EndsIn}
use Rattle.pgo_sections.specs.WellFormed.{Bindable, PlainCode}
use Rattle.pgo_sections.proofs.Apart.{apart, self_not_made}
use Rattle.pgo_sections.proofs.Closing.{among_nth, nth_among, found_among, not_among, closed_at, closed_is}
use Rattle.pgo_sections.proofs.Here.{on_path, SimName, Changed, Here}
use Rattle.pgo_sections.proofs.Iff.{iff_same, iff_then}
use Rattle.pgo_sections.proofs.Later.{find_in, find_on, find_past, turned, hidden_not, AllLater}
use Rattle.pgo_sections.proofs.May.{May, never}
use Rattle.pgo_sections.proofs.Paths.{path_may}
use Rattle.pgo_sections.proofs.Settled.{settled_has}
use Rattle.pgo_sections.proofs.Words.{Holds, may_from, ends_from, Reads}

abbrev no_gift : Data → Vars → Type 0
no_gift v ch = ⊥

-- a list of words has its words
read_word : (front : List ℕ) (w : ℕ) (ws : List ℕ) → word_at (front ++ w ∷ ws) (length front) ≡ w
read_word [] w ws = refl
read_word (x ∷ front) w ws = read_word front w ws

reads_all : (front ws : List ℕ) → Reads (word_at (front ++ ws)) (length front) ws
reads_all front [] = tt
reads_all front (w ∷ ws) = (read_word front w ws, again (reads_all (front ++ w ∷ []) ws))
  where
    again : Reads (word_at ((front ++ w ∷ []) ++ ws)) (length (front ++ w ∷ [])) ws → Reads (word_at (front ++ w ∷ ws)) (suc (length front)) ws
    again h =
        let same : (front ++ w ∷ []) ++ ws ≡ front ++ w ∷ ws = append_assoc front (w ∷ []) ws in
        let long : length (front ++ w ∷ []) ≡ suc (length front) = omega (arith, length-append front (w ∷ [])) in
        subst (λ n. Reads (word_at (front ++ w ∷ ws)) n ws) long (subst (λ l. Reads (word_at l) (length (front ++ w ∷ [])) ws) same h)

module _ (a : PathContext) (k : Context) (t : Vars) (f : Fit a k t) where
  abbrev J : Name → Vars → Type 0
  J l ch = closed k l ch k.start ≡ Some t

  abbrev L : ℕ
  L = 2 ^ 64 - 1

  not_there : (x : Name) → is_among x a.variables ≡ false → find x k.start ≡ None
  not_there x h = not_among k.start x (ap (λ l. is_among x l) f.before ∙ h)

  there : (x : Name) → is_among x a.variables ≡ true → (v : Data) × (find x k.start ≡ Some v)
  there x h = found_among k.start x (ap (λ l. is_among x l) f.before ∙ h)

  -- what the section does by words is what it may
  reaches_may : (c : Code) → HasBlocks c → May k c [] [] never J no_gift ↔ SectionReaches k c t
  reaches_may c bl = (forward, backward)
    where
      ended_next : (o : Out) → Holds never J no_gift o → (prints : List Data) × (end_of k o ≡ Next t prints)
      ended_next (Go run) h = absurd h
      ended_next (Jump l run) h =
          (run.prints, ap (λ q. on (Stuck NoValue) q (if_shallow run.prints)) h ∙ ap (λ b. if b then Next t run.prints else Stuck NoValue) f.shallow)
      ended_next (Yielded v run) h = absurd h
      ended_next (Stop kind run) h = absurd h

      forward : May k c [] [] never J no_gift → SectionReaches k c t
      forward m =
          let x = ends_from k c [] (begun [] []) never J no_gift bl m in
          let e = ended_next x.out x.holds in
          record { words = x.words; prints = e.0; leads = ap (end_of k) (x.runs (word_at x.words) (reads_all [] x.words)) ∙ e.1 }

      next_is : (t' : Vars) (prints prints' : List Data) (b : Bool) → (if b then Next t' prints else Stuck NoValue) ≡ Next t prints' → t' ≡ t
      next_is t' prints prints' true e = ap (λ o. elim o as (λ o. Vars) [ Next q p ↦ q | Stuck q ↦ t | Nowhere ↦ t ]) e
      next_is t' prints prints' false e = absurd (grind (arith, e))

      jumped : (l : Name) (run : SectionRun) (q : Option Vars) → closed k l run.changes k.start ≡ q → (prints : List Data) → on (Stuck NoValue) q (if_shallow run.prints) ≡ Next t prints → J l run.changes
      jumped l run None e prints g = absurd (grind (arith, g))
      jumped l run (Some t') e prints g = e ∙ ap (λ z. Some z) (next_is t' run.prints prints (is_shallow t') g)

      holds : (o : Out) (prints : List Data) → end_of k o ≡ Next t prints → Holds never J no_gift o
      holds (Go run) prints e = absurd (grind (arith, e))
      holds (Jump l run) prints e = jumped l run (closed k l run.changes k.start) refl prints e
      holds (Yielded v run) prints e = absurd (grind (arith, e))
      holds (Stop kind run) prints e = absurd (grind (arith, e))

      backward : SectionReaches k c t → May k c [] [] never J no_gift
      backward r =
          may_from k c [] (word_at r.words) (begun [] []) never J no_gift bl (holds (exec k c [] (word_at r.words) (begun [] [])) r.prints r.leads)

  -- the end of the path
  end_value : (n : ℕ) (cur : Current) (env : Names) (ch : Vars) (l x : Name) (old : Data) → Changed a.variables L apart k.start t (meanings a.defs k.start (Some t)) not_there n cur env ch → find x k.start ≡ Some old → value_at_end a env cur l k.start x ≡ option_and_then (closed_value k l ch x) (find x k.start)
  end_value n cur env ch l x old long e = go (same_name x pc) refl ∙ sym (ap (option_and_then (closed_value k l ch x)) e)
    where
      put_same : (y : Name) (v v' : Data) → Some v ≡ Some v' → find y env ≡ Some (Some v') → value_put (is_among x a.globals) a.id (find x k.start) (value_under y env) ≡ value_put (is_among x k.globals) k.id (Some old) (Some v)
      put_same y v v' same found =
          let under : value_under y env ≡ Some v = ap (option_and_then (λ o. o)) found ∙ sym same in
          λ i. value_put (is_among x (f.globals i)) (f.id i) (e i) (under i)

      changed : (o : Option Name) (q : Option Data) → SimName a.variables L apart k.start t (meanings a.defs k.start (Some t)) not_there n env o (option_map (λ v. Some v) q) → on (find x k.start) o (λ y. value_put (is_among x a.globals) a.id (find x k.start) (value_under y env)) ≡ on (Some old) q (λ v. value_put (is_among x k.globals) k.id (Some old) (Some v))
      changed None None sim = e
      changed None (Some v) sim = absurd sim
      changed (Some y) None sim = absurd sim
      changed (Some y) (Some v) sim = put_same y v sim.0 sim.1 (sim.2 [] tt)

      go : (b : Bool) → same_name x pc ≡ b → value_at_end a env cur l k.start x ≡ closed_value k l ch x old
      go true same =
          ap (λ b. if b then put_part a.id (find pc k.start) (Some (string l)) else on (find x k.start) (find x cur) (λ y. value_put (is_among x a.globals) a.id (find x k.start) (value_under y env))) same
          ∙ (let here : find pc k.start ≡ Some old = ap (λ y. find y k.start) (sym (same_name-is x pc same)) ∙ e in λ i. put_part (f.id i) (here i) (Some (string l)))
          ∙ sym (ap (λ b. if b then put_part k.id (Some old) (Some (string l)) else on (Some old) (find x ch) (λ v. value_put (is_among x k.globals) k.id (Some old) (Some v))) same)
      go false same =
          ap (λ b. if b then put_part a.id (find pc k.start) (Some (string l)) else on (find x k.start) (find x cur) (λ y. value_put (is_among x a.globals) a.id (find x k.start) (value_under y env))) same
          ∙ changed (find x cur) (find x ch) (long.1 x)
          ∙ sym (ap (λ b. if b then put_part k.id (Some old) (Some (string l)) else on (Some old) (find x ch) (λ v. value_put (is_among x k.globals) k.id (Some old) (Some v))) same)

  -- the assignments give a variable what its newest made name gives
  settled_value : (cur : Current) (env : Names) (l x : Name) → is_among x a.variables ≡ true → value_at_end a env (settled a.variables cur) l k.start x ≡ value_at_end a env cur l k.start x
  settled_value cur env l x is =
      ap (λ o. if same_name x pc then put_part a.id (find pc k.start) (Some (string l)) else on (find x k.start) o (λ y. value_put (is_among x a.globals) a.id (find x k.start) (value_under y env))) (settled_has a.variables cur x is)

  ends_may : (n : ℕ) (cur : Current) (env : Names) (ch : Vars) (l : Name) → Changed a.variables L apart k.start t (meanings a.defs k.start (Some t)) not_there n cur env ch → EndsIn a env (settled a.variables cur) l k.start t ↔ J l ch
  ends_may n cur env ch l long = (forward, backward)
    where
      forward : EndsIn a env (settled a.variables cur) l k.start t → J l ch
      forward h =
          closed_is k l ch k.start t (f.after ∙ sym f.before) (subst AreDifferent (sym f.before) f.distinct) (λ x is.
          let among : is_among x a.variables ≡ true = ap (λ xs. is_among x xs) (sym f.before) ∙ is in
          let at_n = nth_among a.variables x among in
          let old = there x among in
          h at_n.0 x at_n.1 ∙ settled_value cur env l x among ∙ end_value n cur env ch l x old.0 long old.1)

      backward : J l ch → EndsIn a env (settled a.variables cur) l k.start t
      backward h m x is =
          let among = among_nth a.variables m x is in
          let old = there x among in
          closed_at k l ch k.start t h x ∙ sym (end_value n cur env ch l x old.0 long old.1) ∙ sym (settled_value cur env l x among)

  -- the start of the path
  start_env : Names
  start_env = (self_name, Some a.id) ∷ []

  variable_hidden : (x : Name) → is_among x a.variables ≡ true → (y : Name) → Bindable a.variables y → same_name x y ≡ false
  variable_hidden x is y bind = go (same_name x y) refl
    where
      go : (b : Bool) → same_name x y ≡ b → same_name x y ≡ false
      go true e = absurd (let p : is_among y a.variables ≡ true = ap (λ z. is_among z a.variables) (sym (same_name-is x y e)) ∙ is in let q = bind.1 in grind (arith, p, q))
      go false e = e

  self_found : (Δ : Names) → AllLater a.variables L apart 0 Δ → find self_name (Δ ++ (self_name, Some a.id) ∷ []) ≡ Some (Some k.id)
  self_found Δ later =
      find_past Δ ((self_name, Some a.id) ∷ []) self_name (hidden_not a.variables L apart self_name 0 Δ self_not_made (λ y bind. turned y self_name bind.2) later)
      ∙ find_in self_name (self_name, Some a.id) [] (same_name-self self_name)
      ∙ ap (λ v. Some (Some v)) f.id

  variable_is : (x : Name) → is_among x a.variables ≡ true → (Δ : Names) → AllLater a.variables L apart 0 Δ → (part : Option Data) → sem (name x) (on_path a.variables L apart k.start t (meanings a.defs k.start (Some t)) not_there part (Δ ++ (self_name, Some a.id) ∷ [])) ≡ plain (find x k.start)
  variable_is x is Δ later part =
      let wr = f.written x is in
      let v = there x is in
      ap (λ o. plain (or_else o (λ z. z) (or_else (find x k.start) (λ z. Some z) (call_def x [] (meanings a.defs k.start (Some t)))))) (find_past Δ ((self_name, Some a.id) ∷ []) x (hidden_not a.variables L apart x 0 Δ wr.0 (variable_hidden x is) later) ∙ find_on x (self_name, Some a.id) [] wr.1)
      ∙ ap (λ o. plain (or_else o (λ z. Some z) (call_def x [] (meanings a.defs k.start (Some t))))) v.1
      ∙ sym (ap plain v.1)

  start_valued : (p : Place) → IsPlace k p → (Δ : Names) → AllLater a.variables L apart 0 Δ → (part : Option Data) → sem (untouched p) (on_path a.variables L apart k.start t (meanings a.defs k.start (Some t)) not_there part (Δ ++ (self_name, Some a.id) ∷ [])) ≡ plain (value_before k p)
  start_valued (Whole g) is Δ later part = variable_is g (f.inside (Whole g) is) Δ later part
  start_valued (Own x) is Δ later part =
      let p = variable_is x (f.inside (Own x) is) Δ later part in
      let q = ap (λ o. plain (or_else o (λ z. z) (or_else (find self_name k.start) (λ z. Some z) (call_def self_name [] (meanings a.defs k.start (Some t)))))) (self_found Δ later) in
      λ i. plain (both apply (p i).value (option_and_then index_of (both (λ v rest. Some (v ∷ rest)) (q i).value (Some []))))

  start_here : Here a.variables L apart k.start t (meanings a.defs k.start (Some t)) not_there k 0 [] [] ((self_name, Some a.id) ∷ []) [] []
  start_here = record {
    named = λ x. tt;
    valued = start_valued;
    self_is = self_found;
    others = λ x s not_self. find_on x (self_name, Some a.id) [] not_self;
    long = (refl, λ x. tt);
  }

  pub section_agrees : (c : Code) → HasBlocks c → PlainCode a.variables k.globals k.places [] c → most_names (expansion a.variables k.places c) < 2 ^ 64 → PathAgrees a k c t
  section_agrees c bl pl few =
      iff_then (path_may a.variables L apart a k.start t not_there c k (record { places = f.places; defs = f.defs }) 0 [] [] ((self_name, Some a.id) ∷ []) [] [] no_go (to_end a.variables) no_yield never J no_gift pl (omega (arith, few)) start_here (record {
        on_go = λ cur n env ch l m x v long. iff_same;
        on_jump = λ l cur n env ch le m x v long. ends_may n cur env ch l long;
        on_yield = λ e cur n env ch l m x v long. (λ b. absurd b, λ p. absurd p.2);
      })) (reaches_may c bl)

pub sections_agree : SectionsAgree
sections_agree a k c t f bl pl few = section_agrees a k t f c bl pl few
