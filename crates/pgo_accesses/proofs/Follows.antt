-- A section's code does what the tree of its accesses says: one induction over the code.
use Rattle.std.proofs.Common.{◌≡◌, ℕ, zero, suc, Bool, true, false, List, [], ◌∷◌, ◌++◌, length, Option, Some, None, ◌⊎◌, inl, inr, refl, sym, ap, ◌∙◌, subst, arith, option_map, option_and_then}
use Rattle.std.specs.Prelude.{get_or, if◌then◌else◌}
use Rattle.pgo_base.specs.Data.{Data}
use Rattle.pgo_base.specs.Lookup.{Name, Names, Vars, same_name, find}
use Rattle.pgo_base.specs.Tree.{Tree}
use Rattle.pgo_model.specs.Choice.{pick}
use Rattle.pgo_model.specs.Core.{number_among, numbers_of}
use Rattle.pgo_model.specs.Machine.{put}
use Rattle.pgo_model.specs.Operators.{members_of, truth_of}
use Rattle.pgo_model.specs.Options.{on}
use Rattle.pgo_model.specs.Outcome.{Blocked, NoValue, AssertFails}
use Rattle.pgo_model.specs.System.{Words, Resource, Touched}
use Rattle.pgo_model.specs.Names.{is_among}
use Rattle.pgo_sections.specs.BoundValues.{bindable, value_under}
use Rattle.pgo_sections.specs.ChoiceTrees.{in_order}
use Rattle.pgo_sections.specs.Code.{Place, Whole, Own, Code, Empty, Skip, Let, Pick, Become, Set, Await, Assert, Print, If, Either, Seq, Goto, Yield, Read, Write, Codes, no_codes, more_codes}
use Rattle.pgo_sections.specs.Context.{Context, content, index_value, put_content, put_new, value_of, with_content}
use Rattle.pgo_sections.specs.Domains.{Uses, AllUse}
use Rattle.pgo_sections.specs.Exec.{MacroEnd, Gives, Stops, if_gives, with_choices, touching, read_unmapped, becoming, count, exec_arm_with}
use Rattle.pgo_sections.specs.Macros.{block_read, block_write, exec}
use Rattle.pgo_sections.specs.SectionRun as runs
use Rattle.pgo_sections.specs.SectionRun.{ChoiceMade, SectionRun, Out, Go, Jump, Yielded, changed, printed, choice_among, chosen, picked, picked_number, go_on}
use Rattle.pgo_workers.specs.Operations.{part_of, with_part, read_put, write_put}
use Rattle.pgo_workers.specs.Tried.{Blocks, LeafTree}
use Rattle.pgo_workers.specs.Walk as walks
use Rattle.pgo_workers.specs.Walk.{Touch, Ahead}
use Rattle.pgo_accesses.specs.Accesses as accesses
use Rattle.pgo_accesses.specs.Accesses.{Attempt, Progress, evaluating, with_value, if_true, with_member, putting, printing, choosing, reading, writing, read_here, write_here, left_by_read, left_by_write, behind_read, behind_write, can_stand, accesses_of_arm, ended, no_value, stuck, waits, fails}
use Rattle.pgo_accesses.specs.Assigned.{AssignsBound, AllAssign}
use Rattle.pgo_accesses.proofs.Evaluated.{evaluated, numbers_one}
use Rattle.pgo_accesses.proofs.Mapped.{Mapped, Outside, Inside, IsMapped, mapped_at}
use Rattle.pgo_accesses.proofs.Parts.{bound_low}
use Rattle.pgo_accesses.proofs.Related.{accessed, attempt, IsWhole, IsElements, AsBound, Related, own_changed, whole_changed}
use Rattle.pgo_accesses.proofs.Yields.{IsLow, block_gives_low}

append_none : {A : Type 0} (l : List A) → l ++ [] ≡ l
append_none [] = refl
append_none (x ∷ l) = ap (λ k. x ∷ k) (append_none l)

module _ (K : Context) (rs : List Resource) (at_start : walks.Own) (d : Words) (w0 : LeafTree) (f0 : ℕ → Data) where
  abbrev a : Attempt
  a = attempt K rs at_start d

  -- what is left of the tree where the code has run so far
  pub record At (w : LeafTree) (run : SectionRun) (p : Progress) (g : ℕ → Data) : Type 0 where
    pub ahead : Ahead w0 f0 (numbers_of rs run.trace) w g
    pub related : Related K rs at_start d run.changes run.choices run.prints p g

  -- how code ends, the tree goes on as f says, or ends so
  abbrev pub Arrives : Out → (Progress → LeafTree) → Type 0
  Arrives (Go run) f = (p : Progress) × (g : ℕ → Data) × At (f p) run p g
  Arrives (Jump l run) f = (p : Progress) × (g : ℕ → Data) × At (ended a l p) run p g
  Arrives (Yielded v run) f = Unit {0}
  Arrives (runs.Stop kind run) f = (g : ℕ → Data) × Ahead w0 f0 (numbers_of rs run.trace) (walks.Stop (stuck kind run.choices)) g

  -- the places that are assigned, and the mapped parameters
  abbrev pub PlaceHere : Place → Type 0
  PlaceHere (Whole g) = IsWhole K rs at_start d g
  PlaceHere (Own y) = (is_among y K.globals ≡ false) × (is_among y K.owns ≡ true)

  abbrev pub MappedHere : Name → Option Name → Type 0
  MappedHere g None = IsWhole K rs at_start d g
  MappedHere g (Some i) = IsWhole K rs at_start d g ⊎ IsElements K rs at_start d g

  abbrev pub UsesHere : Code → Type 0
  UsesHere = Uses PlaceHere MappedHere

  -- these names have values that can stand in a set
  abbrev pub AreLow : List Name → Names → Type 0
  AreLow ws env = (w : Name) → is_among w ws ≡ true → (v : Data) → value_under w env ≡ Some v → IsLow v

  low_more : (ws : List Name) (env : Names) (w : Name) (v : Data) → IsLow v → AreLow ws env → AreLow (w ∷ ws) ((w, Some v) ∷ env)
  low_more ws env w v low h x among u e = go (same_name x w) among e
    where
      go : (b : Bool) → Rattle.std.proofs.Common.◌||◌ b (is_among x ws) ≡ true → option_and_then (λ o. o) (if b then Some (Some v) else find x env) ≡ Some u → IsLow u
      go true among e = let s : v ≡ u = cc in subst IsLow s low
      go false among e = h x among u e

  -- ---- steps

  valued : {A : Type 0} (o : Option A) (run : SectionRun) (F : A → LeafTree) (f : A → Out) (p : Progress) (g : ℕ → Data) (cont : Progress → LeafTree) → At (with_value o F) run p g
      → ((v : A) → o ≡ Some v → At (F v) run p g → Arrives (f v) cont) → Arrives (runs.with_value o run f) cont
  valued None run F f p g cont h k = (g, h.ahead)
  valued (Some v) run F f p g cont h k = k v refl h

  decided : (o : Option Bool) (run : SectionRun) (x y : LeafTree) (s t : Out) (p : Progress) (g : ℕ → Data) (cont : Progress → LeafTree) → At (if_true o x y) run p g
      → (At x run p g → Arrives s cont) → (At y run p g → Arrives t cont) → Arrives (runs.if_true o run s t) cont
  decided (Some true) run x y s t p g cont h k l = k h
  decided (Some false) run x y s t p g cont h k l = l h
  decided None run x y s t p g cont h k l = (g, h.ahead)

  -- one more choice
  chooses : (w : LeafTree) (run : SectionRun) (p : Progress) (g : ℕ → Data) (n i : ℕ) → At w run p g → At w (chosen n i run) (choosing n i p) g
  chooses w run p g n i h = record {
    ahead = h.ahead;
    related = record { own = h.related.own; whole = h.related.whole; elements = h.related.elements; points = ap (λ cs. choice_among n i ∷ cs) h.related.points; prints = h.related.prints; deep = h.related.deep; only = h.related.only; changed = h.related.changed };
  }

  -- it waits, behind the choices of the run
  waiting : (run : SectionRun) (p : Progress) (g : ℕ → Data) → At (waits p) run p g → Ahead w0 f0 (numbers_of rs run.trace) (walks.Stop (Blocks (in_order run.choices))) g
  waiting run p g h = subst (λ cs. Ahead w0 f0 (numbers_of rs run.trace) (walks.Stop (Blocks (in_order cs))) g) h.related.points h.ahead

  chosen_one : (ms : List Data) (run : SectionRun) (F : Data → Progress → LeafTree) (f : Data → SectionRun → Out) (p : Progress) (g : ℕ → Data) (cont : Progress → LeafTree) → At (with_member a ms p F) run p g
      → ((v : Data) (n i : ℕ) → At (F v (choosing n i p)) (chosen n i run) (choosing n i p) g → Arrives (f v (chosen n i run)) cont) → Arrives (picked ms d run f) cont
  chosen_one [] run F f p g cont h k = (g, waiting run p g h)
  chosen_one (m ∷ ms) run F f p g cont h k =
      let n = length (m ∷ ms) in
      let i = picked_number d run n in
      let v = get_or (m ∷ ms) i m in
      let here = subst (λ (cs : List ChoiceMade). let j = pick (d (length cs)) n in At (F (get_or (m ∷ ms) j m) (choosing n j p)) run p g) h.related.points h in
      k v n i (chooses (F v (choosing n i p)) run p g n i here)

  -- the value of an expression
  evaluates : AsBound K rs at_start d → (e : Tree) (env : Names) (F : Option Data → LeafTree) (run : SectionRun) (p : Progress) (g : ℕ → Data) → At (evaluating a e env p F) run p g → At (F (value_of K e env run.changes)) (read_unmapped K e run) p g
  evaluates G e env F run p g h = record {
    ahead = evaluated K rs at_start d G w0 f0 e env F run.trace run.changes run.choices run.prints p g h.related h.ahead;
    related = h.related;
  }

  -- a resource is accessed
  touches : (c : Touched) (r : ℕ) (leave : Data → Data) (rest : Data → LeafTree) (ts : List Touched) (g : ℕ → Data) → number_among rs c ≡ Some r → Ahead w0 f0 (numbers_of rs ts) (Touch r leave rest) g
      → Ahead w0 f0 (numbers_of rs (ts ++ (c ∷ []))) (rest (g r)) (put r (leave (g r)) g)
  touches c r leave rest ts g e h =
      subst (λ l. Ahead w0 f0 l (rest (g r)) (put r (leave (g r)) g)) (sym (numbers_one K rs at_start d c r ts e)) (accessed w0 f0 g (numbers_of rs ts) r leave rest h)

  -- a place is assigned
  puts : AsBound K rs at_start d → (s : Place) (v : Data) (run : SectionRun) (p : Progress) (g : ℕ → Data) (cont : Progress → LeafTree) → PlaceHere s → IsLow v → At (putting a s v p cont) run p g → Arrives (Go (becoming s v run)) cont
  puts G (Whole y) v run p g cont is low h =
      let r = is.1.0 in
      let first = subst (λ o. Ahead w0 f0 (numbers_of rs run.trace) (with_value o (λ r. Touch r (λ old. v) (λ old. cont (accesses.becoming false r v p)))) g) is.1.1 h.ahead in
      let next = whole_changed K rs at_start d G y v r run.changes run.choices run.prints p g is.0 is.1.1 low h.related in (
        accesses.becoming false r v p,
        put r v g,
        record {
          ahead = touches (y, None) r (λ old. v) (λ old. cont (accesses.becoming false r v p)) run.trace g is.1.1 first;
          related = subst (λ b. Related K rs at_start d ((y, v) ∷ run.changes) run.choices run.prints (accesses.becoming b r v p) (put r v g)) is.0 next;
        },
      )
  puts G (Own y) v run p g cont is low h = (
    record p { changes = (y, v) ∷ p.changes },
    g,
    record {
      ahead = subst (λ ts. Ahead w0 f0 (numbers_of rs ts) (cont (record p { changes = (y, v) ∷ p.changes })) g) (sym (append_none run.trace)) h.ahead;
      related = own_changed K rs at_start d G y v run.changes run.choices run.prints p g is.0 is.1 low h.related;
    },
  )

  -- with the choices that a block made
  with_points : (ch : Vars) (cs es : List ChoiceMade) (ps : List Data) (p : Progress) (g : ℕ → Data) → Related K rs at_start d ch cs ps p g → Related K rs at_start d ch es ps (record p { points = es }) g
  with_points ch cs es ps p g h = record { own = h.own; whole = h.whole; elements = h.elements; points = refl; prints = h.prints; deep = h.deep; only = h.only; changed = h.changed }

  -- ---- a mapped parameter is read

  module _ (G : AsBound K rs at_start d) (y : Name) (j : Option Data) (block : Code) (run : SectionRun) (p : Progress) (g : ℕ → Data) (R : Related K rs at_start d run.changes run.choices run.prints p g) where
    abbrev moved : SectionRun
    moved = touching K y j run

    -- the walk behind the access
    module _ (r : ℕ) (at : Option Data) (m : Mapped K rs at_start d y j run.changes g r at) where
      abbrev Behind : (Data → LeafTree) → Data → Type 0
      Behind rest left = Ahead w0 f0 (numbers_of rs moved.trace) (rest (g r)) (put r left g)

      -- what the block gives is put back
      module _ (F : Data → Progress → LeafTree) (f : Data → SectionRun → Out) (cont : Progress → LeafTree) (k : (v : Data) (run : SectionRun) (p : Progress) (g : ℕ → Data) → IsLow v → At (F v p) run p g → Arrives (f v run) cont) where
        abbrev ReadBack : MacroEnd (Data × Data) → Type 0
        ReadBack x = Ahead w0 f0 (numbers_of rs moved.trace) (behind_read (K.by_element y) r p x F) (put r (left_by_read (g r) x) g)

        abbrev goes_on : Data × Option Data → SectionRun → Out
        goes_on x then' = runs.with_value (put_new K y j x.1 run.changes) then' (λ ch. f x.0 (record then' { changes = ch }))

        put_read : (v : Data) (o : Option Data) (cs : List ChoiceMade) → IsLow v → ReadBack (read_put at (g r) (Gives (v, o) cs)) → Arrives (goes_on (v, o) (with_choices cs moved)) cont
        put_read v None cs low h =
            let q = record p { points = cs } in
            k v (record (with_choices cs moved) { changes = run.changes }) (accesses.becoming (K.by_element y) r (g r) q) (put r (g r) g) low (record {
              ahead = subst (λ b. Ahead w0 f0 (numbers_of rs moved.trace) (if b then F v (accesses.becoming (K.by_element y) r (g r) q) else no_value) (put r (g r) g)) m.low h;
              related = m.stays cs run.prints q (with_points run.changes run.choices cs run.prints p g R);
            })
        put_read v (Some new) cs low h = back (with_part at new (g r)) refl h
          where
            stood : (w : Data) → with_part at new (g r) ≡ Some w → (b : Bool) → can_stand (K.by_element y) w ≡ b
                → Ahead w0 f0 (numbers_of rs moved.trace) (if b then F v (accesses.becoming (K.by_element y) r w (record p { points = cs })) else no_value) (put r w g)
                → Arrives (runs.with_value (option_map (λ u. (y, u) ∷ run.changes) (bindable (with_content K y j (Some new) run.changes))) (with_choices cs moved) (λ ch. f v (record (with_choices cs moved) { changes = ch }))) cont
            stood w q true s h =
                let c = m.change new w q s in
                let p' = record p { points = cs } in
                subst (λ o. Arrives (runs.with_value (option_map (λ u. (y, u) ∷ run.changes) o) (with_choices cs moved) (λ ch. f v (record (with_choices cs moved) { changes = ch }))) cont) (sym c.1)
                (k v (record (with_choices cs moved) { changes = (y, c.0) ∷ run.changes }) (accesses.becoming (K.by_element y) r w p') (put r w g) low (record {
                  ahead = h;
                  related = c.2 cs run.prints p' (with_points run.changes run.choices cs run.prints p g R);
                }))
            stood w q false s h =
                subst (λ o. Arrives (runs.with_value (option_map (λ u. (y, u) ∷ run.changes) o) (with_choices cs moved) (λ ch. f v (record (with_choices cs moved) { changes = ch }))) cont) (sym (m.high new w q s))
                (put r w g, h)

            back : (o : Option Data) → with_part at new (g r) ≡ o → ReadBack (on (Stops NoValue cs) o (λ w. Gives (v, w) cs))
                → Arrives (runs.with_value (option_map (λ u. (y, u) ∷ run.changes) (bindable (with_content K y j (Some new) run.changes))) (with_choices cs moved) (λ ch. f v (record (with_choices cs moved) { changes = ch }))) cont
            back None q h =
                subst (λ o. Arrives (runs.with_value (option_map (λ u. (y, u) ∷ run.changes) o) (with_choices cs moved) (λ ch. f v (record (with_choices cs moved) { changes = ch }))) cont) (sym (m.none new q))
                (put r (g r) g, h)
            back (Some w) q h = stood w q (can_stand (K.by_element y) w) refl h

        gives_read : (x : MacroEnd (Data × Option Data)) → ((v : Data × Option Data) (cs : List ChoiceMade) → x ≡ Gives v cs → IsLow v.0) → ReadBack (read_put at (g r) x) → Arrives (if_gives x moved goes_on) cont
        gives_read (Gives v cs) low h = put_read v.0 v.1 cs (low v cs refl) h
        gives_read (Stops kind cs) low h = (put r (g r) g, h)

        read_inside : ReadBack (read_here a block at p.points (g r)) → Arrives (runs.with_value (bindable (content K y j run.changes)) moved (λ old. if_gives (block_read block K.defs K.id old d run.choices) moved goes_on)) cont
        read_inside h =
            subst (λ o. Arrives (runs.with_value (bindable o) moved (λ old. if_gives (block_read block K.defs K.id old d run.choices) moved goes_on)) cont) (sym m.content_is)
            (go (part_of at (g r)) refl (subst (λ cs. ReadBack (read_here a block at cs (g r))) R.points h))
          where
            go : (o : Option Data) → part_of at (g r) ≡ o → ReadBack (on (Stops NoValue run.choices) o (λ old. read_put at (g r) (block_read block K.defs K.id old d run.choices)))
                → Arrives (runs.with_value (bindable o) moved (λ old. if_gives (block_read block K.defs K.id old d run.choices) moved goes_on)) cont
            go None e h = (put r (g r) g, h)
            go (Some old) e h =
                subst (λ o. Arrives (runs.with_value o moved (λ old. if_gives (block_read block K.defs K.id old d run.choices) moved goes_on)) cont) (sym (m.part_low old e))
                (gives_read (block_read block K.defs K.id old d run.choices) (λ v cs q. block_gives_low block K.defs K.id old d run.choices v cs q) h)

      -- ---- or written
      module _ (cont : Progress → LeafTree) where
        abbrev WrittenBack : MacroEnd Data → Type 0
        WrittenBack x = Ahead w0 f0 (numbers_of rs moved.trace) (behind_write (K.by_element y) r p x cont) (put r (left_by_write (g r) x) g)

        abbrev ends_so : Data → SectionRun → Out
        ends_so new then' = runs.with_value (put_content K y j (Some new) run.changes) then' (λ ch. Go (record then' { changes = ch }))

        put_written : (new : Data) (cs : List ChoiceMade) → WrittenBack (write_put at (g r) (Gives new cs)) → Arrives (ends_so new (with_choices cs moved)) cont
        put_written new cs h = back (with_part at new (g r)) refl h
          where
            stood : (w : Data) → with_part at new (g r) ≡ Some w → (b : Bool) → can_stand (K.by_element y) w ≡ b
                → Ahead w0 f0 (numbers_of rs moved.trace) (if b then cont (accesses.becoming (K.by_element y) r w (record p { points = cs })) else no_value) (put r w g)
                → Arrives (runs.with_value (option_map (λ u. (y, u) ∷ run.changes) (bindable (with_content K y j (Some new) run.changes))) (with_choices cs moved) (λ ch. Go (record (with_choices cs moved) { changes = ch }))) cont
            stood w q true s h =
                let c = m.change new w q s in
                let p' = record p { points = cs } in
                subst (λ o. Arrives (runs.with_value (option_map (λ u. (y, u) ∷ run.changes) o) (with_choices cs moved) (λ ch. Go (record (with_choices cs moved) { changes = ch }))) cont) (sym c.1) (
                  accesses.becoming (K.by_element y) r w p',
                  put r w g,
                  record {
                    ahead = h;
                    related = c.2 cs run.prints p' (with_points run.changes run.choices cs run.prints p g R);
                  },
                )
            stood w q false s h =
                subst (λ o. Arrives (runs.with_value (option_map (λ u. (y, u) ∷ run.changes) o) (with_choices cs moved) (λ ch. Go (record (with_choices cs moved) { changes = ch }))) cont) (sym (m.high new w q s))
                (put r w g, h)

            back : (o : Option Data) → with_part at new (g r) ≡ o → WrittenBack (on (Stops NoValue cs) o (λ w. Gives w cs))
                → Arrives (runs.with_value (option_map (λ u. (y, u) ∷ run.changes) (bindable (with_content K y j (Some new) run.changes))) (with_choices cs moved) (λ ch. Go (record (with_choices cs moved) { changes = ch }))) cont
            back None q h =
                subst (λ o. Arrives (runs.with_value (option_map (λ u. (y, u) ∷ run.changes) o) (with_choices cs moved) (λ ch. Go (record (with_choices cs moved) { changes = ch }))) cont) (sym (m.none new q))
                (put r (g r) g, h)
            back (Some w) q h = stood w q (can_stand (K.by_element y) w) refl h

        gives_written : (x : MacroEnd Data) → WrittenBack (write_put at (g r) x) → Arrives (if_gives x moved ends_so) cont
        gives_written (Gives new cs) h = put_written new cs h
        gives_written (Stops kind cs) h = (put r (g r) g, h)

        written_inside : (o : Option Data) → WrittenBack (write_here a block at o p.points (g r))
            → Arrives (runs.with_value (bindable (content K y j run.changes)) moved (λ old. runs.with_value o moved (λ v. if_gives (block_write block K.defs K.id old v d run.choices) moved ends_so))) cont
        written_inside o h =
            subst (λ c. Arrives (runs.with_value (bindable c) moved (λ old. runs.with_value o moved (λ v. if_gives (block_write block K.defs K.id old v d run.choices) moved ends_so))) cont) (sym m.content_is)
            (go (part_of at (g r)) refl o (subst (λ cs. WrittenBack (write_here a block at o cs (g r))) R.points h))
          where
            go : (c : Option Data) → part_of at (g r) ≡ c → (o : Option Data)
                → WrittenBack (on (Stops NoValue run.choices) c (λ old. on (Stops NoValue run.choices) o (λ x. write_put at (g r) (block_write block K.defs K.id old x d run.choices))))
                → Arrives (runs.with_value (bindable c) moved (λ old. runs.with_value o moved (λ v. if_gives (block_write block K.defs K.id old v d run.choices) moved ends_so))) cont
            go None e o h = (put r (g r) g, h)
            go (Some old) e None h =
                subst (λ c. Arrives (runs.with_value c moved (λ old. runs.Stop NoValue moved)) cont) (sym (m.part_low old e)) (put r (g r) g, h)
            go (Some old) e (Some v) h =
                subst (λ c. Arrives (runs.with_value c moved (λ old. if_gives (block_write block K.defs K.id old v d run.choices) moved ends_so)) cont) (sym (m.part_low old e))
                (gives_written (block_write block K.defs K.id old v d run.choices) h)

    -- no such element
    outside : (o : Outside K rs at_start d y j run.changes) (F : ℕ → Option Data → LeafTree) (f : Data → Out) (cont : Progress → LeafTree) → Ahead w0 f0 (numbers_of rs run.trace) (accesses.accessing a y j F) g
        → Arrives (runs.with_value (bindable (content K y j run.changes)) moved f) cont
    outside o F f cont h =
        subst (λ c. Arrives (runs.with_value (bindable c) moved f) cont) (sym o.content_is) (
          g,
          subst (λ ts. Ahead w0 f0 (numbers_of rs (run.trace ++ ts)) no_value g) (sym o.trace)
              (subst (λ ts. Ahead w0 f0 (numbers_of rs ts) no_value g) (sym (append_none run.trace))
              (subst (λ w. Ahead w0 f0 (numbers_of rs run.trace) w g) (o.tree F) h)),
        )

  -- ---- the code

  module _ (G : AsBound K rs at_start d) where
    mapped_of : (y : Name) (i : Option Name) (j : Option Data) (env : Names) → MappedHere y i → index_value i env ≡ Some j → IsMapped K rs at_start d y j
    mapped_of y None j env is e = inl is
    mapped_of y (Some i) j env (inl is) e = inl is
    mapped_of y (Some i) j env (inr is) e = inr (is, go (value_under i env) e)
      where
        go : (o : Option Data) → option_map (λ v. Some v) o ≡ Some j → (v : Data) × (j ≡ Some v)
        go None e = absurd (grind (arith, e))
        go (Some v) e = (v, let s : j ≡ Some v = cc in s)

    reads : (y : Name) (j : Option Data) (block : Code) (F : Data → Progress → LeafTree) (f : Data → SectionRun → Out) (cont : Progress → LeafTree) (run : SectionRun) (p : Progress) (g : ℕ → Data) → IsMapped K rs at_start d y j
        → At (reading a y j block p F) run p g → ((v : Data) (run : SectionRun) (p : Progress) (g : ℕ → Data) → IsLow v → At (F v p) run p g → Arrives (f v run) cont)
        → Arrives (runs.with_value (bindable (content K y j run.changes)) (touching K y j run) (λ old. if_gives (block_read block K.defs K.id old d run.choices) (touching K y j run)
        (λ x then'. runs.with_value (put_new K y j x.1 run.changes) then' (λ ch. f x.0 (record then' { changes = ch }))))) cont
    reads y j block F f cont run p g is h k = go (mapped_at K rs at_start d G y j run.changes run.choices run.prints p g is h.related)
      where
        walk : ℕ → Option Data → LeafTree
        walk r at = Touch r (λ v. left_by_read v (read_here a block at p.points v)) (λ v. behind_read (K.by_element y) r p (read_here a block at p.points v) F)

        go : Outside K rs at_start d y j run.changes ⊎ Inside K rs at_start d y j run.changes g
            → Arrives (runs.with_value (bindable (content K y j run.changes)) (touching K y j run) (λ old. if_gives (block_read block K.defs K.id old d run.choices) (touching K y j run)
            (λ x then'. runs.with_value (put_new K y j x.1 run.changes) then' (λ ch. f x.0 (record then' { changes = ch }))))) cont
        go (inl o) =
            outside G y j block run p g h.related o walk (λ old. if_gives (block_read block K.defs K.id old d run.choices) (touching K y j run)
            (λ x then'. runs.with_value (put_new K y j x.1 run.changes) then' (λ ch. f x.0 (record then' { changes = ch })))) cont h.ahead
        go (inr i) =
            let m = i.mapped in
            let first = subst (λ w. Ahead w0 f0 (numbers_of rs run.trace) w g) (i.tree walk) h.ahead in
            let next = touches m.event i.r (λ v. left_by_read v (read_here a block i.at p.points v)) (λ v. behind_read (K.by_element y) i.r p (read_here a block i.at p.points v) F) run.trace g m.number first in
            read_inside G y j block run p g h.related i.r i.at m F f cont k
            (subst (λ ts. Ahead w0 f0 (numbers_of rs (run.trace ++ ts)) (behind_read (K.by_element y) i.r p (read_here a block i.at p.points (g i.r)) F) (put i.r (left_by_read (g i.r) (read_here a block i.at p.points (g i.r))) g)) (sym m.trace) next)

    writes : (y : Name) (j : Option Data) (block : Code) (o : Option Data) (cont : Progress → LeafTree) (run : SectionRun) (p : Progress) (g : ℕ → Data) → IsMapped K rs at_start d y j
        → At (writing a y j block o p cont) run p g
        → Arrives (runs.with_value (bindable (content K y j run.changes)) (touching K y j run) (λ old. runs.with_value o (touching K y j run) (λ v. if_gives (block_write block K.defs K.id old v d run.choices) (touching K y j run)
        (λ new then'. runs.with_value (put_content K y j (Some new) run.changes) then' (λ ch. Go (record then' { changes = ch })))))) cont
    writes y j block o cont run p g is h = go (mapped_at K rs at_start d G y j run.changes run.choices run.prints p g is h.related)
      where
        walk : ℕ → Option Data → LeafTree
        walk r at = Touch r (λ v. left_by_write v (write_here a block at o p.points v)) (λ v. behind_write (K.by_element y) r p (write_here a block at o p.points v) cont)

        go : Outside K rs at_start d y j run.changes ⊎ Inside K rs at_start d y j run.changes g
            → Arrives (runs.with_value (bindable (content K y j run.changes)) (touching K y j run) (λ old. runs.with_value o (touching K y j run) (λ v. if_gives (block_write block K.defs K.id old v d run.choices) (touching K y j run)
            (λ new then'. runs.with_value (put_content K y j (Some new) run.changes) then' (λ ch. Go (record then' { changes = ch })))))) cont
        go (inl x) =
            outside G y j block run p g h.related x walk (λ old. runs.with_value o (touching K y j run) (λ v. if_gives (block_write block K.defs K.id old v d run.choices) (touching K y j run)
            (λ new then'. runs.with_value (put_content K y j (Some new) run.changes) then' (λ ch. Go (record then' { changes = ch }))))) cont h.ahead
        go (inr i) =
            let m = i.mapped in
            let first = subst (λ w. Ahead w0 f0 (numbers_of rs run.trace) w g) (i.tree walk) h.ahead in
            let next = touches m.event i.r (λ v. left_by_write v (write_here a block i.at o p.points v)) (λ v. behind_write (K.by_element y) i.r p (write_here a block i.at o p.points v) cont) run.trace g m.number first in
            written_inside G y j block run p g h.related i.r i.at m cont o
            (subst (λ ts. Ahead w0 f0 (numbers_of rs (run.trace ++ ts)) (behind_write (K.by_element y) i.r p (write_here a block i.at o p.points (g i.r)) cont) (put i.r (left_by_write (g i.r) (write_here a block i.at o p.points (g i.r))) g)) (sym m.trace) next)

    sequel : (o : Out) (f : Progress → LeafTree) (k : SectionRun → Out) (cont : Progress → LeafTree) → Arrives o f → ((run : SectionRun) (p : Progress) (g : ℕ → Data) → At (f p) run p g → Arrives (k run) cont) → Arrives (go_on o k) cont
    sequel (Go run) f k cont h more = more run h.0 h.1 h.2
    sequel (Jump l run) f k cont h more = h
    sequel (Yielded v run) f k cont h more = h
    sequel (runs.Stop kind run) f k cont h more = h

    mutual
      pub follows : (c : Code) (ws : List Name) (env : Names) (cont : Progress → LeafTree) (run : SectionRun) (p : Progress) (g : ℕ → Data) → UsesHere c → AssignsBound ws c → AreLow ws env
          → At (accesses.accesses a c env p cont) run p g → Arrives (exec K c env d run) cont
      follows Empty ws env cont run p g u b low h = (p, g, h)
      follows Skip ws env cont run p g u b low h = (p, g, h)
      follows (Let x w e c) ws env cont run p g u b low h =
          let o = bindable (value_of K e env run.changes) in
          valued o (read_unmapped K e run) (λ v. accesses.accesses a c ((w, Some v) ∷ env) p cont) (λ v. exec K c ((w, Some v) ∷ env) d (read_unmapped K e run)) p g cont
          (evaluates G e env (λ o. with_value (bindable o) (λ v. accesses.accesses a c ((w, Some v) ∷ env) p cont)) run p g h)
          (λ v q k. follows c (w ∷ ws) ((w, Some v) ∷ env) cont (read_unmapped K e run) p g u b (low_more ws env w v (bound_low (value_of K e env run.changes) v q).1 low) k)
      follows (Pick x w e c) ws env cont run p g u b low h =
          let now = read_unmapped K e run in
          let f = λ (v : Data) (then' : SectionRun). exec K c ((w, Some v) ∷ env) d then' in
          let F = λ (v : Data) (q : Progress). accesses.accesses a c ((w, Some v) ∷ env) q cont in
          valued (option_and_then members_of (value_of K e env run.changes)) now (λ ms. with_member a ms p F) (λ ms. picked ms d now f) p g cont
          (evaluates G e env (λ o. with_value (option_and_then members_of o) (λ ms. with_member a ms p F)) run p g h)
          (λ ms q k. chosen_one ms now F f p g cont k (λ v n i k. follows c [] ((w, Some v) ∷ env) cont (chosen n i now) (choosing n i p) g u b (λ z among. absurd (let z : false ≡ true = among in grind (arith, z))) k))
      follows (Become s w) ws env cont run p g u b low h =
          valued (value_under w env) run (λ v. putting a s v p cont) (λ v. Go (becoming s v run)) p g cont h (λ v q k. puts G s v run p g cont u (low w b v q) k)
      follows (Set x s e) ws env cont run p g u b low h =
          valued (bindable (value_of K e env run.changes)) (read_unmapped K e run) (λ v. putting a s v p cont) (λ v. Go (becoming s v (read_unmapped K e run))) p g cont
          (evaluates G e env (λ o. with_value (bindable o) (λ v. putting a s v p cont)) run p g h)
          (λ v q k. puts G s v (read_unmapped K e run) p g cont u (bound_low (value_of K e env run.changes) v q).1 k)
      follows (Await e) ws env cont run p g u b low h =
          let now = read_unmapped K e run in
          decided (truth_of (value_of K e env run.changes)) now (cont p) (waits p) (Go now) (runs.Stop Blocked now) p g cont
          (evaluates G e env (λ o. if_true (truth_of o) (cont p) (waits p)) run p g h) (λ k. (p, g, k)) (λ k. (g, waiting now p g k))
      follows (Assert e) ws env cont run p g u b low h =
          let now = read_unmapped K e run in
          decided (truth_of (value_of K e env run.changes)) now (cont p) fails (Go now) (runs.Stop AssertFails now) p g cont
          (evaluates G e env (λ o. if_true (truth_of o) (cont p) fails) run p g h) (λ k. (p, g, k)) (λ k. (g, k.ahead))
      follows (Print e) ws env cont run p g u b low h =
          let now = read_unmapped K e run in
          valued (value_of K e env run.changes) now (λ v. cont (printing v p)) (λ v. Go (printed v now)) p g cont
          (evaluates G e env (λ o. with_value o (λ v. cont (printing v p))) run p g h)
          (λ v q k. (
            printing v p,
            g,
            record {
              ahead = k.ahead;
              related = record { own = k.related.own; whole = k.related.whole; elements = k.related.elements; points = k.related.points; prints = ap (λ l. l ++ v ∷ []) k.related.prints; deep = k.related.deep; only = k.related.only; changed = k.related.changed };
            },
          ))
      follows (If e x y) ws env cont run p g u b low h =
          let now = read_unmapped K e run in
          decided (truth_of (value_of K e env run.changes)) now (accesses.accesses a x env p cont) (accesses.accesses a y env p cont) (exec K x env d now) (exec K y env d now) p g cont
          (evaluates G e env (λ o. if_true (truth_of o) (accesses.accesses a x env p cont) (accesses.accesses a y env p cont)) run p g h)
          (λ k. follows x ws env cont now p g u.0 b.0 low k) (λ k. follows y ws env cont now p g u.1 b.1 low k)
      follows (Either cs) ws env cont run p g u b low h =
          let n = count cs in
          let i = picked_number d run n in
          let here = subst (λ (l : List ChoiceMade). let j = pick (d (length l)) n in At (accesses_of_arm a cs j env (choosing n j p) cont) run p g) h.related.points h in
          follows_arm cs i ws env cont (chosen n i run) (choosing n i p) g u b low (chooses (accesses_of_arm a cs i env (choosing n i p) cont) run p g n i here)
      follows (Seq x y) ws env cont run p g u b low h =
          sequel (exec K x env d run) (λ q. accesses.accesses a y env q cont) (λ now. exec K y env d now) cont
          (follows x ws env (λ q. accesses.accesses a y env q cont) run p g u.0 b.0 low h) (λ now q f k. follows y ws env cont now q f u.1 b.1 low k)
      follows (Goto l) ws env cont run p g u b low h = (p, g, h)
      follows (Yield e) ws env cont run p g u b low h = go (bindable (value_of K e env run.changes))
        where
          go : (o : Option Data) → Arrives (runs.with_value o run (λ v. Yielded v run)) cont
          go None = (g, h.ahead)
          go (Some v) = tt
      follows (Read w y i block c) ws env cont run p g u b low h =
          valued (index_value i env) run (λ j. reading a y j block p (λ v q. accesses.accesses a c ((w, Some v) ∷ env) q cont))
          (λ j. runs.with_value (bindable (content K y j run.changes)) (touching K y j run) (λ old. if_gives (block_read block K.defs K.id old d run.choices) (touching K y j run)
          (λ x then'. runs.with_value (put_new K y j x.1 run.changes) then' (λ ch. exec K c ((w, Some x.0) ∷ env) d (record then' { changes = ch }))))) p g cont h
          (λ j q k. reads y j block (λ v q. accesses.accesses a c ((w, Some v) ∷ env) q cont) (λ v then'. exec K c ((w, Some v) ∷ env) d then') cont run p g (mapped_of y i j env u.0 q) k
          (λ v now q f lower k. follows c (w ∷ ws) ((w, Some v) ∷ env) cont now q f u.1 b (low_more ws env w v lower low) k))
      follows (Write y i w block) ws env cont run p g u b low h =
          valued (index_value i env) run (λ j. writing a y j block (value_under w env) p cont)
          (λ j. runs.with_value (bindable (content K y j run.changes)) (touching K y j run) (λ old. runs.with_value (value_under w env) (touching K y j run) (λ v. if_gives (block_write block K.defs K.id old v d run.choices) (touching K y j run)
          (λ new then'. runs.with_value (put_content K y j (Some new) run.changes) then' (λ ch. Go (record then' { changes = ch })))))) p g cont h
          (λ j q k. writes y j block (value_under w env) cont run p g (mapped_of y i j env u q) k)

      follows_arm : (cs : Codes) (i : ℕ) (ws : List Name) (env : Names) (cont : Progress → LeafTree) (run : SectionRun) (p : Progress) (g : ℕ → Data) → AllUse PlaceHere MappedHere cs → AllAssign ws cs → AreLow ws env
          → At (accesses_of_arm a cs i env p cont) run p g → Arrives (exec_arm_with block_read block_write K cs i env d run) cont
      follows_arm no_codes i ws env cont run p g u b low h = (g, h.ahead)
      follows_arm (more_codes c cs) zero ws env cont run p g u b low h = follows c ws env cont run p g u.0 b.0 low h
      follows_arm (more_codes c cs) (suc i) ws env cont run p g u b low h = follows_arm cs i ws env cont run p g u.1 b.1 low h
