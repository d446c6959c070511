-- What the end of a block's run says of its code's end.
use Rattle.std.proofs.Common.{◌≡◌, List, [], Option, None, Result, Ok, Err, refl, ap, sym, ◌∙◌, subst, inl, inr}
use Rattle.pgo_base.specs.Data.{Data}
use Rattle.pgo_base.specs.Lookup.{Names}
use Rattle.pgo_base.specs.View.{data_of}
use Rattle.pgo_base.specs.declared.value.Value.{Value}
use Rattle.pgo_model.specs.Options.{on}
use Rattle.pgo_model.specs.Outcome.{Kind, NoValue}
use Rattle.pgo_model.specs.Outcome as outcome
use Rattle.pgo_model.specs.System.{Words}
use Rattle.pgo_model.specs.Val.{Defined}
use Rattle.pgo_syntax.specs.Statement.{LabeledStatements}
use Rattle.pgo_sections.specs.Context.{content_state}
use Rattle.pgo_sections.specs.Exec.{Gives, Stops, read_end, write_end}
use Rattle.pgo_sections.specs.Macros.{exec_block}
use Rattle.pgo_sections.specs.SectionRun.{ChoiceMade, begun, Out, Go, Jump, Yielded, Stop}
use Rattle.pgo_meaning.specs.Parameters.{block_setting}
use Rattle.pgo_meaning.specs.Statements.{in_order}
use Rattle.pgo_resource.specs.Answers.{SameWords}
use Rattle.pgo_resource.specs.Picked.{choices_of}
use Rattle.pgo_resource.specs.declared.picks.Picks.{Picks}
use Rattle.pgo_resource.specs.declared.resource.OpStop.{OpStop}
use Rattle.pgo_resource.specs.declared.resource.OpStop.TheVariants as stops
use Rattle.pgo_macro_run.specs.Given.{Now, Answer, Goes, Yields, Fails}
use Rattle.pgo_macro_run.specs.Runs.{rows}
use Rattle.pgo_macro_run.specs.Answers.{EndsSo, read_view}
use Rattle.pgo_macro_run.specs.AroundView.{now_of, BlockSo}
use Rattle.pgo_macro_run.proofs.Simulated.{new_is, g, k, Same, same_rows}

module _ (ds : List Defined) (id old : Data) (d : Words) where
  yields_read : (out : Out) (v : Data) (n : Now) → Same ds id old d out (Yields v n) → read_end out ≡ Gives (v, n.content) n.choices
  yields_read (Go run) v n s = let e = s.1 in absurd (cc)
  yields_read (Jump l run) v n s = absurd (cc)
  yields_read (Stop kind run) v n s = absurd (cc)
  yields_read (Yielded w run) v n s =
      let m = s.0 in let e : Yields v n ≡ Yields w m = s.1 in
      let same : n ≡ m = cc in let value : v ≡ w = cc in
      ap (λ o. on (Stops NoValue run.choices) o (λ new. Gives (w, new) run.choices)) (new_is old run.changes m.content s.2.0)
      ∙ ap (Gives (w, m.content)) s.2.1 ∙ ap (λ (z : Now). Gives (w, z.content) z.choices) (sym same) ∙ ap (λ z. Gives (z, n.content) n.choices) (sym value)

  yields_write : (out : Out) (v : Data) (n : Now) → Same ds id old d out (Yields v n) → write_end out ≡ Gives v n.choices
  yields_write (Go run) v n s = let e = s.1 in absurd (cc)
  yields_write (Jump l run) v n s = absurd (cc)
  yields_write (Stop kind run) v n s = absurd (cc)
  yields_write (Yielded w run) v n s =
      let m = s.0 in let e : Yields v n ≡ Yields w m = s.1 in
      let same : n ≡ m = cc in let value : v ≡ w = cc in
      ap (Gives w) (s.2.1 ∙ ap (λ (z : Now). z.choices) (sym same)) ∙ ap (λ z. Gives z n.choices) (sym value)

  goes_read : (out : Out) (n : Now) → Same ds id old d out (Goes n) → read_end out ≡ Stops NoValue n.choices
  goes_read (Go run) n s = let m = s.0 in let e : Goes n ≡ Goes m = s.1 in let same : n ≡ m = cc in ap (Stops NoValue) (s.2.1 ∙ ap (λ (z : Now). z.choices) (sym same))
  goes_read (Jump l run) n s = absurd (cc)
  goes_read (Yielded w run) n s = let e = s.1 in absurd (cc)
  goes_read (Stop kind run) n s = absurd (cc)

  goes_write : (out : Out) (n : Now) → Same ds id old d out (Goes n) → write_end out ≡ Stops NoValue n.choices
  goes_write (Go run) n s = let m = s.0 in let e : Goes n ≡ Goes m = s.1 in let same : n ≡ m = cc in ap (Stops NoValue) (s.2.1 ∙ ap (λ (z : Now). z.choices) (sym same))
  goes_write (Jump l run) n s = absurd (cc)
  goes_write (Yielded w run) n s = let e = s.1 in absurd (cc)
  goes_write (Stop kind run) n s = absurd (cc)

  fails_read : (out : Out) (kind : Kind) (u : List ChoiceMade) → Same ds id old d out (Fails kind u) → read_end out ≡ Stops kind u
  fails_read (Go run) kind u s = let e = s.1 in absurd (cc)
  fails_read (Yielded w run) kind u s = let e = s.1 in absurd (cc)
  fails_read (Jump l run) kind u s = let is : kind ≡ NoValue = cc in let made : u ≡ run.choices = cc in ap (Stops NoValue) (sym made) ∙ ap (λ z. Stops z u) (sym is)
  fails_read (Stop why run) kind u s = let is : kind ≡ why = cc in let made : u ≡ run.choices = cc in ap (Stops why) (sym made) ∙ ap (λ z. Stops z u) (sym is)

  fails_write : (out : Out) (kind : Kind) (u : List ChoiceMade) → Same ds id old d out (Fails kind u) → write_end out ≡ Stops kind u
  fails_write (Go run) kind u s = let e = s.1 in absurd (cc)
  fails_write (Yielded w run) kind u s = let e = s.1 in absurd (cc)
  fails_write (Jump l run) kind u s = let is : kind ≡ NoValue = cc in let made : u ≡ run.choices = cc in ap (Stops NoValue) (sym made) ∙ ap (λ z. Stops z u) (sym is)
  fails_write (Stop why run) kind u s = let is : kind ≡ why = cc in let made : u ≡ run.choices = cc in ap (Stops why) (sym made) ∙ ap (λ z. Stops z u) (sym is)

  -- a block begins with its content, and with the choices that were made before
  module _ (ls : LabeledStatements) (env : Names) (p : Picks) where
    abbrev end : Answer
    end = rows (g ds id old d) ls env (record { content = None; choices = choices_of p })

    abbrev out : List ChoiceMade → Out
    out cs = exec_block (k ds id old d) (in_order block_setting [] ls) env d (begun (content_state old) cs)

    abbrev begun_out : Out
    begun_out = out (choices_of p)

    begins : (x : Answer) → end ≡ x → Same ds id old d begun_out x
    begins x e = subst (λ y. Same ds id old d begun_out y) e (same_rows ds id old d [] ls env (begun (content_state old) (choices_of p)) (record { content = None; choices = choices_of p }) ((refl, refl), refl))

    pub read_yields : (v : Data) (n : Now) → end ≡ Yields v n → read_end begun_out ≡ Gives (v, n.content) n.choices
    read_yields v n e = yields_read begun_out v n (begins (Yields v n) e)

    pub write_yields : (v : Data) (n : Now) → end ≡ Yields v n → write_end begun_out ≡ Gives v n.choices
    write_yields v n e = yields_write begun_out v n (begins (Yields v n) e)

    -- the block's run, as it is answered
    pub read_so : (q : Picks) → SameWords p q → (r : Result (Value × Option Value) OpStop) → BlockSo end q r → EndsSo read_view (λ cs. read_end (out cs)) p q r
    read_so q same (Ok r) h = (same, read_yields (data_of r.0) (now_of r.1 q) h)
    read_so q same (Err stops.NoValue) (inl h) = (same, fails_read begun_out NoValue (choices_of q) (begins (Fails NoValue (choices_of q)) h))
    read_so q same (Err stops.NoValue) (inr h) = (same, goes_read begun_out h.0 (begins (Goes h.0) h.1) ∙ ap (Stops NoValue) h.2)
    read_so q same (Err stops.Blocked) h = (same, fails_read begun_out outcome.Blocked (choices_of q) (begins (Fails outcome.Blocked (choices_of q)) h))
    read_so q same (Err stops.AssertFails) h = (same, fails_read begun_out outcome.AssertFails (choices_of q) (begins (Fails outcome.AssertFails (choices_of q)) h))
    read_so q same (Err stops.NoMemory) h = (same, tt)

    pub write_so : (q : Picks) → SameWords p q → (r : Result (Value × Option Value) OpStop) → BlockSo end q r → EndsSo (λ (z : Value × Option Value). data_of z.0) (λ cs. write_end (out cs)) p q r
    write_so q same (Ok r) h = (same, write_yields (data_of r.0) (now_of r.1 q) h)
    write_so q same (Err stops.NoValue) (inl h) = (same, fails_write begun_out NoValue (choices_of q) (begins (Fails NoValue (choices_of q)) h))
    write_so q same (Err stops.NoValue) (inr h) = (same, goes_write begun_out h.0 (begins (Goes h.0) h.1) ∙ ap (Stops NoValue) h.2)
    write_so q same (Err stops.Blocked) h = (same, fails_write begun_out outcome.Blocked (choices_of q) (begins (Fails outcome.Blocked (choices_of q)) h))
    write_so q same (Err stops.AssertFails) h = (same, fails_write begun_out outcome.AssertFails (choices_of q) (begins (Fails outcome.AssertFails (choices_of q)) h))
    write_so q same (Err stops.NoMemory) h = (same, tt)
