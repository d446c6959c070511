-- The promise, from what was made, what was written of it, and what was said.
use Rattle.std.proofs.Common.{◌≡◌, ◌≤◌, ◌<◌, ◌⊎◌, inl, inr, ℕ, List, length, Option, Some, None, IfSome, Result, Ok, Err, IfOk, IfErr, OnOk, sym, ap, subst, arith}
use Rattle.std.specs.Global.{Vec}
use Rattle.pgo_io.specs.Faults.{Rose}
use Rattle.pgo_io.specs.Sink.{Grows}
use Rattle.pgo_base.specs.Lookup.{Vars}
use Rattle.pgo_bundle.specs.BundleLog.{BundleLog}
use Rattle.pgo_model.specs.Module.{Module}
use Rattle.pgo_log_text.specs.LineNumbers.{IsLineOf}
use Rattle.pgo_log_text.specs.ReadBundle.{IsReadBundle, IsNoBundle}
use Rattle.pgo_show.specs.declared.ended.Ended.{Ended}
use Rattle.pgo_show.specs.declared.status.Status.{Status}
use Rattle.pgo_show.specs.declared.status.Status.TheVariants as status
use Rattle.pgo_show.specs.Statuses.{line_of}
use Rattle.pgo_show.specs.Makes.{most_bytes, ExplainsShort, LacksShort, MadeAsked, Others, bundle_line, component_line, HasLine, Stops, StopsAsked, IsAtEnd, ReadsAll, SaysLine, IsWritten, IsCutShort, EndsAs}
use Rattle.pgo_show.specs.Promise.{OrNoMemory, IsRefusal, Promise}
use Rattle.pgo_show.specs.Streams.{Stream, before, after, Failed}
use Rattle.pgo_show.specs.Wishes.{Wish, asked, component_asked, IsLacking}
use Rattle.pgo_show.proofs.Making.{not_lacking}

-- what an input told is what holds of its text
at_told : (input : Option (List ℕ)) (text : List ℕ) (P : List ℕ → Type 0) → input ≡ Some text → IfSome input P → P text
at_told input text P told h = subst (λ o. IfSome o P) told h

if_some : (input : Option (List ℕ)) (P Q : List ℕ → Type 0) → ((text : List ℕ) → P text → Q text) → IfSome input P → IfSome input Q
if_some None P Q f h = h
if_some (Some text) P Q f h = f text h

some_none : {A : Type 0} (x : A) → Some x ≡ None → ⊥
some_none x h = cc

not_short : (n : ℕ) → most_bytes < n → n ≤ most_bytes → ⊥
not_short n long short = omega (arith, long, short)

-- which statuses end in which way, as types that tell them apart
abbrev IsCut : Status → Type 0
IsCut status.Fine = ⊥
IsCut status.Usage = ⊥
IsCut status.ReadFault = ⊥
IsCut status.WriteFault = Unit {0}
IsCut status.TooLong = ⊥
IsCut status.BadBundle = ⊥
IsCut status.NoComponent = ⊥
IsCut status.NoMemory = ⊥

abbrev IsBad : Status → Type 0
IsBad status.Fine = ⊥
IsBad status.Usage = ⊥
IsBad status.ReadFault = ⊥
IsBad status.WriteFault = ⊥
IsBad status.TooLong = ⊥
IsBad status.BadBundle = Unit {0}
IsBad status.NoComponent = ⊥
IsBad status.NoMemory = ⊥

module _ (input : Option (List ℕ)) (old new : ℕ) (s : Status) where
  -- a status that stops is a refusal
  refuses : (o : Option Wish) → StopsAsked o input old new s → IsRefusal s
  refuses None h = subst IsRefusal (sym h) tt
  refuses (Some w) (inl h) = subst IsRefusal (sym h.0) tt
  refuses (Some w) (inr (inl h)) = subst IsRefusal (sym h.0) tt
  refuses (Some w) (inr (inr (inl h))) = subst IsRefusal (sym h.0) tt
  refuses (Some w) (inr (inr (inr (inl h)))) = subst IsRefusal (sym h.0) tt
  refuses (Some w) (inr (inr (inr (inr h)))) = subst IsRefusal (sym h) tt

  stopped_usage : (o : Option Wish) → StopsAsked o input old new s → o ≡ None → OrNoMemory s status.Usage
  stopped_usage None h none = inl h
  stopped_usage (Some w) h none = absurd (some_none w none)

  module _ (w : Wish) (text : List ℕ) (told : input ≡ Some text) (read : Rose old new → ⊥) where
    bundle_there : {A : Type 0} → IfSome input (λ text. (length text ≤ most_bytes) × IsNoBundle text) → (m : Module) (consts : Vars) (l : BundleLog) → IsReadBundle text m consts l → A
    bundle_there none m consts l bundle =
        let h = at_told input text (λ text. (length text ≤ most_bytes) × IsNoBundle text) told none in absurd (h.1 m consts l bundle)

    component_there : {A : Type 0} → IfSome input (LacksShort w) → (m : Module) (consts : Vars) (l : BundleLog) → IsReadBundle text m consts l → (IsLacking w l → ⊥) → A
    component_there lacks m consts l bundle has =
        let x = (at_told input text (LacksShort w) told lacks).1 in
        absurd (has (subst (IsLacking w) (sym ((x.only m consts l bundle).2)) x.lacking))

    too_long_short : {A : Type 0} → length text ≤ most_bytes → IfSome input (λ text. most_bytes < length text) → A
    too_long_short short long = absurd (not_short (length text) (at_told input text (λ text. most_bytes < length text) told long) short)

    stopped_short : (m : Module) (consts : Vars) (l : BundleLog) → length text ≤ most_bytes → IsReadBundle text m consts l → (IsLacking w l → ⊥) → Stops w input old new s → OrNoMemory s status.Fine
    stopped_short m consts l short bundle has (inl h) = bundle_there h.1 m consts l bundle
    stopped_short m consts l short bundle has (inr (inl h)) = component_there h.1 m consts l bundle has
    stopped_short m consts l short bundle has (inr (inr (inl h))) = absurd (read h.1)
    stopped_short m consts l short bundle has (inr (inr (inr (inl h)))) = too_long_short short h.1
    stopped_short m consts l short bundle has (inr (inr (inr (inr h)))) = inr h

    stopped_lacking : (m : Module) (consts : Vars) (l : BundleLog) → length text ≤ most_bytes → IsReadBundle text m consts l → Stops w input old new s → OrNoMemory s status.NoComponent
    stopped_lacking m consts l short bundle (inl h) = bundle_there h.1 m consts l bundle
    stopped_lacking m consts l short bundle (inr (inl h)) = inl h.0
    stopped_lacking m consts l short bundle (inr (inr (inl h))) = absurd (read h.1)
    stopped_lacking m consts l short bundle (inr (inr (inr (inl h)))) = too_long_short short h.1
    stopped_lacking m consts l short bundle (inr (inr (inr (inr h)))) = inr h

    stopped_long : most_bytes < length text → Stops w input old new s → OrNoMemory s status.TooLong
    stopped_long long (inl h) =
        absurd (not_short (length text) long (at_told input text (λ text. (length text ≤ most_bytes) × IsNoBundle text) told h.1).0)
    stopped_long long (inr (inl h)) = absurd (not_short (length text) long (at_told input text (LacksShort w) told h.1).0)
    stopped_long long (inr (inr (inl h))) = absurd (read h.1)
    stopped_long long (inr (inr (inr (inl h)))) = inl h.0
    stopped_long long (inr (inr (inr (inr h)))) = inr h

    stopped_no_bundle : length text ≤ most_bytes → IsNoBundle text → Stops w input old new s → OrNoMemory s status.BadBundle
    stopped_no_bundle short none (inl h) = inl h.0
    stopped_no_bundle short none (inr (inl h)) =
        let x = (at_told input text (LacksShort w) told h.1).1 in absurd (none x.written_module x.consts x.log x.bundle)
    stopped_no_bundle short none (inr (inr (inl h))) = absurd (read h.1)
    stopped_no_bundle short none (inr (inr (inr (inl h)))) = too_long_short short h.1
    stopped_no_bundle short none (inr (inr (inr (inr h)))) = inr h

-- the line of a text that is no bundle
said_line : (c : List ℕ) (input old new : Option (List ℕ)) (s : Status) (line : Option (List ℕ)) → s ≡ status.BadBundle → HasLine c input s line → IfSome line (λ l. Grows old new l)
    → (n : ℕ) × Grows old new (bundle_line n) × IfSome input (λ text. IsLineOf text n)
said_line c input old new s None bad (inl h) grows = absurd h.1
said_line c input old new s (Some l) bad (inl h) grows = (h.1.0, subst (λ l. Grows old new l) h.1.1 grows, h.1.2)
said_line c input old new s line bad (inr (inl h)) grows = absurd (subst IsBad h.0 (subst IsBad (sym bad) tt))
said_line c input old new s line bad (inr (inr h)) grows = absurd (subst Others bad h.0)

-- that of a component that isn't there
said_component : (c : List ℕ) (input old new : Option (List ℕ)) (s : Status) (line : Option (List ℕ)) → s ≡ status.NoComponent → HasLine c input s line
    → IfSome line (λ l. Grows old new l) → Grows old new (component_line c)
said_component c input old new s line lacks (inl h) grows = absurd (subst IsBad lacks (subst IsBad (sym h.0) tt))
said_component c input old new s line lacks (inr (inl h)) grows = subst (λ o. IfSome o (λ l. Grows old new l)) h.1 grows
said_component c input old new s line lacks (inr (inr h)) grows = absurd (subst Others lacks h.0)

module _ {S O E : Type 0} (words : List (List ℕ)) (input : Stream S) (out : Stream O) (err : Stream E) where
  abbrev StopsHere : Status → Type 0
  StopsHere s = StopsAsked (asked words) (before input) (input.faults input.old) (input.faults input.new) s

  abbrev SameFaults : Type 0
  SameFaults = input.faults input.new ≡ input.faults input.old

  abbrev AtEnd : Type 0
  AtEnd = IsAtEnd (before input) (after input)

  abbrev Made : List ℕ → Type 0
  Made written = IfSome (before input) (λ text. MadeAsked (asked words) text written)

  module _ (written : List ℕ) (wish : Wish) (text : List ℕ) (asks : asked words ≡ Some wish) (told : before input ≡ Some text) (ok : Made written) where
    -- what was made of the text
    made_here : ExplainsShort wish text written
    made_here = subst (λ o. MadeAsked o text written) asks (at_told (before input) text (λ text. MadeAsked (asked words) text written) told ok)

    -- a text that was explained is a bundle that is short enough, and has the component
    made_short : length text ≤ most_bytes
    made_short = made_here.0

    made_bundle : IsNoBundle text → ⊥
    made_bundle none = let x = made_here.1 in none x.written_module x.consts x.log x.bundle

    made_component : (m : Module) (consts : Vars) (l : BundleLog) → IsReadBundle text m consts l → IsLacking wish l → ⊥
    made_component m consts l bundle lacking =
        let x = made_here.1 in
        not_lacking wish x.written_module x.log written x.written_is (subst (IsLacking wish) ((x.only m consts l bundle).2) lacking)

  module _ (e : Ended)
      (unread : asked words ≡ None → input.new ≡ input.old)
      (says : (Failed err → ⊥) → SaysLine e.status (before err) (after err))
      (says_own : line_of e.status ≡ None → (Failed err → ⊥) → IfSome e.line (λ l. Grows (before err) (after err) l))
      (silent : line_of e.status ≡ None → e.line ≡ None → err.new ≡ err.old)
    where
      -- where all of what was made is written
      of_written : (written : List ℕ) → e.line ≡ None → IsWritten written out e.status → (asked words ≡ None → ⊥) → Made written → AtEnd → SameFaults
          → Promise words input out err e.status
      of_written written none w asks ok at_end steady = record {
        fine = λ _. (asks, if_some (before input) _ _ (λ text h. (written, h, w.all)) ok);
        explained = λ wish text m consts l _ told read wrote short bundle has. inl w.status_is;
        lacking = λ wish text m consts l some told read wrote short bundle lacks. absurd (made_component written wish text some told ok m consts l bundle lacks);
        stopped = λ r. absurd (subst IsRefusal w.status_is r);
        usage = λ no. absurd (asks no);
        too_long = λ wish text some told read long. absurd (not_short (length text) long (made_short written wish text some told ok));
        no_bundle = λ wish text some told read short no. absurd (made_bundle written wish text some told ok no);
        kept = λ r. absurd (subst IsRefusal w.status_is r);
        says = says;
        says_bundle = λ b _. absurd (subst IsRefusal w.status_is (subst IsRefusal (sym b) tt));
        says_component = λ b _. absurd (subst IsRefusal w.status_is (subst IsRefusal (sym b) tt));
        read_failed = inr steady;
        write_failed = inr w.steady;
        write_fault = λ f. absurd (subst IsCut w.status_is (subst IsCut (sym f) tt));
        prefix = λ f. absurd (subst IsCut w.status_is (subst IsCut (sym f) tt));
        ended = λ _. at_end;
        unread = unread;
        silent = λ _. silent (ap line_of w.status_is) none;
      }

      -- where a part of it is
      of_cut : (written : List ℕ) → IsCutShort written out e.status → (asked words ≡ None → ⊥) → Made written → AtEnd → SameFaults → Promise words input out err e.status
      of_cut written c asks ok at_end steady = record {
        fine = λ f. absurd (subst IsCut f (subst IsCut (sym c.status_is) tt));
        explained = λ wish text m consts l _ told read wrote short bundle has. absurd (wrote c.cause);
        lacking = λ wish text m consts l _ told read wrote short bundle lacks. absurd (wrote c.cause);
        stopped = λ r. absurd (subst IsRefusal c.status_is r);
        usage = λ no. absurd (asks no);
        too_long = λ wish text some told read long. absurd (not_short (length text) long (made_short written wish text some told ok));
        no_bundle = λ wish text some told read short no. absurd (made_bundle written wish text some told ok no);
        kept = λ r. absurd (subst IsRefusal c.status_is r);
        says = says;
        says_bundle = λ b _. absurd (subst IsRefusal c.status_is (subst IsRefusal (sym b) tt));
        says_component = λ b _. absurd (subst IsRefusal c.status_is (subst IsRefusal (sym b) tt));
        read_failed = inr steady;
        write_failed = inl c.status_is;
        write_fault = λ _. c.cause;
        prefix = λ _. if_some (before input) _ _ (λ text h. (written, h, c.part)) ok;
        ended = λ _. at_end;
        unread = unread;
        silent = λ f. absurd (subst IsCut f (subst IsCut (sym c.status_is) tt));
      }

      -- where nothing was made
      of_stop : out.new ≡ out.old → StopsHere e.status → HasLine (component_asked (asked words)) (before input) e.status e.line → (e.status ≡ status.ReadFault) ⊎ SameFaults
          → (ReadsAll e.status → AtEnd) → Promise words input out err e.status
      of_stop kept stops line failed at_end =
          let refused : IsRefusal e.status = refuses (before input) (input.faults input.old) (input.faults input.new) e.status (asked words) stops in
          let stops_at : (wish : Wish) → asked words ≡ Some wish → Stops wish (before input) (input.faults input.old) (input.faults input.new) e.status =
          λ wish some. subst (λ o. StopsAsked o (before input) (input.faults input.old) (input.faults input.new) e.status) some stops in
          record {
            fine = λ f. absurd (subst IsRefusal f refused);
            explained = λ wish text m consts l some told read wrote short bundle has.
                stopped_short (before input) _ _ e.status wish text told read m consts l short bundle has (stops_at wish some);
            lacking = λ wish text m consts l some told read wrote short bundle lacks.
                stopped_lacking (before input) _ _ e.status wish text told read m consts l short bundle (stops_at wish some);
            stopped = λ _. inr stops;
            usage = λ no. stopped_usage (before input) _ _ e.status (asked words) stops no;
            too_long = λ wish text some told read long. stopped_long (before input) _ _ e.status wish text told read long (stops_at wish some);
            no_bundle = λ wish text some told read short no. stopped_no_bundle (before input) _ _ e.status wish text told read short no (stops_at wish some);
            kept = λ _. kept;
            says = says;
            says_bundle = λ b fine. said_line (component_asked (asked words)) (before input) (before err) (after err) e.status e.line b line (says_own (ap line_of b) fine);
            says_component = λ b fine. said_component (component_asked (asked words)) (before input) (before err) (after err) e.status e.line b line (says_own (ap line_of b) fine);
            read_failed = failed;
            write_failed = inr (ap out.faults kept);
            write_fault = λ f. absurd (subst IsRefusal f refused);
            prefix = λ f. absurd (subst IsRefusal f refused);
            ended = at_end;
            unread = unread;
            silent = λ f. absurd (subst IsRefusal f refused);
          }

      pub promised : (made : Result (Vec ℕ) Ended) → EndsAs made out e → OnOk made (asked words ≡ None → ⊥) → IfOk made (λ v. Made v.items) → IfErr made (λ stop. StopsHere stop.status)
          → IfErr made (λ stop. HasLine (component_asked (asked words)) (before input) stop.status stop.line) → OnOk made AtEnd → OnOk made SameFaults
          → IfErr made (λ stop. (stop.status ≡ status.ReadFault) ⊎ SameFaults) → IfErr made (λ stop. ReadsAll stop.status → AtEnd) → Promise words input out err e.status
      promised (Ok v) (none, inl w) asks ok stops line at_end steady failed refused = of_written v.items none w asks ok at_end steady
      promised (Ok v) (none, inr c) asks ok stops line at_end steady failed refused = of_cut v.items c asks ok at_end steady
      promised (Err stop) (same, kept) asks ok stops line at_end steady failed refused =
          of_stop kept (subst (λ x. StopsHere x.status) (sym same) stops) (subst (λ x. HasLine (component_asked (asked words)) (before input) x.status x.line) (sym same) line)
          (subst (λ x. (x.status ≡ status.ReadFault) ⊎ SameFaults) (sym same) failed) (subst (λ x. ReadsAll x.status → AtEnd) (sym same) refused)
