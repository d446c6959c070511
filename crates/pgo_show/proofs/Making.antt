-- What is made of a text that an input told, and why nothing is.
use Rattle.std.proofs.Common.{◌≡◌, ◌≤◌, inl, inr, ℕ, List, length, Option, Some, None, IfSome, Result, Ok, Err, IfErr, refl, sym, ◌∙◌, ap, subst}
use Rattle.std.proofs.Math.Seq.{take-length}
use Rattle.pgo_io.specs.Sink.{Grows, GrowsByPrefix}
use Rattle.pgo_bundle.specs.BundleLog.{BundleLog}
use Rattle.pgo_model.specs.Module.{Module}
use Rattle.pgo_model.specs.ModuleText.{Line}
use Rattle.pgo_log_text.specs.LineNumbers.{IsLineOf}
use Rattle.pgo_log_text.specs.ReadBundle.{IsNoBundle}
use Rattle.pgo_show.specs.declared.ended.Ended.{Ended}
use Rattle.pgo_show.specs.declared.status.Status.{Status}
use Rattle.pgo_show.specs.declared.status.Status.TheVariants as status
use Rattle.pgo_show.specs.Makes.{most_bytes, text_of_lines, Explains, ExplainsShort, Lacks, LacksShort, IsTextEnd, IsNoBundleEnd, Others, NamesLine, HasLine, StopsReading, StopsText, Stops, ReadsAll}
use Rattle.pgo_show.specs.Wishes.{Wish, Explanation, Picture, Changes, lines_asked, IsLacking}

some_none : {A : Type 0} (x : A) → Some x ≡ None → ⊥
some_none x h = cc

-- ---- a component that isn't there

no_lines : (o : Option (List Line)) → text_of_lines o ≡ None → o ≡ None
no_lines None e = refl
no_lines (Some ls) e = absurd (some_none _ e)

pub lacking_of : (w : Wish) (m : Module) (l : BundleLog) → text_of_lines (lines_asked w m l) ≡ None → IsLacking w l
lacking_of Explanation m l e = some_none _ e
lacking_of Picture m l e = some_none _ e
lacking_of (Changes c) m l e = no_lines (lines_asked (Changes c) m l) e

pub not_lacking : (w : Wish) (m : Module) (l : BundleLog) (written : List ℕ) → text_of_lines (lines_asked w m l) ≡ Some written → IsLacking w l → ⊥
not_lacking Explanation m l written e h = h
not_lacking Picture m l written e h = h
not_lacking (Changes c) m l written e h = some_none written (sym e ∙ ap text_of_lines h)

-- ---- a line of its own

other_line : (c : List ℕ) (input : Option (List ℕ)) (s : Status) (line : Option (List ℕ)) → Others s → line ≡ None → HasLine c input s line
other_line c input s line other none = inr (inr (other, none))

memory_other : {s : Status} → s ≡ status.NoMemory → Others s
memory_other e = subst Others (sym e) tt

-- ---- a text that is no bundle

pub ended_no_bundle : (w : Wish) (text : List ℕ) (n : ℕ) (s : Status) (line : Option (List ℕ)) → IsNoBundle text → IsNoBundleEnd n s line → StopsText w text s
ended_no_bundle w text n s line none (inl h) = inl (h.0, none)
ended_no_bundle w text n s line none (inr h) = inr (inr h.0)

pub named_line : (c text : List ℕ) (n : ℕ) (s : Status) (line : Option (List ℕ)) → IsLineOf text n → IsNoBundleEnd n s line → HasLine c (Some text) s line
named_line c text n s line there (inl h) = inl (h.0, subst (NamesLine (Some text)) (sym h.1) (n, refl, there))
named_line c text n s line there (inr h) = other_line c (Some text) s line (memory_other h.0) h.1

-- ---- a bundle, of which nothing is made

text_stop : (w : Wish) (text c : List ℕ) (t : Option (List ℕ)) (s : Status) (line : Option (List ℕ)) → (t ≡ None → Lacks w text) → IsTextEnd t c s line → StopsText w text s
text_stop w text c t s line lacks (inl (none, inl h)) = inr (inl (h.0, lacks none))
text_stop w text c t s line lacks (inl (none, inr h)) = inr (inr h.0)
text_stop w text c t s line lacks (inr h) = inr (inr h.0)

pub text_stops : {A : Type 0} (w : Wish) (text c : List ℕ) (t : Option (List ℕ)) (r : Result A Ended) → (t ≡ None → Lacks w text)
    → IfErr r (λ e. IsTextEnd t c e.status e.line) → IfErr r (λ e. StopsText w text e.status)
text_stops w text c t (Ok v) lacks h = tt
text_stops w text c t (Err e) lacks h = text_stop w text c t e.status e.line lacks h

text_line : (c : List ℕ) (input t : Option (List ℕ)) (s : Status) (line : Option (List ℕ)) → IsTextEnd t c s line → HasLine c input s line
text_line c input t s line (inl (none, inl h)) = inr (inl h)
text_line c input t s line (inl (none, inr h)) = other_line c input s line (memory_other h.0) h.1
text_line c input t s line (inr h) = other_line c input s line (memory_other h.0) h.1

pub text_lines : {A : Type 0} (c : List ℕ) (input t : Option (List ℕ)) (r : Result A Ended) → IfErr r (λ e. IsTextEnd t c e.status e.line)
    → IfErr r (λ e. HasLine c input e.status e.line)
text_lines c input t (Ok v) h = tt
text_lines c input t (Err e) h = text_line c input t e.status e.line h

-- ---- an input that was read

pub explained : (w : Wish) (input : Option (List ℕ)) (text written : List ℕ) → IfSome input (λ bs. text ≡ bs) → length text ≤ most_bytes → Explains w text written
    → IfSome input (λ bs. ExplainsShort w bs written)
explained w None text written told short h = tt
explained w (Some bs) text written told short h = subst (λ t. ExplainsShort w t written) told (short, h)

pub stops_text : (w : Wish) (input : Option (List ℕ)) (before now : ℕ) (text : List ℕ) (s : Status) → IfSome input (λ bs. text ≡ bs) → length text ≤ most_bytes → StopsText w text s
    → Stops w input before now s
stops_text w input before now text s told short (inl h) = inl (h.0, none_told input told)
  where
    none_told : (o : Option (List ℕ)) → IfSome o (λ bs. text ≡ bs) → IfSome o (λ bs. (length bs ≤ most_bytes) × IsNoBundle bs)
    none_told None t = tt
    none_told (Some bs) t = subst (λ t. (length t ≤ most_bytes) × IsNoBundle t) t (short, h.1)
stops_text w input before now text s told short (inr (inl h)) = inr (inl (h.0, lacks_told input told))
  where
    lacks_told : (o : Option (List ℕ)) → IfSome o (λ bs. text ≡ bs) → IfSome o (LacksShort w)
    lacks_told None t = tt
    lacks_told (Some bs) t = subst (LacksShort w) t (short, h.1)
stops_text w input before now text s told short (inr (inr h)) = inr (inr (inr (inr h)))

named_told : (input : Option (List ℕ)) (text : List ℕ) (line : Option (List ℕ)) → IfSome input (λ bs. text ≡ bs) → NamesLine (Some text) line → NamesLine input line
named_told input text None told h = h
named_told None text (Some l) told h = (h.0, h.1, tt)
named_told (Some bs) text (Some l) told h = (h.0, h.1, subst (λ t. IsLineOf t h.0) told h.2)

line_told : (c : List ℕ) (input : Option (List ℕ)) (text : List ℕ) (s : Status) (line : Option (List ℕ)) → IfSome input (λ bs. text ≡ bs) → HasLine c (Some text) s line
    → HasLine c input s line
line_told c input text s line told (inl h) = inl (h.0, named_told input text line told h.1)
line_told c input text s line told (inr h) = inr h

pub lines_told : {A : Type 0} (c : List ℕ) (input : Option (List ℕ)) (text : List ℕ) (r : Result A Ended) → IfSome input (λ bs. text ≡ bs)
    → IfErr r (λ e. HasLine c (Some text) e.status e.line) → IfErr r (λ e. HasLine c input e.status e.line)
lines_told c input text (Ok v) told h = tt
lines_told c input text (Err e) told h = line_told c input text e.status e.line told h

-- ---- an input that was not read

pub reading_line : (c : List ℕ) (input : Option (List ℕ)) (before now : ℕ) (s : Status) (line : Option (List ℕ)) → StopsReading input before now s → line ≡ None → HasLine c input s line
reading_line c input before now s line (inl h) none = other_line c input s line (subst Others (sym h.0) tt) none
reading_line c input before now s line (inr (inl h)) none = other_line c input s line (subst Others (sym h.0) tt) none
reading_line c input before now s line (inr (inr h)) none = other_line c input s line (memory_other h) none

pub reading_ends : (input : Option (List ℕ)) (before now : ℕ) (s : Status) → StopsReading input before now s → ReadsAll s → ⊥
reading_ends input before now s (inl h) all = subst ReadsAll h.0 all
reading_ends input before now s (inr (inl h)) all = subst ReadsAll h.0 all
reading_ends input before now s (inr (inr h)) all = subst ReadsAll h all

-- ---- an output

-- an output that took all of a text, and holds the same since, has taken a prefix of it
pub all_in_part : (a b c : Option (List ℕ)) (xs : List ℕ) → Grows a b xs → c ≡ b → GrowsByPrefix a c xs
all_in_part a b c xs g same = (length xs, subst (Grows a c) (sym (take-length xs)) (subst (λ t. Grows a t xs) (sym same) g))
