-- Whether a global has an element is, along a section, as it was at the start.
use Rattle.std.proofs.Common.{◌≡◌, Bool, true, false, if◌then◌else◌, List, [], ◌∷◌, Some, refl, sym, ap, ◌∙◌, subst, option_and_then}
use Rattle.pgo_base.specs.Data.{Data, graph, keys}
use Rattle.pgo_base.specs.Lookup.{Name, Names, find}
use Rattle.pgo_model.specs.Operators.{apply, except, lookup, same_data}
use Rattle.pgo_model.specs.System.{Words}
use Rattle.pgo_model.specs.Variables.{IsFunctionOn}
use Rattle.pgo_sections.specs.Code.{Code}
use Rattle.pgo_sections.specs.Context.{Context, content, part_at}
use Rattle.pgo_sections.specs.Domains.{ByElements, HaveDomains}
use Rattle.pgo_sections.specs.Exec.{touched, touching}
use Rattle.pgo_sections.specs.Macros.{exec}
use Rattle.pgo_sections.specs.SectionRun.{SectionRun, Go, seen}
use Rattle.pgo_sections.proofs.Domains.{KeptBy, kept_by, now_on, part_keeps}

pub except_keeps : (ids : List Data) (f i v g : Data) → IsFunctionOn ids (Some f) → except f i v ≡ Some g → IsFunctionOn ids (Some g)
except_keeps ids f i v g h e = part_keeps ids i (Some f) (Some v) g h e

pub changes_keep : (k : Context) (c : Code) (env : Names) (d : Words) (run then' : SectionRun) → ByElements k.by_element c → HaveDomains k run.changes → exec k c env d run ≡ Go then' → HaveDomains k then'.changes
changes_keep k c env d run then' b h e = subst (KeptBy k) e (kept_by k c env d run b h)

abbrev first_of : Data → List Data → Data
first_of x [] = x
first_of x (y ∷ ys) = y

abbrev rest_of : List Data → List Data
rest_of [] = []
rest_of (x ∷ xs) = xs

-- two functions on one domain have the same elements
same_touched : (g : Name) (i : Data) (ps qs : List (Data × Data)) → keys ps ≡ keys qs → touched true g (Some i) (lookup i ps) ≡ touched true g (Some i) (lookup i qs)
same_touched g i [] [] h = refl
same_touched g i [] (q ∷ qs) h = absurd (cc)
same_touched g i (p ∷ ps) [] h = absurd (cc)
same_touched g i (p ∷ ps) (q ∷ qs) h =
    go (same_data i p.0) (same_data i q.0) (ap (same_data i) (ap (first_of p.0) h)) (same_touched g i ps qs (ap rest_of h))
  where
    go : (b c : Bool) → b ≡ c → touched true g (Some i) (lookup i ps) ≡ touched true g (Some i) (lookup i qs) → touched true g (Some i) (if b then Some p.1 else lookup i ps) ≡ touched true g (Some i) (if c then Some q.1 else lookup i qs)
    go true true e more = refl
    go true false e more = absurd (cc)
    go false true e more = absurd (cc)
    go false false e more = more

pub elements_stay : (k : Context) (g : Name) (ids : List Data) (i : Data) (run : SectionRun) → k.by_element g ≡ true → IsFunctionOn ids (find g k.start) → HaveDomains k run.changes → touching k g (Some i) run ≡ seen (touched true g (Some i) (part_at g i k.start)) run
elements_stay k g ids i run by starts h =
    let now = now_on k g ids run.changes by starts h in
    let at_now : content k g (Some i) run.changes ≡ lookup i (graph now.0) = ap (option_and_then (λ f. apply f i)) now.1 in
    let at_start : part_at g i k.start ≡ lookup i (graph starts.0) = ap (option_and_then (λ f. apply f i)) starts.1 in
    let same : touched true g (Some i) (content k g (Some i) run.changes) ≡ touched true g (Some i) (part_at g i k.start) = ap (touched true g (Some i)) at_now ∙ same_touched g i (graph now.0) (graph starts.0) (now.2 ∙ sym starts.2) ∙ ap (touched true g (Some i)) (sym at_start) in
    ap (λ b. seen (touched b g (Some i) (content k g (Some i) run.changes)) run) by ∙ ap (λ ts. seen ts run) same
