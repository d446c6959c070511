-- At which line a text is refused whose records aren't tied.
use Rattle.std.proofs.Common.{◌≡◌, ◌+◌, ◌-◌, ◌^◌, ℕ, min, List, ◌++◌, Some, sym, ap, subst, ◌∙◌}
use Rattle.pgo_base.specs.Lookup.{Vars}
use Rattle.pgo_model.specs.Module.{Module}
use Rattle.pgo_model.specs.ModuleText.{flatten}
use Rattle.pgo_bundle.specs.BundleLog.{BundleLog}
use Rattle.pgo_bundle.specs.Lines.{log_lines}
use Rattle.pgo_bundle.specs.Places.{lines_before}
use Rattle.pgo_bundle.specs.Untied.{untied_at}
use Rattle.pgo_bundle.proofs.PlaceLaws.{two_line}
use Rattle.pgo_bundle.proofs.Saturated.{sum_one}
use Rattle.pgo_log_text.specs.declared.errors.LogStop.{LogStop}
use Rattle.pgo_log_text.specs.declared.errors.LogStop.TheVariants.{BadLog, NoMemory}
use Rattle.pgo_log_text.specs.LineNumbers.{newlines, IsLineOf, NamesLineOf}
use Rattle.pgo_log_text.specs.ReadBundle.{HasOnlyForm, IsFormless, NamesUntied, StartsLog, TellsTie, line_of}
use Rattle.pgo_log_text.proofs.LineCounts.{is_line}

-- a text without the form of a bundle
pub formless_untied : (text : List ℕ) (stop : LogStop) → IsFormless text stop → NamesUntied text stop
formless_untied text (BadLog n) h = λ m cs l u before form two at is. absurd (h m cs l form)
formless_untied text NoMemory h = tt

some_same : {A : Type 0} {x y : A} → Some x ≡ Some y → x ≡ y
some_same e = cc

-- what is told of its log
pub told_untied : (text : List ℕ) (m : Module) (cs : Vars) (l : BundleLog) (first : ℕ) (stop : LogStop) → HasOnlyForm text m cs l → StartsLog text l first → TellsTie l first (Some stop) → NamesUntied text stop
told_untied text m cs l first (BadLog n) only starts h = λ k ds other u before form two at is.
    let same : other ≡ l = (only k ds other form).2 in
    let start = starts before (is ∙ ap (λ z. before ++ flatten (log_lines z)) same) in
    let place : h.0 ≡ u = some_same (sym h.2 ∙ ap untied_at (sym same) ∙ at) in
    let size : lines_before l h.0 ≡ lines_before other u = λ i. lines_before (sym same i) (place i) in
    sum_one (2 ^ 64 - 1) (1 + newlines before) (lines_before l h.0) first n start h.3 ∙ ap (λ z. min (1 + newlines before + z) (2 ^ 64 - 1)) size
told_untied text m cs l first NoMemory only starts h = tt

-- the line is one of the text, so it is kept
pub kept_untied : (text : List ℕ) (stop kept : LogStop) → (NamesLineOf text stop → kept ≡ stop) → NamesUntied text stop → NamesUntied text kept
kept_untied text (BadLog n) (BadLog k) same h = λ m cs l u before form two at is.
    let line : n ≡ line_of before l u = h m cs l u before form two at is in
    let there : IsLineOf text n = subst (IsLineOf text) (sym line) (is_line text before l u is (two_line l u two at)) in
    let stays : BadLog k ≡ BadLog n = same there in
    let number : k ≡ n = cc in
    number ∙ line
kept_untied text (BadLog n) NoMemory same h = tt
kept_untied text NoMemory (BadLog k) same h = absurd (let stays : BadLog k ≡ NoMemory = same tt in cc)
kept_untied text NoMemory NoMemory same h = tt
