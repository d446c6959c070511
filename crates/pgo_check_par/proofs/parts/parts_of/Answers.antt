use Rattle.std.proofs.lemmas.List.{length-map}
use Rattle.std.proofs.Common.{◌≤◌, ◌∙◌, List, Some, inr, length, map, ap, sym, subst, arith}
use Rattle.pgo_base.specs.declared.log.Entry as memory
use Rattle.pgo_model.specs.Log.{StateAt}
use Rattle.pgo_model.specs.LogView.{entry_view}
use Rattle.pgo_check.proofs.Kept.{reached_alike}
use Rattle.pgo_check.proofs.Placing.{places_kept}
use Rattle.pgo_check_par.specs.Parts.{Follow}
use Rattle.pgo_check_par.proofs.Joins.{behind_part, follow_more}
use Rattle.pgo_check_par.proofs.parts.parts_of.Goals as goal

pub state_behind-requires : goal.state_behind-requires
state_behind-requires c =
    let s = c.args.start.now in
    let before = c.loop-from.before in
    places_kept c.in_ok-places.places s before (reached_alike c.loop-from.from (map entry_view c.args.entries.now) s before c.loop-from.invariant.before_is) c.in_ok-places.ensures

pub returns-in-None : goal.returns-in-None
returns-in-None c =
    let s = c.args.start.now in let es = c.args.entries.now in let i = c.loop-from.invariant in let from = c.loop-from.from in let to = c.end_of-to.result in
    let more = c.end_of-to.ensures.more in
    let at = i.before_is ∙ ap Some (sym c.in_ok-copy.ensures) in
    record {
      last = to;
      follow = subst (λ ps. Follow s (map entry_view es) 0 ps to) (sym c.in_ok-push.ensures.items) (follow_more s c.in_ok-copy.field-0 (map entry_view es) 0 c.loop-from.parts.items from to i.follow more (subst (λ n. to ≤ n) (sym (length-map es entry_view)) c.end_of-to.ensures.within) at);
      ends = inr (behind_part s c.loop-from.before es from to c.in_ok-behind.behind (omega (arith, more)) c.end_of-to.ensures.within i.before_is (c.in_ok-behind.ensures ∙ ap (λ (x : List memory.Entry). StateAt c.loop-from.before (map entry_view x) (length x)) c.between.ensures) ∙ c.in-None.is);
    }

pub loop-from-preserved : goal.loop-from-preserved
loop-from-preserved c =
    let s = c.args.start.now in let es = c.args.entries.now in let i = c.loop-from.invariant in let from = c.loop-from.from in let to = c.end_of-to.result in
    let more = c.end_of-to.ensures.more in
    let at = i.before_is ∙ ap Some (sym c.in_ok-copy.ensures) in
    record {
      follow = subst (λ ps. Follow s (map entry_view es) 0 ps to) (sym c.in_ok-push.ensures.items) (follow_more s c.in_ok-copy.field-0 (map entry_view es) 0 c.loop-from.parts.items from to i.follow more (subst (λ n. to ≤ n) (sym (length-map es entry_view)) c.end_of-to.ensures.within) at);
      within = c.end_of-to.ensures.within;
      before_is = behind_part s c.loop-from.before es from to c.in_ok-behind.behind (omega (arith, more)) c.end_of-to.ensures.within i.before_is (c.in_ok-behind.ensures ∙ ap (λ (x : List memory.Entry). StateAt c.loop-from.before (map entry_view x) (length x)) c.between.ensures) ∙ c.in-Some.is;
    }
