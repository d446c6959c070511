use Rattle.std.proofs.Common.{ℕ, ◌+◌, ◌%◌, ◌^◌, ap, sym, ◌∙◌}
use Rattle.rand_pcg.specs.Lcg.{Lcg, advance, started, increment_of}
use Rattle.rand_pcg.specs.Pcg.{multiplier_64, pcg32}
use Rattle.pgo_model.specs.Choice.{generator}
use Rattle.pgo_resource.proofs.WordAt.{word_from-advance}
use Rattle.pgo_resource.proofs.points.seeded_word.Goals as goal

pub returns : goal.returns
unfolding generator
returns c =
    let n = c.args.number in
    ap (λ (p : ℕ × Lcg). p.0) c.next_word.ensures ∙ ap (λ (g : Lcg). (pcg32 g).0) c.advance.ensures
    ∙ ap (λ (g : Lcg). (pcg32 (advance 64 multiplier_64 n g)).0) c.new-generator.ensures
    ∙ ap (λ (a : ℕ). (pcg32 (advance 64 multiplier_64 n (started 64 multiplier_64 ((c.args.seed + a) % 2 ^ 64) (increment_of 64 c.from-2.result)))).0) c.from.ensures
    ∙ ap (λ (k : ℕ). (pcg32 (advance 64 multiplier_64 n (started 64 multiplier_64 ((c.args.seed + c.args.attempt) % 2 ^ 64) (increment_of 64 k)))).0) c.from-2.ensures
    ∙ sym (word_from-advance (generator c.args.seed c.args.instance c.args.attempt) n)
