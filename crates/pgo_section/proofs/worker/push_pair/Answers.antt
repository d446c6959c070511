use Rattle.std.proofs.Common.{◌≡◌, ◌<◌, ℕ, true, sym, subst, arith}
use Rattle.pgo_model.specs.Core.{is_listed}
use Rattle.pgo_section.proofs.Listed.{listed_more}
use Rattle.pgo_section.proofs.worker.push_pair.Goals as goal

small : (n : ℕ) → n < 4294967296 → n < 18446744073709551615
small n h = omega (arith, h)

pub returns-clause-listed : goal.returns-clause-listed
returns-clause-listed c =
    subst (λ l. (r n : ℕ) → is_listed l r n ≡ true → n < 18446744073709551615) (sym c.in_ok-push.ensures.items) (listed_more 18446744073709551615 c.args.list.now.items (c.args.resource, c.args.number) (small c.args.number c.ranges.number.fits) c.requires)
