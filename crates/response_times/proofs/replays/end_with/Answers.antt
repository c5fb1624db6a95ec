use Rattle.std.proofs.Common.{◌≡◌, ℕ, true, not, nat_eq, Option, Some, sym, ◌∙◌, arith}
use Rattle.std.specs.Option.{option_eq}
use Rattle.std.proofs.lemmas.Grind.{common_steps}
use Rattle.response_times.proofs.Ended.{last_job}
use Rattle.response_times.proofs.replays.end_with.Goals as goal

no_other : (o : Option ℕ) (j : ℕ) → o ≡ Some j → not (option_eq nat_eq o (Some j)) ≡ true → ⊥
no_other o j e other = grind (arith, common_steps)

pub unreachable-requires-then-ne : goal.unreachable-requires-then-ne
unreachable-requires-then-ne c =
    no_other c.in-Some.last.now.job c.args.j
    (last_job c.args.spans.now c.requires.0 c.args.j c.in-Some.last.now c.requires.1 c.requires.2
    (sym c.in-Some.ensures.value)) (sym c.ne.ensures ∙ c.if-ne.true)
