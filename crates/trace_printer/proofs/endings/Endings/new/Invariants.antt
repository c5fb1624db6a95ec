use Rattle.std.proofs.Common.{◌≡◌, ℕ, None, get_or}
use Rattle.trace_printer.proofs.endings.Endings.new.Given as goal

-- nothing is kept yet
abbrev pub invariant-loop : goal.invariant-loop
invariant-loop l = (i : ℕ) → get_or l.made.items i None ≡ None
