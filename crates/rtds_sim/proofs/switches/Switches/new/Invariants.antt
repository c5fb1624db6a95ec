use Rattle.std.proofs.Common.{◌≡◌, [], map, replicate}
use Rattle.rtds_sim.proofs.switches.Switches.new.Given as goal

-- as many empty lists as cores so far
abbrev pub invariant-loop : goal.invariant-loop
invariant-loop l = map (λ s. s.items) l.lists.items ≡ replicate l.counter []
