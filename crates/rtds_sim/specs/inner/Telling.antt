-- What several cores tell, each in the order of its slots, and all of them slot by slot.
use Rattle.std.specs.Prelude.{◌≡◌, ℕ, zero, suc, ◌+◌, ◌<◌, List, [], ◌++◌, Option, Some}
use Rattle.std.specs.Global.{Vec}
use Rattle.trace_file.specs.declared.event.Event.{Event}
use Rattle.rtds_sim.specs.inner.Lists.{list_at}
use Rattle.rtds_trace.specs.Printed.{gathered, moment_of_slot}

-- what is told at the m slots from x on, where f tells what is at each, if anything
abbrev pub told_on : (ℕ → Option Event) → ℕ → ℕ → List Event
told_on f x m = gathered (λ i. f (x + i)) m

-- where f tells of each slot what each of n cores tells: slot by slot, and at each core by core
unfoldable pub told_by : (ℕ → ℕ → Option Event) → ℕ → ℕ → ℕ → List Event
told_by f x n zero = []
told_by f x n (suc m) = told_by f x n m ++ gathered (f (x + m)) n

-- each event stands at its slot
abbrev pub AreAtSlots : (ℕ → ℕ → Option Event) → Type 0
AreAtSlots f = (y c : ℕ) (event : Event) → f y c ≡ Some event → event.at ≡ moment_of_slot y

-- each of n lists is what its core tells
abbrev pub AreTold : (ℕ → ℕ → Option Event) → ℕ → ℕ → ℕ → List (Vec Event) → Type 0
AreTold f x m n lists = (c : ℕ) → c < n → list_at lists c ≡ told_on (λ y. f y c) x m
