-- The job of the last span.
use Rattle.std.specs.Prelude.{◌≡◌, ℕ, ◌+◌, List, length, Option}
use Rattle.guest_sched.specs.declared.spans.Span.{Span}
use Rattle.guest_sched.specs.Spans.{span_at}

-- the last span has this job
abbrev pub EndsWith : List Span → Option ℕ → Type 0
EndsWith spans job = (i : ℕ) × (i + 1 ≡ length spans) × ((span_at spans i).job ≡ job)
