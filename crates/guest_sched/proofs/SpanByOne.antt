-- The spans of a run one by one: where each begins and ends, and what the run holds there.
use Rattle.std.proofs.Common.{◌≡◌, ℕ, zero, suc, ◌+◌, ◌-◌, ◌<◌, ◌≤◌, List, [], length, Option, Some, refl, sym, ◌∙◌, ap, arith, add-one, add-zero}
use Rattle.slot_model.specs.declared.job.Job.{Job}
use Rattle.slot_model.specs.Run.{held}
use Rattle.slot_model.specs.Miss.{HoldsReleased, IsReleased}
use Rattle.guest_sched.specs.declared.spans.Span.{Span}
use Rattle.guest_sched.specs.Spans.{span_at, run_of, end_of, AreSpans}
use Rattle.guest_sched.proofs.Held.{held_within}

pub no_spans : AreSpans [] 0
no_spans =
    record {
      some = λ i l. absurd (omega arith);
      join = λ i l. absurd (omega arith);
      whole = refl;
      change = λ i l. absurd (omega arith);
    }

-- what a run holds at the slots of a span
abbrev pub Holds : List (Option ℕ) → ℕ → ℕ → Option ℕ → Type 0
Holds run m u o = (x : ℕ) → m ≤ x → x < u → held run x ≡ o

-- a span, and what a run holds there
pub record SpanHere (spans : List Span) (i : ℕ) : Type 0 where
  pub from : (span_at spans i).from ≡ end_of spans i
  pub until : (span_at spans i).until ≡ end_of spans (i + 1)
  pub some : (span_at spans i).from < (span_at spans i).until
  pub holds : Holds (run_of spans) (span_at spans i).from (span_at spans i).until (span_at spans i).job

pub span_here : (spans : List Span) (n i : ℕ) → AreSpans spans n → i < length spans → SpanHere spans i
span_here spans n i h l =
    record {
      from = h.join i l;
      until = sym (ap (end_of spans) (add-one i));
      some = h.some i l;
      holds = λ x a b. held_within spans n i x h (record { is_span = l; begun = a; not_over = b });
    }

-- the spans end within the whole
ends_grow : (spans : List Span) (n i k : ℕ) → AreSpans spans n → i + k ≤ length spans
    → end_of spans i ≤ end_of spans (i + k)
ends_grow spans n i zero h l = omega (arith, ap (end_of spans) (add-zero i))
ends_grow spans n i (suc k) h l =
    omega (
      arith,
      ends_grow spans n i k h (omega arith),
      h.join (i + k) (omega arith),
      h.some (i + k) (omega arith),
      ap (end_of spans) (let e : i + suc k ≡ suc (i + k) = omega arith in e),
    )

pub ends_in : (spans : List Span) (n i : ℕ) → AreSpans spans n → i ≤ length spans → end_of spans i ≤ n
ends_in spans n i h l =
    omega (
      arith,
      h.whole,
      ends_grow spans n i (length spans - i) h (omega arith),
      ap (end_of spans) (let e : i + (length spans - i) ≡ length spans = omega arith in e),
    )

-- the job of a span
pub span_job : (spans : List Span) (jobs : List Job) (i j : ℕ) → AreSpans spans (length (run_of spans))
    → HoldsReleased jobs (run_of spans) → i < length spans → (span_at spans i).job ≡ Some j
    → IsReleased jobs j (span_at spans i).from
span_job spans jobs i j h released l e =
    let here : SpanHere spans i = span_here spans (length (run_of spans)) i h l in
    released (span_at spans i).from j
    (omega (arith, here.some, here.until, ends_in spans (length (run_of spans)) (i + 1) h (omega arith)))
    (here.holds (span_at spans i).from (omega arith) here.some ∙ e)
