-- The span with which a run ends.
use Rattle.std.proofs.Common.{◌≡◌, ℕ, suc, ◌-◌, ◌<◌, List, length, Some, None, sym, ◌∙◌, ap, arith}
use Rattle.std.specs.List.{slice_get}
use Rattle.std.proofs.lemmas.Option.{get_or_from_slice_get, slice_get_within}
use Rattle.guest_sched.specs.declared.spans.Span.{Span}
use Rattle.guest_sched.specs.Spans.{span_at, end_of, run_of, AreSpans}
use Rattle.guest_sched.proofs.Held.{held_within}
use Rattle.response_times.specs.inner.Ends.{EndsWith}

-- it is of the job that has the last slot
pub last_job : (spans : List Span) (n j : ℕ) (last : Span) → AreSpans spans n → EndsWith (run_of spans) n j
    → slice_get spans (length spans - 1) ≡ Some last → last.job ≡ Some j
last_job spans n j last are ends is =
    let k : ℕ = length spans - 1 in
    let within : k < length spans = slice_get_within spans k last is in
    let here : span_at spans k ≡ last
    = get_or_from_slice_get spans k last (record { from = 0; until = 0; job = None }) is in
    let until : (span_at spans k).until ≡ n
    = ap (end_of spans) (let e : suc k ≡ length spans = omega (arith, within) in e) ∙ are.whole in
    sym (ap (λ (s : Span). s.job) here)
    ∙ (sym (held_within spans n k ends.0 are (record {
      is_span = within;
      begun = omega (arith, are.some k within, until, ends.1);
      not_over = omega (arith, until, ends.1);
    })) ∙ ends.2)
