-- What halts only where it has nothing to do runs as over a supply that gives the budget.
use Rattle.std.proofs.Common.{◌≡◌, ℕ, ◌+◌, ◌<◌, Bool, true, false, ◌||◌, List, length, get_or, Option, refl, sym, ◌∙◌, arith, inl, inr}
use Rattle.std.proofs.lemmas.Bool.{cases_Bool, both_ways}
use Rattle.slot_model.specs.declared.job.Job.{Job}
use Rattle.slot_model.specs.Task.{SporadicTask}
use Rattle.slot_model.specs.Run.{Level, PermittedRun}
use Rattle.halting.specs.Stolen.{moments_from}
use Rattle.halting.specs.Halting.{HaltingRun, IsAdmittedRun, RunsAsAdmitted, KeepsDeadlines, StaysInTime}
use Rattle.halting.proofs.Counted.{moments_long, moment_at}
use Rattle.halting.proofs.Stolen.{is_spared, gives}

or_second : (a b : Bool) → (a || b) ≡ true → a ≡ false → b ≡ true
or_second true b q e = absurd (both_ways true e refl)
or_second false b q e = q

neither_first : (a b : Bool) → (a || b) ≡ false → a ≡ false
neither_first true b q = q
neither_first false b q = refl

module _ (blocked runs : ℕ → Bool) (f n : ℕ) (level : Level) (before : Job → Job → Bool) (tasks : List SporadicTask)
    (jobs : List Job) (own_run : List (Option ℕ))
    (h : HaltingRun blocked runs f n level before tasks jobs own_run) where
  abbrev slots : List Bool
  slots = moments_from (is_spared blocked runs) f n

  same_long : length slots ≡ length (moments_from runs f n)
  same_long = moments_long (is_spared blocked runs) f n ∙ sym (moments_long runs f n)

  inside : (x : ℕ) → x < length slots → f + x < n
  inside x l = omega (arith, l, moments_long (is_spared blocked runs) f n)

  here : (x : ℕ) → x < length slots → get_or slots x false ≡ (runs (f + x) || blocked (f + x))
  here x l = moment_at (is_spared blocked runs) f n x (inside x l)

  own : (x : ℕ) → x < length slots → get_or (moments_from runs f n) x false ≡ runs (f + x)
  own x l = moment_at runs f n x (inside x l)

  permitted : PermittedRun level before tasks jobs slots own_run
  permitted = record {
    same_length = h.permitted.same_length ∙ sym same_long;
    no_slot =
        λ x l q. h.permitted.no_slot x (omega (arith, l, same_long))
        (own x l ∙ neither_first (runs (f + x)) (blocked (f + x)) (sym (here x l) ∙ q));
    idle =
        λ x j l q none p. elim (cases_Bool (runs (f + x))) [
          | inl b ↦ h.permitted.idle x j (omega (arith, l, same_long)) (own x l ∙ b) none p
          | inr b ↦
              h.halts x j (inside x l) (or_second (runs (f + x)) (blocked (f + x)) (sym (here x l) ∙ q) b) p
        ];
    served = λ x j l e. h.permitted.served x j (omega (arith, l, same_long)) e;
    chosen = λ x j k l e p b. h.permitted.chosen x j k (omega (arith, l, same_long)) e p b;
  }

pub runs_as_admitted : RunsAsAdmitted
runs_as_admitted period budget before tasks blocked runs f n level jobs own_run few h = record {
  slots = moments_from (is_spared blocked runs) f n;
  gives = gives blocked runs period budget f n few;
  permitted = permitted blocked runs f n level before tasks jobs own_run h;
}

pub keeps_deadlines : KeepsDeadlines
keeps_deadlines period budget before tasks none blocked runs f n level jobs own_run few h j x lost =
    let a : IsAdmittedRun period budget before tasks level jobs own_run
    = runs_as_admitted period budget before tasks blocked runs f n level jobs own_run few h in
    none level jobs a.slots own_run a.gives h.legal a.permitted j x lost

pub stays_in_time : StaysInTime
stays_in_time period budget before tasks i t is blocked runs f n level jobs own_run few h j l mine fits =
    let a : IsAdmittedRun period budget before tasks level jobs own_run
    = runs_as_admitted period budget before tasks blocked runs f n level jobs own_run few h in
    (is level jobs a.slots own_run a.gives h.legal a.permitted j l mine).0 fits
