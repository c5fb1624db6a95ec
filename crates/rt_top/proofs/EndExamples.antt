-- By which files a command can be judged, and how it ends then: of the commands about one leaf, of
-- those that edit a system, and of the tally. A wrong definition breaks one of them.
use Rattle.std.proofs.Common.{◌≡◌, ℕ, ◌≤◌, List, [], ◌∷◌, length, Some, refl}
use Rattle.std.specs.Prelude.{IsOk, Ok}
use Rattle.tree_model.specs.View.{SystemView}
use Rattle.system_file.specs.SystemFile.{system_of}
use Rattle.command_frame.specs.declared.status.Status.TheVariants.{Usage, BadFile, Absent, TooLong, ReadFault, WriteFault}
use Rattle.command_line.specs.Commands.{Command, responses, interface, choose, session, place, isolate, slack, tally, version, steal}
use Rattle.command_frame.specs.Answer.{Contents, IsReadable}
use Rattle.command_frame.specs.Attempt.{GivesSome}
use Rattle.host_commands.specs.Session.{scripting}
use Rattle.host_commands.specs.Place.{SpellsBadGuest, guesting}
use Rattle.trace_commands.specs.Audit.{tracing}
use Rattle.trace_commands.specs.Rtds.{HasOtherCore}
use Rattle.rt_top.specs.Causes.{CanJudge, EndsAs}

-- a system file is all that these ask for
one_file_is_enough : (file part one : List ℕ) (n m : ℕ) → length one ≤ 67108864 → IsOk (system_of one) →
    CanJudge (responses file) (Some one ∷ []) × CanJudge (interface file part n) (Some one ∷ [])
    × CanJudge (choose file part n m) (Some one ∷ []) × CanJudge (slack file part) (Some one ∷ [])
    × CanJudge (isolate file) (Some one ∷ [])
one_file_is_enough file part one n m short good =
    let there : IsReadable 1 (Some one ∷ []) (λ bytes. IsOk (system_of bytes))
    = record { bytes = one; there = refl; short = short; good = good } in
    (there, there, there, there, there)

-- and these ask for a second file that is well formed
two_files_are_enough : (file other one two : List ℕ) (sys : SystemView) → length one ≤ 67108864 → length two ≤ 67108864
    → system_of one ≡ Ok sys →
    (GivesSome (scripting two) → CanJudge (session file other) (Some one ∷ Some two ∷ []))
    × (GivesSome (guesting two) → CanJudge (place file other) (Some one ∷ Some two ∷ []))
    × (GivesSome (tracing sys two) → CanJudge (tally file other) (Some one ∷ Some two ∷ []))
two_files_are_enough file other one two sys short shorter spelled =
    let first : IsReadable 1 (Some one ∷ Some two ∷ []) (λ bytes. system_of bytes ≡ Ok sys)
    = record { bytes = one; there = refl; short = short; good = spelled } in (
      (λ good. record {
        sys = sys;
        spelled =
            record { first = first; second = record { bytes = two; there = refl; short = shorter; good = good } };
      }),
      (λ good. record {
        sys = sys;
        spelled =
            record { first = first; second = record { bytes = two; there = refl; short = shorter; good = good } };
      }),
      (λ good. record {
        sys = sys;
        spelled =
            record { first = first; second = record { bytes = two; there = refl; short = shorter; good = good } };
      }),
    )

no_file_is_enough : CanJudge version []
no_file_is_enough = tt

-- then none of them ends as over files that are not there, too long or not read
abbrev IsJudged : Command → Contents → Type 0
IsJudged command contents =
    (EndsAs command contents Usage → ⊥) × (EndsAs command contents Absent → ⊥) × (EndsAs command contents TooLong → ⊥)
    × (EndsAs command contents ReadFault → ⊥) × (EndsAs command contents WriteFault → ⊥)

each_of_one_file_is_judged : (file part : List ℕ) (n m : ℕ) (contents : Contents) →
    IsJudged (responses file) contents × IsJudged (interface file part n) contents
    × IsJudged (choose file part n m) contents × IsJudged (slack file part) contents
    × IsJudged (isolate file) contents
each_of_one_file_is_judged file part n m contents = (
  (λ h. h, λ h. h, λ h. h, λ h. h, λ h. h),
  (λ h. h, λ h. h, λ h. h, λ h. h, λ h. h),
  (λ h. h, λ h. h, λ h. h, λ h. h, λ h. h),
  (λ h. h, λ h. h, λ h. h, λ h. h, λ h. h),
  (λ h. h, λ h. h, λ h. h, λ h. h, λ h. h),
)

each_of_two_files_is_judged : (file other : List ℕ) (contents : Contents) →
    IsJudged (session file other) contents × IsJudged (place file other) contents
    × IsJudged (tally file other) contents × IsJudged version contents × IsJudged (steal file other) contents
each_of_two_files_is_judged file other contents = (
  (λ h. h, λ h. h, λ h. h, λ h. h, λ h. h),
  (λ h. h, λ h. h, λ h. h, λ h. h, λ h. h),
  (λ h. h, λ h. h, λ h. h, λ h. h, λ h. h),
  (λ h. h, λ h. h, λ h. h, λ h. h, λ h. h),
  (λ h. h, λ h. h, λ h. h, λ h. h, λ h. h),
)

-- a file is refused for a guest that can be no leaf, or for a core; by these for nothing
who_refuses_a_file : (file other : List ℕ) (contents : Contents) →
    (EndsAs (place file other) contents BadFile → SpellsBadGuest contents)
    × (EndsAs (isolate file) contents BadFile → HasOtherCore contents)
    × (EndsAs (responses file) contents BadFile → ⊥) × (EndsAs (session file other) contents BadFile → ⊥)
    × (EndsAs (tally file other) contents BadFile → ⊥) × (EndsAs version contents BadFile → ⊥)
    × (EndsAs (steal file other) contents BadFile → ⊥)
who_refuses_a_file file other contents = (λ h. h, λ h. h, λ h. h, λ h. h, λ h. h, λ h. h, λ h. h)
