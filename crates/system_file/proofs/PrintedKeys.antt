-- Values that are printed are of their kinds: schedulers and numbers.
use Rattle.std.proofs.Common.{◌≡◌, ℕ, Bool, true, false, ◌==◌, Option, Some, None, refl}
use Rattle.std.specs.Prelude.{unwrap_or, is_none, if◌then◌else◌}
use Rattle.slot_model.specs.declared.sched.Sched.{Sched}
use Rattle.slot_model.specs.declared.sched.Sched.TheVariants.{Edf, Rm, Dm, Listed}
use Rattle.toml.specs.Data.{Data, string}
use Rattle.system_file.specs.Document.{sched_named}
use Rattle.system_file.specs.Printed.{number, other_number, sched_word}
use Rattle.system_file.specs.Written.{IsSchedText, IsWhole, There, MayBe}

sched_listed : (sched : Sched) → is_none (sched_named (sched_word sched)) ≡ false
sched_listed Edf = refl
sched_listed Rm = refl
sched_listed Dm = refl
sched_listed Listed = refl

pub sched_written : (o : Option Data) (sched : Sched) → o ≡ Some (string (sched_word sched)) → IsSchedText o
sched_written o sched is = record { text = sched_word sched; is = is; listed = sched_listed sched }

pub sched_back : (sched : Sched) → unwrap_or (sched_named (sched_word sched)) Edf ≡ sched
sched_back Edf = refl
sched_back Rm = refl
sched_back Dm = refl
sched_back Listed = refl

pub number_written : (o : Option Data) (n : ℕ) → o ≡ Some (number n) → There IsWhole o
number_written o n is = rw is (n, refl)

pub other_written : (usual n : ℕ) → MayBe IsWhole (other_number usual n)
other_written usual n = by (n == usual)
  where
    by : (b : Bool) → MayBe IsWhole (if b then None else Some (number n))
    by true = tt
    by false = (n, refl)
