-- From a file that is refused to what is answered.
use Rattle.std.proofs.Common.{◌≡◌, ◌≢◌, ℕ, ◌<◌, zero, suc, List, [], ◌∷◌, ◌++◌, length, Option, Some, None, refl, sym, ◌∙◌, ap, subst, arith}
use Rattle.std.specs.Prelude.{IsSomeAnd, IfOk, IfErr, Result, Ok, Err}
use Rattle.tree_model.specs.View.{SystemView}
use Rattle.system_file.specs.declared.fault.SystemFault.{SystemFault}
use Rattle.system_file.specs.SystemFile.{system_of}
use Rattle.rt_report.specs.Unread.{too_long_text}
use Rattle.outside.specs.Counts.{Counts, IsQuiet}
use Rattle.outside.specs.Files.{Files, Told, file_named}
use Rattle.outside.specs.Reading.{IsTooLong}
use Rattle.outside.specs.Taker.{TookFile}
use Rattle.command_frame.specs.declared.status.Status.{Status}
use Rattle.command_frame.specs.declared.status.Status.TheVariants.{BadFile, TooLong}
use Rattle.command_frame.specs.Answer.{file_limit, Saying, AtContent, OnSystem}
use Rattle.command_frame.specs.declared.answer.Ending.{Ending}
use Rattle.command_frame.specs.declared.answer.Ending.TheVariants.{Answered, Unread, NoMemory as NoRoom}
use Rattle.command_frame.specs.Steps.{Explains, ExplainsAnswer, IfAnswered}
use Rattle.command_frame.specs.inner.Steps.{ExplainsStep, IsHeld, IsSpelled, StopsAt, TookHeld}

-- a list of more than n entries
longer_list : (n : ℕ) → (bytes : List ℕ) × (n < length bytes)
longer_list zero = (0 ∷ [], omega arith)
longer_list (suc n) = (let shorter = longer_list n in (0 ∷ shorter.0, omega (arith, shorter.1)))

long_content : (k : ℕ) (bytes text : List ℕ) (Says : Saying) → text ≡ too_long_text k → file_limit < length bytes
    → AtContent k (Some bytes) Says TooLong text
long_content k bytes text Says is long = record { too_long = λ l. (refl, is); said = λ l. absurd (omega (arith, long)) }

long_of_told : (k : ℕ) (files : Files) (name text : List ℕ) (Says : Saying) → text ≡ too_long_text k
    → (file : Option (List ℕ)) → file_named name files ≡ file → IsSomeAnd file (λ bytes. file_limit < length bytes)
    → StopsAt k (Some files) name Says TooLong text
long_of_told k files name text Says is None e long = absurd long
long_of_told k files name text Says is (Some bytes) e long =
    record { content = Some bytes; held = e; answers = long_content k bytes text Says is long }

stops_told : (k : ℕ) (files : Option Files) (name : List ℕ) (text : List ℕ) (Says : Saying) → text ≡ too_long_text k
    → Told files name (λ file. IsSomeAnd file (λ bytes. file_limit < length bytes))
    → StopsAt k files name Says TooLong text
stops_told k None name text Says is told =
    (
    let long = longer_list file_limit in
    record { content = Some long.0; held = tt; answers = long_content k long.0 text Says is long.1 })
stops_told k (Some files) name text Says is told =
    long_of_told k files name text Says is (file_named name files) refl told

pub stops_long : (k : ℕ) (files : Option Files) (name : List ℕ) (text : List ℕ) (Says : Saying)
    {before after : Counts} → text ≡ too_long_text k → IsTooLong files name file_limit before after
    → StopsAt k files name Says TooLong text
stops_long k files name text Says is long = stops_told k files name text Says is long.longer

-- a whole file that was taken
pub took_held : {A : Type 0} (has_taken : A → A → List ℕ → Type 0) (old new : A) (files : Option Files)
    (name : List ℕ) (before after : Counts) → TookFile has_taken old new files name file_limit before after
    → TookHeld has_taken old new files name
took_held has_taken old new files name before after file =
    record { bytes = file.bytes; took = file.took; held = record { held = file.read.whole; short = file.read.short } }

-- what a list that was empty took of a file is that file
pub all_held : (files : Option Files) (name old now bytes : List ℕ) → old ≡ [] → now ≡ old ++ bytes
    → IsHeld files name bytes → IsHeld files name now
all_held files name old now bytes none is held =
    subst (IsHeld files name) (sym (is ∙ ap (λ (z : List ℕ). z ++ bytes) none)) held

-- a system that was spelled, or was not
pub system_spelled : (files : Option Files) (name bytes : List ℕ) (result : Result SystemView Ending)
    → IsHeld files name bytes → IfOk result (λ sys. system_of bytes ≡ Ok sys)
    → IfOk result (λ sys. IsSpelled files name sys)
system_spelled files name bytes (Ok sys) held spelled =
    record { bytes = bytes; held = held.held; short = held.short; spelled = spelled }
system_spelled files name bytes (Err stop) held spelled = tt

stop_at_system : (files : Option Files) (name bytes : List ℕ) (stop : Ending) → IsHeld files name bytes
    → IfAnswered stop (λ a. OnSystem (system_of bytes) (λ _ _ _. ⊥) a.status a.text.items) →
    IfAnswered stop (λ a. StopsAt 1 files name (λ b. OnSystem (system_of b) (λ _ _ _. ⊥)) a.status a.text.items)
stop_at_system files name bytes (Answered a) held bad =
    record {
      content = Some bytes;
      held = held.held;
      answers = record { too_long = λ l. absurd (omega (arith, held.short)); said = λ l. bad };
    }
stop_at_system files name bytes Unread held bad = tt
stop_at_system files name bytes NoRoom held bad = tt

pub system_refused : (files : Option Files) (name bytes : List ℕ) (result : Result SystemView Ending)
    → IsHeld files name bytes
    → IfErr result (λ stop. IfAnswered stop (λ a. OnSystem (system_of bytes) (λ _ _ _. ⊥) a.status a.text.items)) →
    IfErr result (λ stop. IfAnswered stop
    (λ a. StopsAt 1 files name (λ b. OnSystem (system_of b) (λ _ _ _. ⊥)) a.status a.text.items))
system_refused files name bytes (Ok sys) held bad = tt
system_refused files name bytes (Err stop) held bad = stop_at_system files name bytes stop held bad

bad_status : (spelled : Result SystemView SystemFault) (status : Status) (text : List ℕ)
    → OnSystem spelled (λ _ _ _. ⊥) status text → status ≡ BadFile
bad_status (Ok sys) status text none = absurd none
bad_status (Err fault) status text bad = bad.0

bad_explained : (bytes : List ℕ) (stop : Ending) (before after : Counts) → IsQuiet before after
    → IfAnswered stop (λ a. OnSystem (system_of bytes) (λ _ _ _. ⊥) a.status a.text.items) → stop ≢ Unread
    → Explains stop before after
bad_explained bytes (Answered a) before after quiet bad read =
    subst (λ (s : Status). ExplainsAnswer s before after) (sym (bad_status (system_of bytes) a.status a.text.items bad))
    quiet
bad_explained bytes Unread before after quiet bad read = absurd (read refl)
bad_explained bytes NoRoom before after quiet bad read = quiet.faults

pub system_explained : (bytes : List ℕ) (result : Result SystemView Ending) (before after : Counts)
    → IsQuiet before after
    → IfErr result (λ stop. IfAnswered stop (λ a. OnSystem (system_of bytes) (λ _ _ _. ⊥) a.status a.text.items))
    → IfErr result (λ stop. stop ≢ Unread) →
    ExplainsStep result before after
system_explained bytes (Ok sys) before after quiet bad read = quiet
system_explained bytes (Err stop) before after quiet bad read = bad_explained bytes stop before after quiet bad read
