-- Worked cases of what is said of one file and of two, and of how much of them is read. A wrong
-- definition breaks one of them.
use Rattle.std.proofs.Common.{◌≡◌, ℕ, List, [], ◌∷◌, length, Option, Some, None, refl, subst, arith, ◌≤◌, ap, ◌∙◌}
use Rattle.std.specs.Prelude.{codes, IfOk, Result, Ok, Err, is_ok, ◌&&◌, Bool}
use Rattle.std.specs.Fmt.{digits}
use Rattle.tree_model.specs.View.{SystemView}
use Rattle.tree_model.specs.declared.plan.Refusal.TheVariants.{Overfull, Wide as TooWide}
use Rattle.system_file.specs.declared.fault.SystemFault.{SystemFault}
use Rattle.system_file.specs.declared.fault.SystemFault.TheVariants.{NotToml}
use Rattle.system_file.specs.SystemFile.{system_of}
use Rattle.command_frame.specs.declared.status.Status.{Status}
use Rattle.command_frame.specs.declared.status.Status.TheVariants.{Yes, No, Usage, BadFile, Wide, Absent, TooLong, ReadFault, WriteFault, NoMemory}
use Rattle.command_frame.specs.CommandSpec.{IsVerdict, IsYesOrNo, IsYes}
use Rattle.command_frame.specs.Answer.{Contents, file_at, AtFile, OnSystem, IfSystem, Saying, IsOne, file_limit}
use Rattle.command_frame.specs.Budgets.{refusal_status}
use Rattle.slot_model.specs.declared.sched.Short.TheVariants.{At}
use Rattle.tree_model.specs.declared.place.Place.TheVariants.{Core}
use Rattle.command_frame.specs.TwoFiles.{OnTwoFiles}
use Rattle.std.proofs.lemmas.Bool.{cond-true, cond-false, le-leb}
use Rattle.command_frame.specs.Reading.{read_of, is_system_file, read_in}
use Rattle.command_frame.specs.Statuses.{status_number}

-- files count from 1, and past the last there is none
files_count_from_one : (a b : Option (List ℕ))
    → (file_at 1 (a ∷ b ∷ []) ≡ a) × (file_at 2 (a ∷ b ∷ []) ≡ b) × (file_at 3 (a ∷ b ∷ []) ≡ None)
files_count_from_one a b = (refl, refl, refl)

-- the first file that is not there is told with its number
the_second_file_is_absent : (bytes text : List ℕ) (status : Status)
    → AtFile 2 (Some bytes ∷ None ∷ []) (λ _ _ _. ⊥) status text → (status ≡ Absent) × (text ≡ codes "absent file=2\n")
unfolding digits
the_second_file_is_absent bytes text status h = h

-- a file of the limit is not too long, and one byte more is
a_file_of_the_limit_is_said_of : (bytes text : List ℕ) (status : Status) → length bytes ≡ 67108864
    → AtFile 1 (Some bytes ∷ []) (λ _ s _. s ≡ Yes) status text → status ≡ Yes
a_file_of_the_limit_is_said_of bytes text status long h = h.said (omega (arith, long))

one_byte_more_is_too_long : (bytes text : List ℕ) (status : Status) → length bytes ≡ 67108865
    → AtFile 1 (Some bytes ∷ []) (λ _ s _. s ≡ Yes) status text → (status ≡ TooLong) × (text ≡ codes "toolong file=1\n")
unfolding digits
one_byte_more_is_too_long bytes text status long h = h.too_long (omega (arith, long))

-- bytes that spell no system are refused with the fault of the first file
a_fault_of_the_first_file : (Says : SystemView → Status → List ℕ → Type 0) (text : List ℕ)
    (status : Status) → OnSystem (Err NotToml) Says status text
    → (status ≡ BadFile) × (text ≡ codes "fault=NotToml file=1\n")
unfolding digits
a_fault_of_the_first_file Says text status h = h

-- what is said of a system is said of the one that the first file spells
said_of_the_file : (bytes : List ℕ) (sys : SystemView) (P : SystemView → Type 0) → system_of bytes ≡ Ok sys
    → IfSystem (Some bytes ∷ []) P → P sys
said_of_the_file bytes sys P spelled said = subst (λ (r : Result SystemView SystemFault). IfOk r P) spelled said

-- of a system that can be read there is a verdict, or memory ran out
no_other_is_a_verdict : (IsVerdict Usage → ⊥) × (IsVerdict BadFile → ⊥) × (IsVerdict Absent → ⊥)
    × (IsVerdict TooLong → ⊥) × (IsVerdict ReadFault → ⊥) × (IsVerdict WriteFault → ⊥)
no_other_is_a_verdict = (λ h. h, λ h. h, λ h. h, λ h. h, λ h. h, λ h. h)

-- where no answer is wide, and where every answer is yes
never_wide : IsYesOrNo Yes × IsYesOrNo No × IsYesOrNo NoMemory × (IsYesOrNo Wide → ⊥) × (IsYesOrNo BadFile → ⊥)
never_wide = (tt, tt, tt, λ h. h, λ h. h)

always_yes : IsYes Yes × IsYes NoMemory × (IsYes No → ⊥) × (IsYes Wide → ⊥) × (IsYes BadFile → ⊥)
always_yes = (tt, tt, λ h. h, λ h. h, λ h. h)

-- over a first file that spells a system the second is told by its own number
on_second : (bytes text : List ℕ) (status : Status) (sys : SystemView) (contents : Contents)
    (Says : SystemView → Saying) → system_of bytes ≡ Ok sys
    → OnSystem (system_of bytes) (λ s. AtFile 2 contents (Says s)) status text
    → AtFile 2 contents (Says sys) status text
on_second bytes text status sys contents Says spelled h =
    subst (λ (r : Result SystemView SystemFault). OnSystem r (λ s. AtFile 2 contents (Says s)) status text) spelled h

the_second_is_absent : (bytes text : List ℕ) (status : Status) (sys : SystemView) (Says : SystemView → Saying)
    → length bytes ≤ 67108864 → system_of bytes ≡ Ok sys → OnTwoFiles (Some bytes ∷ None ∷ []) Says status text →
    (status ≡ Absent) × (text ≡ codes "absent file=2\n")
unfolding digits
the_second_is_absent bytes text status sys Says short spelled h =
    on_second bytes text status sys (Some bytes ∷ None ∷ []) Says spelled (h.said short)

the_second_is_too_long : (bytes more text : List ℕ) (status : Status) (sys : SystemView) (Says : SystemView → Saying)
    → length bytes ≤ 67108864 → length more ≡ 67108865 → system_of bytes ≡ Ok sys
    → OnTwoFiles (Some bytes ∷ Some more ∷ []) Says status text →
    (status ≡ TooLong) × (text ≡ codes "toolong file=2\n")
unfolding digits
the_second_is_too_long bytes more text status sys Says short long spelled h =
    (on_second bytes text status sys (Some bytes ∷ Some more ∷ []) Says spelled (h.said short)).too_long
    (omega (arith, long))

-- a first file that is not there is told before the second is looked at
the_first_is_absent : (second : Option (List ℕ)) (text : List ℕ) (status : Status) (Says : SystemView → Saying)
    → OnTwoFiles (None ∷ second ∷ []) Says status text → (status ≡ Absent) × (text ≡ codes "absent file=1\n")
unfolding digits
the_first_is_absent second text status Says h = h

-- the statuses of refusals
statuses_of_refusals : (refusal_status (Overfull (Core 0) (At 20)) ≡ No) × (refusal_status (TooWide (Core 0)) ≡ Wide)
statuses_of_refusals = (refl, refl)

-- the number with which the program ends
numbers_of_statuses : (status_number Yes ≡ 0) × (status_number No ≡ 1) × (status_number Usage ≡ 2)
    × (status_number BadFile ≡ 3) × (status_number Wide ≡ 4) × (status_number Absent ≡ 5)
    × (status_number ReadFault ≡ 6) × (status_number TooLong ≡ 7) × (status_number WriteFault ≡ 8)
    × (status_number NoMemory ≡ 9)
numbers_of_statuses = (refl, refl, refl, refl, refl, refl, refl, refl, refl, refl)

-- neither a status nor a text alone is one answer
two_statuses_are_not_one : IsOne (λ (status : Status) (text : List ℕ). text ≡ []) → ⊥
two_statuses_are_not_one one = let same : Yes ≡ No = (one Yes No [] [] refl refl).0 in cc

two_texts_are_not_one : IsOne (λ (status : Status) (text : List ℕ). status ≡ Yes) → ⊥
two_texts_are_not_one one = omega (arith, ap (λ (text : List ℕ). length text) (one Yes Yes [] (1 ∷ []) refl refl).1)

-- of a file that is too long one byte past the limit is read
one_byte_past_the_limit : (bytes : List ℕ) → length bytes ≡ 67108870 → read_of (Some bytes) ≡ 67108865
one_byte_past_the_limit bytes long = omega (arith, long)

-- of two files the first alone, where it is absent or refused, and else both
nothing_behind_an_absent_file : (two : List ℕ) → read_in (None ∷ Some two ∷ []) ≡ 0
nothing_behind_an_absent_file two = refl

spells_it : (one : List ℕ) (spelled : Result SystemView SystemFault) → length one ≡ 10 → system_of one ≡ spelled
    → is_system_file (Some one) ≡ is_ok spelled
spells_it one spelled long is =
    ap (λ (b : Bool). b && is_ok (system_of one)) (le-leb (length one) file_limit (omega (arith, long)))
    ∙ ap (λ (r : Result SystemView SystemFault). is_ok r) is

nothing_behind_a_refused_file : (one two : List ℕ) (fault : SystemFault) → length one ≡ 10 → system_of one ≡ Err fault
    → read_in (Some one ∷ Some two ∷ []) ≡ 10
nothing_behind_a_refused_file one two fault long is =
    omega (
      arith,
      long,
      cond-false {A = ℕ} (is_system_file (Some one)) (read_of (Some two)) 0 (spells_it one (Err fault) long is),
    )

both_where_the_first_is_good : (one two : List ℕ) (sys : SystemView) → length one ≡ 10 → length two ≡ 7
    → system_of one ≡ Ok sys → read_in (Some one ∷ Some two ∷ []) ≡ 17
both_where_the_first_is_good one two sys long short is =
    omega (
      arith,
      long,
      short,
      cond-true {A = ℕ} (is_system_file (Some one)) (read_of (Some two)) 0 (spells_it one (Ok sys) long is),
    )
