-- Worked cases of how much of its files a command reads, and of how words end that name none. A
-- wrong definition breaks one of them.
use Rattle.std.proofs.Common.{◌≡◌, ℕ, List, [], ◌∷◌, Some, None, refl, arith, inl, inr}
use Rattle.outside.specs.Files.{Files, file_named}
use Rattle.command_frame.specs.declared.status.Status.TheVariants.{Yes, No, Usage, BadFile, Wide, Absent, TooLong, ReadFault, WriteFault, NoMemory}
use Rattle.command_line.specs.Commands.{admit, check, bulk}
use Rattle.command_frame.specs.Reading.{read_in}
use Rattle.command_line.specs.Reading.{bytes_to_read, NamesNoFile}
use Rattle.rt_top.specs.Reading.{Takes, EndsWithoutFile}

the_files_of_the_command : (file cert : List ℕ) (files : Files)
    → bytes_to_read (Some (check file cert)) files ≡ read_in (file_named file files ∷ file_named cert files ∷ [])
the_files_of_the_command file cert files = refl

-- a byte more is refused, and so is one less of an answer
just_these_bytes : (Takes BadFile 10 5 16 → ⊥) × (Takes BadFile 10 5 14 → ⊥) × Takes BadFile 10 5 15
just_these_bytes = (λ took. omega (arith, took), λ took. omega (arith, took), (omega arith, omega arith))

no_less_for_any_answer : (Takes Yes 10 5 14 → ⊥) × (Takes No 10 5 14 → ⊥) × (Takes Wide 10 5 14 → ⊥)
    × (Takes Absent 10 5 14 → ⊥) × (Takes TooLong 10 5 14 → ⊥) × (Takes WriteFault 10 5 14 → ⊥)
no_less_for_any_answer = (
  λ took. omega (arith, took),
  λ took. omega (arith, took),
  λ took. omega (arith, took),
  λ took. omega (arith, took),
  λ took. omega (arith, took),
  λ took. omega (arith, took),
)

no_more_after_a_failed_read : (Takes ReadFault 10 5 16 → ⊥) × (Takes NoMemory 10 5 16 → ⊥) × Takes ReadFault 10 5 7
no_more_after_a_failed_read = (λ took. omega (arith, took), λ took. omega (arith, took), omega arith)

-- words that spell no command, and `bulk`, name no file
no_file : (file : List ℕ) → NamesNoFile None × NamesNoFile (Some (bulk 8)) × (NamesNoFile (Some (admit file)) → ⊥)
no_file file = (refl, refl, λ none. absurd (cc))

how_they_end : (EndsWithoutFile None Usage) × (EndsWithoutFile None WriteFault) × (EndsWithoutFile None NoMemory)
    × EndsWithoutFile (Some (bulk 8)) Yes
how_they_end = (inl refl, inr (inl refl), inr (inr refl), λ none. inl refl)

no_other_end : (EndsWithoutFile None ReadFault → ⊥) × (EndsWithoutFile None Yes → ⊥)
    × (EndsWithoutFile (Some (bulk 8)) ReadFault → ⊥) × (EndsWithoutFile (Some (bulk 8)) No → ⊥)
no_other_end = (
  λ h. elim h [ inl e ↦ cc | inr r ↦ elim r [ inl e ↦ cc | inr e ↦ cc ] ],
  λ h. elim h [ inl e ↦ cc | inr r ↦ elim r [ inl e ↦ cc | inr e ↦ cc ] ],
  λ h. elim (h refl) [ inl e ↦ cc | inr r ↦ elim r [ inl e ↦ cc | inr e ↦ cc ] ],
  λ h. elim (h refl) [ inl e ↦ cc | inr r ↦ elim r [ inl e ↦ cc | inr e ↦ cc ] ],
)
