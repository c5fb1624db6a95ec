use Rattle.std.proofs.Common.{◌≡◌, ℕ, zero, suc, ◌<◌, List, [], ◌∷◌, ◌++◌, Bor, get_or, length, refl, sym, ap, subst, ◌∙◌, arith, inl, inr}
use Rattle.std.proofs.lemmas.Bool.{cases_lt}
use Rattle.std.proofs.lemmas.List.{get_or_append_left, get_or_push, length-append, length-map}
use Rattle.csv_rows.specs.Printing.{AreOfLength}
use Rattle.system_tests.proofs.csv_rows_tests.two_rows.Goals as goal

-- one row more, as long as each before
one_more_row : (rows : List (List (List ℕ))) (row : List (List ℕ)) → AreOfLength 3 rows → length row ≡ 3
    → AreOfLength 3 (rows ++ row ∷ [])
one_more_row rows row are long i l = elim (cases_lt i (length rows)) [
  | inl before ↦
      ap (λ (r : List (List ℕ)). length r) (get_or_append_left rows (row ∷ []) [] i before) ∙ are i before
  | inr last ↦
      ap (λ (r : List (List ℕ)). length r)
      (get_or_push rows row [] i (omega (arith, last, l, length-append rows (row ∷ [])))) ∙ long
]

-- two rows that are so long
each_row : (head row : List (Bor (List ℕ))) → length head ≡ 3 → length row ≡ 3 → (i : ℕ) → i < 2
    → length (get_or (head ∷ row ∷ []) i []) ≡ 3
each_row head row head_long row_long zero l = head_long
each_row head row head_long row_long (suc zero) l = row_long
each_row head row head_long row_long (suc (suc i)) l = absurd (omega (arith, l))

pub loop-row-init : goal.loop-row-init
loop-row-init c = ([], c.new-writer.ensures, λ i l. absurd (omega arith))

pub write-requires : goal.write-requires
write-requires c =
    let (rows, written, of_length) = c.loop-row.invariant in (
      rows,
      written,
      subst (λ (n : ℕ). AreOfLength n rows) (sym (each_row _ _ refl refl c.loop-row.row-index c.loop-row-test.true))
          of_length,
    )

pub loop-row-preserved : goal.loop-row-preserved
loop-row-preserved c =
    let (rows, written, of_length) = c.loop-row.invariant in (
      _,
      c.in_ok-write.ensures rows written,
      one_more_row rows _ of_length
          (length-map _ (λ (f : Bor (List ℕ)). f.now)
          ∙ each_row _ _ refl refl c.loop-row.row-index c.loop-row-test.true),
    )
