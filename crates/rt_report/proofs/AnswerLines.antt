-- The lines of the answers to the rows so far, and to one row more.
use Rattle.std.proofs.Common.{◌≡◌, ℕ, suc, ◌+◌, List, [], ◌∷◌, ◌++◌, length, sym, ◌∙◌, ap, arith}
use Rattle.std.proofs.lemmas.List.{append_assoc, append-nil}
use Rattle.admission_session.specs.declared.answer.Answer.{Answer}
use Rattle.rt_report.specs.Session.{answer_line, answer_lines}

pub lines_more : (n : ℕ) (answers : List Answer) (answer : Answer)
    → answer_lines n (answers ++ answer ∷ []) ≡ answer_lines n answers ++ answer_line (n + length answers) answer
lines_more n [] answer =
    append-nil (answer_line n answer) ∙ ap (λ (m : ℕ). answer_line m answer) (let e : n ≡ n + 0 = omega arith in e)
lines_more n (first ∷ later) answer =
    ap (λ (z : List ℕ). answer_line n first ++ z) (lines_more (n + 1) later answer
    ∙ ap (λ (m : ℕ). answer_lines (n + 1) later ++ answer_line m answer)
    (let e : (n + 1) + length later ≡ n + suc (length later) = omega arith in e))
    ∙ sym
    (append_assoc (answer_line n first) (answer_lines (n + 1) later) (answer_line (n + suc (length later)) answer))
