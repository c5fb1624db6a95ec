-- Rows that have room for a number before their other text.
use Rattle.std.proofs.Common.{◌≡◌, ◌≤◌, ◌+◌, ◌-◌, ◌∙◌, ◌++◌, ℕ, List, length, take, drop, sym, ap, arith}
use Rattle.std.proofs.lemmas.List.{drop-drop, length-take, take-append-drop, take-append-le}
use Rattle.std.proofs.Math.Seq.{drop-append_seam, take-append-add}

-- what stands behind the room stays where digits are written to its end
pub behind_stays : (digits : List ℕ) (room from : ℕ) (old new : List ℕ) → from + length digits ≡ room
    → drop from new ≡ digits ++ drop room old → drop room new ≡ drop room old
behind_stays digits room from old new e h =
    ap (λ (n : ℕ). drop n new) (sym e)
    ∙ (sym (drop-drop (length digits) from new)
    ∙ (ap (drop (length digits)) h ∙ drop-append_seam digits (drop room old)))

-- the front of a front
front_of_front : {X : Type 0} (xs : List X) (m n : ℕ) → m ≤ n → n ≤ length xs → take m (take n xs) ≡ take m xs
front_of_front xs m n l few =
    sym (take-append-le m (take n xs) (drop n xs) (omega (arith, l, few, length-take n xs)))
    ∙ ap (take m) (take-append-drop n xs)

-- a piece of some bytes is added, of which only the first stay
pub front_added : (old bytes : List ℕ) (count piece : ℕ) → count ≤ piece → piece ≤ length bytes
    → take (length old + count) (old ++ take piece bytes) ≡ old ++ take count bytes
front_added old bytes count piece l few =
    take-append-add old (take piece bytes) count
    ∙ ap (λ (z : List ℕ). old ++ z) (front_of_front bytes count piece l few)

-- digits before what stands behind the room, and the front of both
pub digits_front : (digits row : List ℕ) (from room end : ℕ) → from + length digits ≡ room → room ≤ end
    → take (end - from) (digits ++ drop room row) ≡ digits ++ take (end - room) (drop room row)
digits_front digits row from room end e l =
    ap (λ (n : ℕ). take n (digits ++ drop room row))
    (let same : end - from ≡ length digits + (end - room) = omega (arith, e, l) in same)
    ∙ take-append-add digits (drop room row) (end - room)
