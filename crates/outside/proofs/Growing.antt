-- Two writes, one after the other.
use Rattle.std.proofs.Common.{◌≡◌, ℕ, ◌+◌, ◌-◌, ◌++◌, List, length, take, drop, Option, Some, None, arith, ◌∙◌, ap, append_assoc}
use Rattle.std.specs.Io.KnownBytes.{Appends}
use Rattle.std.proofs.lemmas.List.{take-append-drop, take-take, drop-take, take_rest}

-- what a second write adds stands behind the first
take_both : (bytes : List ℕ) (at n : ℕ) → take at bytes ++ take n (drop at bytes) ≡ take (at + n) bytes
take_both bytes at n =
    let e = take-append-drop at (take (at + n) bytes) in
    rw (take-take at (at + n) bytes (omega arith), drop-take at n bytes) at e

-- bytes that grow twice grow by both pieces
appends_more : (a b c : Option (List ℕ)) (xs ys zs : List ℕ) → Appends a b xs → Appends b c ys → xs ++ ys ≡ zs
    → Appends a c zs
appends_more None b c xs ys zs first more e = tt
appends_more (Some start) None c xs ys zs first more e = absurd first
appends_more (Some start) (Some bs) None xs ys zs first more e = absurd more
appends_more (Some start) (Some bs) (Some cs) xs ys zs first more e =
    more ∙ ap (λ l. l ++ ys) first ∙ append_assoc start xs ys ∙ ap (λ l. start ++ l) e

-- a write from a place on adds to the front that was written
pub appends_at : (a b c : Option (List ℕ)) (bytes : List ℕ) (at n : ℕ) → Appends a b (take at bytes) →
    Appends b c (take n (take (length bytes - at) (drop at bytes))) → Appends a c (take (at + n) bytes)
appends_at a b c bytes at n first more =
    appends_more a b c (take at bytes) (take n (drop at bytes)) (take (at + n) bytes) first (rw take_rest at more)
    (take_both bytes at n)
