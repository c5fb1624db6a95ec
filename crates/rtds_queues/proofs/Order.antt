-- The order of VCPUs is a strict total order.
use Rattle.std.proofs.Common.{◌≡◌, ◌≢◌, ℕ, ◌<◌, true, false, arith}
use Rattle.std.proofs.lemmas.Bool.Decides.{nat_tests}
use Rattle.rtds_queues.specs.Keys.{goes_first}

pub first_itself : (l d p : ℕ) → goes_first l d p l d p ≡ false
first_itself l d p = grind (arith, nat_tests)

pub first_onward : (l d p l' d' p' m e q : ℕ) → goes_first l d p l' d' p' ≡ true → goes_first l' d' p' m e q ≡ true
    → goes_first l d p m e q ≡ true
first_onward l d p l' d' p' m e q h g = grind (arith, nat_tests)

-- of two VCPUs one goes before the other
pub first_total : (l d p l' d' p' : ℕ) → p ≢ p' → goes_first l d p l' d' p' ≡ false → goes_first l' d' p' l d p ≡ true
first_total l d p l' d' p' ne h = grind (arith, nat_tests)

-- what does not go before one, and that goes before another, does not go before that
pub first_in_turn : (l d p l' d' p' m e q : ℕ) → goes_first l d p l' d' p' ≡ false → goes_first m e q l' d' p' ≡ true
    → goes_first l d p m e q ≡ false
first_in_turn l d p l' d' p' m e q h g = grind (arith, nat_tests)

-- a lower level goes first, and at one level an earlier deadline
pub first_by_level : (l d p l' d' p' : ℕ) → l < l' → goes_first l d p l' d' p' ≡ true
first_by_level l d p l' d' p' h = grind (arith, nat_tests)
