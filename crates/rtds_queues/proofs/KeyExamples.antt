-- Worked cases of the order in which VCPUs go.
use Rattle.std.proofs.Common.{◌≡◌, true, false, refl}
use Rattle.rtds_queues.specs.Keys.{goes_first}

-- a lower level goes first, whatever the deadlines and places
pub by_level : goes_first 0 90 7 1 10 3 ≡ true
by_level = refl

pub not_by_level : goes_first 1 10 3 0 90 7 ≡ false
not_by_level = refl

-- at one level an earlier deadline does, whatever the places
pub by_deadline : goes_first 2 10 7 2 20 3 ≡ true
by_deadline = refl

pub not_by_deadline : goes_first 2 20 3 2 10 7 ≡ false
not_by_deadline = refl

-- on a tie the first in the file
pub by_place : goes_first 2 10 3 2 10 7 ≡ true
by_place = refl

pub not_by_place : goes_first 2 10 7 2 10 3 ≡ false
not_by_place = refl
