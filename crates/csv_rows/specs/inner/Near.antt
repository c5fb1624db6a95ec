-- A line that ends among the first bytes of a text.
use Rattle.std.specs.Prelude.{◌≡◌, ◌≢◌, ℕ, ◌<◌, ◌≤◌, List, length, slice_index}
use Rattle.std.specs.Int.{bit_at}
use Rattle.csv_rows.specs.declared.near.ThreePlaces.{ThreePlaces}

-- of the first 32 bytes of a text, bit k is set where byte k is this one, and no other bit is
pub record Marks (text : List ℕ) (byte marks : ℕ) : Type 0 where
  pub each : (k : ℕ) → k < 32 → slice_index text k ≡ byte → bit_at marks k ≡ 1
  pub only : (k : ℕ) → bit_at marks k ≡ 1 → (k < 32) × (slice_index text k ≡ byte)

-- the first place that is marked
pub record IsFirstMark (marks place : ℕ) : Type 0 where
  pub bound : place < 64
  pub set : bit_at marks place ≡ 1
  pub below : (k : ℕ) → k < place → bit_at marks k ≡ 0

-- the others are the marks of all places but this one
pub record IsWithout (marks place others : ℕ) : Type 0 where
  pub kept : (k : ℕ) → k < 64 → k ≢ place → bit_at others k ≡ bit_at marks k
  pub gone : bit_at others place ≡ 0
  pub no_more : (k : ℕ) → bit_at others k ≡ 1 → bit_at marks k ≡ 1

-- the first line of a text is not empty and ends here, among the first 32 bytes
pub record IsNearLine (text : List ℕ) (end : ℕ) : Type 0 where
  pub room : 32 ≤ length text
  pub near : end < 32
  pub begun : 0 < end
  pub ends : slice_index text end ≡ 10
  pub line : (k : ℕ) → k < end → slice_index text k ≢ 10

-- these three places are marked, and no other
pub record AreMarked (marks : ℕ) (places : ThreePlaces) : Type 0 where
  pub in_order : (places.first < places.second) × (places.second < places.third)
  pub set : (bit_at marks places.first ≡ 1) × (bit_at marks places.second ≡ 1)
      × (bit_at marks places.third ≡ 1)
  pub others : (k : ℕ) → k < 64 → k ≢ places.first → k ≢ places.second → k ≢ places.third
      → bit_at marks k ≡ 0
