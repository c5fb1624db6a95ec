-- What is told of each slot by the slots before it can be told of all.
use Rattle.std.proofs.Common.{◌≡◌, ℕ, zero, suc, ◌<◌, Bool, false, arith}

module _ (tell : (ℕ → ℕ → Bool) → ℕ → ℕ → Bool) where
  -- told at each slot below n by what is told of the slots before it
  abbrev pub IsCausal : ℕ → Type 0
  IsCausal n =
      (one other : ℕ → ℕ → Bool) (x : ℕ) → x < n → ((v y : ℕ) → y < x → one v y ≡ other v y)
      → (v : ℕ) → tell one v x ≡ tell other v x

  -- told once more, again and again
  pub after : ℕ → ℕ → ℕ → Bool
  after zero v x = false
  after (suc k) v x = tell (after k) v x

  -- a slot stays as it is once it was told behind those before it
  steady : (n : ℕ) → IsCausal n → (k m x : ℕ) → x < k → x < m → x < n → (v : ℕ) → after k v x ≡ after m v x
  unfolding after
  steady n causal zero m x l r q v = absurd (omega arith)
  steady n causal (suc k) zero x l r q v = absurd (omega arith)
  steady n causal (suc k) (suc m) x l r q v =
      causal (after k) (after m) x q
      (λ u y j. steady n causal k m y (omega arith) (omega arith) (omega arith) u) v

  pub is_told : (n : ℕ) → IsCausal n → (x : ℕ) → x < n → (v : ℕ) → after n v x ≡ tell (after n) v x
  unfolding after
  is_told n causal x l v = steady n causal n (suc n) x l (omega arith) l v
