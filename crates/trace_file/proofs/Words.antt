-- The word that a field is.
use Rattle.std.proofs.Common.{◌≡◌, ℕ, true, false, List, codes}
use Rattle.std.proofs.lemmas.Slice.Eq.{bytes_eq-Decides}
use Rattle.std.specs.Prelude.{bytes_eq}
use Rattle.trace_file.specs.inner.Spelt.{IsNoWord}

pub is_text : (field text : List ℕ) → bytes_eq field text ≡ true → field ≡ text
is_text field text e = (bytes_eq-Decides field text).0 e

pub no_word : (field : List ℕ) → bytes_eq field (codes "run") ≡ false → bytes_eq field (codes "start") ≡ false
    → bytes_eq field (codes "wake") ≡ false → bytes_eq field (codes "block") ≡ false
    → bytes_eq field (codes "stop") ≡ false → bytes_eq field (codes "end") ≡ false → IsNoWord field
no_word field run start wake block stop end core vcpu = rw (run, start, wake, block, stop, end)
