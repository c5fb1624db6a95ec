-- What was read of a file and handed on, and what is left of it.
use Rattle.std.proofs.Common.{◌≡◌, ℕ, ◌+◌, ◌++◌, List, length, Option, Some, None, refl, append_assoc, arith}
use Rattle.std.specs.Io.KnownBytes.{Consumes}
use Rattle.std.proofs.lemmas.List.{length-append}
use Rattle.outside.specs.Files.{Files, Told}
use Rattle.outside.specs.Taker.{Took}

-- where the files are told, the named one is these bytes and then what is left
abbrev pub IsFront : Option Files → List ℕ → List ℕ → Option (List ℕ) → Type 0
IsFront files name bytes rest =
    Told files name (λ file. (left : List ℕ) × (rest ≡ Some left) × (file ≡ Some (bytes ++ left)))

-- so many bytes were handed on, and they are the front of the file
pub record HasRead {A : Type 0} (has_taken : A → A → List ℕ → Type 0) (start now : A) (files : Option Files)
    (name : List ℕ) (rest : Option (List ℕ)) (count : ℕ) : Type 0 where
  pub bytes : List ℕ
  pub counted : length bytes ≡ count
  pub took : has_taken start now bytes
  pub front : IsFront files name bytes rest

-- and so are those that a further read gives
left_of : (file before after : Option (List ℕ)) (bytes piece : List ℕ) →
    ((left : List ℕ) × (before ≡ Some left) × (file ≡ Some (bytes ++ left))) → Consumes before after piece
    → (left : List ℕ) × (after ≡ Some left) × (file ≡ Some ((bytes ++ piece) ++ left))
left_of file None after bytes piece (left, is, held) given = absurd (cc)
left_of file (Some rest) None bytes piece (left, is, held) given = absurd given
left_of file (Some rest) (Some more) bytes piece (left, is, held) given =
    (more, refl, cc (held, is, given, append_assoc bytes piece more))

front_more : (files : Option Files) (name bytes piece : List ℕ) (before after : Option (List ℕ))
    → IsFront files name bytes before → Consumes before after piece → IsFront files name (bytes ++ piece) after
front_more None name bytes piece before after front given = tt
front_more (Some files) name bytes piece before after front given = left_of _ before after bytes piece front given

pub read_more : {A : Type 0} (has_taken : A → A → List ℕ → Type 0) (start old new : A) (files : Option Files)
    (name piece : List ℕ) (before after : Option (List ℕ)) (count n : ℕ)
    → HasRead has_taken start old files name before count → Took has_taken old new piece
    → Consumes before after piece → length piece ≡ n → HasRead has_taken start new files name after (count + n)
read_more has_taken start old new files name piece before after count n read took given long = record {
  bytes = read.bytes ++ piece;
  counted = omega (arith, length-append read.bytes piece, read.counted, long);
  took = took start read.bytes read.took;
  front = front_more files name read.bytes piece before after read.front given;
}
