-- The forms of words: a command's own word, and the kinds of the words that follow it.
use Rattle.std.specs.Prelude.{ℕ, List, [], ◌∷◌, ◌++◌, Option, Some, None, option_map, option_and_then, codes}
use Rattle.server_sched.specs.declared.supplies.Pattern.{Pattern}
use Rattle.command_line.specs.Numbers.{guest_number}
use Rattle.command_line.specs.PeriodWords.{period_of}
use Rattle.command_line.specs.SlotWords.{pattern_of, slot_count}

-- a kind of words: how the usage line shows it, and what a word of it spells
pub record Kind (Value : Type 0) : Type 0 where
  pub shown : List ℕ
  pub spells : List ℕ → Option Value

-- any word, which stands for itself
abbrev pub any_word : List ℕ → Kind (List ℕ)
any_word shown = record { shown = shown; spells = Some }

-- the name of a system file, of a trace and of a leaf
abbrev pub file_word : Kind (List ℕ)
file_word = any_word (codes " FILE")

abbrev pub trace_word : Kind (List ℕ)
trace_word = any_word (codes " TRACE")

abbrev pub part_word : Kind (List ℕ)
part_word = any_word (codes " PART")

-- a pattern, a number of slots, a number of guests, and a deadline
abbrev pub pattern_word : Kind Pattern
pattern_word = record { shown = codes " PATTERN"; spells = pattern_of }

abbrev pub slots_word : Kind ℕ
slots_word = record { shown = codes " SLOTS"; spells = slot_count }

abbrev pub guests_word : Kind ℕ
guests_word = record { shown = codes " N"; spells = guest_number }

abbrev pub deadline_word : Kind ℕ
deadline_word = record { shown = codes " DEADLINE"; spells = period_of }

-- no word
abbrev pub no_word : List (List ℕ) → Option (Unit {0})
no_word [] = Some tt
no_word _ = None

-- the only word, and none where there are fewer or more
abbrev pub one_word : List (List ℕ) → Option (List ℕ)
one_word (word ∷ []) = Some word
one_word _ = None

-- the only two, three and four
abbrev pub two_words : List (List ℕ) → Option (List ℕ × List ℕ)
two_words (first ∷ second ∷ []) = Some (first, second)
two_words _ = None

abbrev pub three_words : List (List ℕ) → Option (List ℕ × List ℕ × List ℕ)
three_words (first ∷ second ∷ third ∷ []) = Some (first, second, third)
three_words _ = None

abbrev pub four_words : List (List ℕ) → Option (List ℕ × List ℕ × List ℕ × List ℕ)
four_words (first ∷ second ∷ third ∷ fourth ∷ []) = Some (first, second, third, fourth)
four_words _ = None

-- a form: a command's own word, what follows it as the usage line shows that, and what the words
-- that follow spell
pub record Form (Command : Type 0) : Type 0 where
  pub word : List ℕ
  pub shown : List ℕ
  pub spells : List (List ℕ) → Option Command

abbrev pub form : {Command : Type 0} → List ℕ → List ℕ → (List (List ℕ) → Option Command)
    → Form Command
form word shown spells = record { word = word; shown = shown; spells = spells }

-- the form of a command that takes no word, and of one that takes one to four, each of its kind
abbrev pub alone : {Command : Type 0} → List ℕ → Command → Form Command
alone word makes = form word [] (λ words. option_map (λ none. makes) (no_word words))

abbrev pub with_one : {A Command : Type 0} → List ℕ → Kind A → (A → Command) → Form Command
with_one word a makes = form word a.shown (λ words. option_and_then
    (λ found. option_map makes (a.spells found)) (one_word words))

abbrev pub with_two : {A B Command : Type 0} → List ℕ → Kind A → Kind B → (A → B → Command)
    → Form Command
with_two word a b makes = form word (a.shown ++ b.shown) (λ words. option_and_then
    (λ found. option_and_then (λ x. option_map (makes x) (b.spells found.1)) (a.spells found.0))
    (two_words words))

abbrev pub with_three : {A B C Command : Type 0} → List ℕ → Kind A → Kind B → Kind C
    → (A → B → C → Command) → Form Command
with_three word a b c makes = form word (a.shown ++ (b.shown ++ c.shown)) (λ words. option_and_then
    (λ found. option_and_then (λ x. option_and_then (λ y. option_map (makes x y)
    (c.spells found.2)) (b.spells found.1)) (a.spells found.0))
    (three_words words))

abbrev pub with_four : {A B C D Command : Type 0} → List ℕ → Kind A → Kind B → Kind C → Kind D
    → (A → B → C → D → Command) → Form Command
with_four word a b c d makes =
    form word (a.shown ++ (b.shown ++ (c.shown ++ d.shown))) (λ words. option_and_then
    (λ found. option_and_then (λ x. option_and_then (λ y. option_and_then (λ z.
    option_map (makes x y z) (d.spells found.3)) (c.spells found.2)) (b.spells found.1))
    (a.spells found.0))
    (four_words words))
