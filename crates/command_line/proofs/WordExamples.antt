-- Worked cases of the words that spell a command. A wrong definition breaks one of them.
use Rattle.std.proofs.Common.{◌≡◌, ℕ, List, [], ◌∷◌, Some, None, refl}
use Rattle.std.specs.Prelude.{codes, option_map, option_and_then}
use Rattle.command_line.specs.Numbers.{guest_number}
use Rattle.command_line.specs.PeriodWords.{period_of, range_of}
use Rattle.command_line.specs.SlotWords.{slot_count, pattern_of}
use Rattle.command_line.specs.Commands.{admit, certify, check, rtds, audit, simulate, bulk, interface, choose, session, place, isolate, slack, tally, responses, version, steal, command_of, usage_line}
use Rattle.server_sched.specs.declared.supplies.Pattern.TheVariants.{Early, Late, Worst}

-- `admit` and one file, and nothing else
a_file_to_admit : command_of (codes "admit" ∷ codes "host.toml" ∷ []) ≡ Some (admit (codes "host.toml"))
a_file_to_admit = refl

-- `certify` takes one file, and `check` two
files_of_certificates :
    (command_of (codes "certify" ∷ codes "a" ∷ []) ≡ Some (certify (codes "a")))
    × (command_of (codes "check" ∷ codes "a" ∷ codes "b" ∷ []) ≡ Some (check (codes "a") (codes "b")))
    × (command_of (codes "check" ∷ codes "a" ∷ []) ≡ None)
    × (command_of (codes "certify" ∷ codes "a" ∷ codes "b" ∷ []) ≡ None)
files_of_certificates = (refl, refl, refl, refl)

-- the name of a leaf is any word, and the numbers are in their ranges
words_of_a_leaf :
    (command_of (codes "interface" ∷ codes "a" ∷ codes "ctl" ∷ codes "40" ∷ [])
    ≡ Some (interface (codes "a") (codes "ctl") 40))
    × (command_of (codes "interface" ∷ codes "a" ∷ codes "1 2" ∷ codes "1" ∷ [])
    ≡ Some (interface (codes "a") (codes "1 2") 1))
    × (command_of (codes "choose" ∷ codes "a" ∷ codes "ctl" ∷ codes "5" ∷ codes "14" ∷ [])
    ≡ Some (choose (codes "a") (codes "ctl") 5 14))
words_of_a_leaf = (refl, refl, refl)

no_deadline :
    (command_of (codes "interface" ∷ codes "a" ∷ codes "ctl" ∷ codes "0" ∷ []) ≡ None)
    × (command_of (codes "interface" ∷ codes "a" ∷ codes "ctl" ∷ codes "1000000001" ∷ []) ≡ None)
    × (command_of (codes "interface" ∷ codes "a" ∷ codes "ctl" ∷ codes "07" ∷ []) ≡ None)
    × (command_of (codes "interface" ∷ codes "a" ∷ codes "ctl" ∷ []) ≡ None)
no_deadline = (refl, refl, refl, refl)

-- a run over slots: the files in the order of the words, then the pattern, and last the slots
words_of_a_run :
    (command_of (codes "rtds" ∷ codes "a" ∷ codes "b" ∷ codes "50" ∷ []) ≡ Some (rtds (codes "a") (codes "b") 50))
    × (command_of (codes "simulate" ∷ codes "a" ∷ codes "b" ∷ codes "early" ∷ codes "50" ∷ [])
    ≡ Some (simulate (codes "a") (codes "b") Early 50))
    × (command_of (codes "simulate" ∷ codes "a" ∷ codes "b" ∷ codes "50" ∷ codes "early" ∷ []) ≡ None)
    × (command_of (codes "simulate" ∷ codes "a" ∷ codes "b" ∷ codes "50" ∷ []) ≡ None)
    × (command_of (codes "rtds" ∷ codes "a" ∷ codes "b" ∷ codes "late" ∷ codes "50" ∷ []) ≡ None)
words_of_a_run = (refl, refl, refl, refl, refl)

patterns : (pattern_of (codes "early") ≡ Some Early) × (pattern_of (codes "late") ≡ Some Late)
    × (pattern_of (codes "worst") ≡ Some Worst) × (pattern_of (codes "Worst") ≡ None) × (pattern_of [] ≡ None)
patterns = (refl, refl, refl, refl, refl)

-- from 1 to 1,000,000 slots, and from 1 to 256 guests
numbers_of_slots : (slot_count (codes "0") ≡ None) × (slot_count (codes "1") ≡ Some 1)
    × (slot_count (codes "1000000") ≡ Some 1000000) × (slot_count (codes "1000001") ≡ None)
    × (slot_count (codes "050") ≡ None) × (slot_count (codes "+50") ≡ None) × (slot_count [] ≡ None)
numbers_of_slots = (refl, refl, refl, refl, refl, refl, refl)

numbers_of_guests : (command_of (codes "bulk" ∷ codes "0" ∷ []) ≡ None)
    × (command_of (codes "bulk" ∷ codes "1" ∷ []) ≡ Some (bulk 1))
    × (command_of (codes "bulk" ∷ codes "256" ∷ []) ≡ Some (bulk 256))
    × (command_of (codes "bulk" ∷ codes "257" ∷ []) ≡ None)
    × (command_of (codes "bulk" ∷ []) ≡ None) × (command_of (codes "bulk" ∷ codes "8" ∷ codes "8" ∷ []) ≡ None)
numbers_of_guests = (refl, refl, refl, refl, refl, refl)

the_version_alone :
    (command_of (codes "version" ∷ []) ≡ Some version) × (command_of (codes "version" ∷ codes "a" ∷ []) ≡ None)
the_version_alone = (refl, refl)

-- as many as 10,000 periods, and no range that falls
a_range_of_periods :
    (range_of (codes "1") (codes "10000") ≡ Some (1, 10000)) × (range_of (codes "1") (codes "10001") ≡ None)
    × (range_of (codes "7") (codes "7") ≡ Some (7, 7)) × (range_of (codes "8") (codes "7") ≡ None)
    × (range_of (codes "0") (codes "7") ≡ None)
    × (range_of (codes "999990001") (codes "1000000000") ≡ Some (999990001, 1000000000))
    × (range_of (codes "1000000000") (codes "1000000001") ≡ None)
a_range_of_periods = (refl, refl, refl, refl, refl, refl, refl)

no_form_is_left_open :
    (command_of [] ≡ None) × (command_of (codes "admit" ∷ []) ≡ None)
    × (command_of (codes "admit" ∷ codes "a" ∷ codes "b" ∷ []) ≡ None)
    × (command_of (codes "Admit" ∷ codes "a" ∷ []) ≡ None) × (command_of (codes "a" ∷ codes "admit" ∷ []) ≡ None)
no_form_is_left_open = (refl, refl, refl, refl, refl)

-- each form: what its words spell, word by word
the_words_of_each_command : (a b c d : List ℕ) →
    (command_of (codes "admit" ∷ a ∷ []) ≡ Some (admit a))
    × (command_of (codes "certify" ∷ a ∷ []) ≡ Some (certify a))
    × (command_of (codes "check" ∷ a ∷ b ∷ []) ≡ Some (check a b))
    × (command_of (codes "simulate" ∷ a ∷ b ∷ c ∷ d ∷ [])
    ≡ option_and_then (λ pattern. option_map (simulate a b pattern) (slot_count d)) (pattern_of c))
    × (command_of (codes "rtds" ∷ a ∷ b ∷ c ∷ []) ≡ option_map (rtds a b) (slot_count c))
    × (command_of (codes "audit" ∷ a ∷ b ∷ []) ≡ Some (audit a b))
    × (command_of (codes "bulk" ∷ a ∷ []) ≡ option_map bulk (guest_number a))
    × (command_of (codes "interface" ∷ a ∷ b ∷ c ∷ []) ≡ option_map (interface a b) (period_of c))
    × (command_of (codes "responses" ∷ a ∷ []) ≡ Some (responses a))
    × (command_of (codes "choose" ∷ a ∷ b ∷ c ∷ d ∷ [])
    ≡ option_map (λ range. choose a b range.0 range.1) (range_of c d))
    × (command_of (codes "session" ∷ a ∷ b ∷ []) ≡ Some (session a b))
    × (command_of (codes "place" ∷ a ∷ b ∷ []) ≡ Some (place a b))
    × (command_of (codes "isolate" ∷ a ∷ []) ≡ Some (isolate a))
    × (command_of (codes "slack" ∷ a ∷ b ∷ []) ≡ Some (slack a b))
    × (command_of (codes "tally" ∷ a ∷ b ∷ []) ≡ Some (tally a b))
    × (command_of (codes "version" ∷ []) ≡ Some version)
    × (command_of (codes "steal" ∷ a ∷ b ∷ []) ≡ Some (steal a b))
the_words_of_each_command a b c d =
    (refl, refl, refl, refl, refl, refl, refl, refl, refl, refl, refl, refl, refl, refl, refl, refl, refl)

-- a command takes no fewer words and no more, whatever they are
no_other_number_of_words : (a b : List ℕ) (rest : List (List ℕ)) →
    (command_of (codes "admit" ∷ []) ≡ None) × (command_of (codes "admit" ∷ a ∷ b ∷ rest) ≡ None)
    × (command_of (codes "check" ∷ a ∷ []) ≡ None) × (command_of (codes "check" ∷ a ∷ b ∷ a ∷ rest) ≡ None)
    × (command_of (codes "rtds" ∷ a ∷ b ∷ []) ≡ None) × (command_of (codes "rtds" ∷ a ∷ b ∷ a ∷ b ∷ rest) ≡ None)
    × (command_of (codes "simulate" ∷ a ∷ b ∷ a ∷ []) ≡ None)
    × (command_of (codes "simulate" ∷ a ∷ b ∷ a ∷ b ∷ a ∷ rest) ≡ None)
    × (command_of (codes "version" ∷ a ∷ rest) ≡ None)
no_other_number_of_words a b rest = (refl, refl, refl, refl, refl, refl, refl, refl, refl)

the_usage : usage_line
    ≡ codes
    "usage: rtadmit admit FILE | certify FILE | check FILE CERT | simulate FILE RELEASES PATTERN SLOTS | rtds FILE WORKLOAD SLOTS | audit FILE TRACE | bulk N | interface FILE PART DEADLINE | responses FILE | choose FILE PART LOW HIGH | session FILE SCRIPT | place FILE GUESTS | isolate FILE | slack FILE PART | tally FILE TRACE | version | steal FILE TRACE\n"
the_usage = refl
