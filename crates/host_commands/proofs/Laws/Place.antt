-- What `place` answers: one thing, its statuses, and what it means.
use Rattle.std.proofs.Common.{◌≡◌, ◌≢◌, ℕ, ◌<◌, List, length, take, refl, sym, ◌∙◌, subst, inl, inr}
use Rattle.std.specs.Prelude.{⊤}
use Rattle.csv_rows.specs.Reading.{records_of}
use Rattle.tree_model.specs.declared.pinned_core.Core.{Core}
use Rattle.tree_model.specs.View.{PartView, SystemView}
use Rattle.tree_model.specs.System.{IsSystem}
use Rattle.tree_model.specs.declared.plan.Refusal.TheVariants.{Overfull, Wide as TooWide, NoMemory as NoRefusal}
use Rattle.compose_tree.proofs.Refusals.{refusal_holds}
use Rattle.compose_tree.proofs.Sound.{admitted_keeping, admitted_no_loss, admitted_tight}
use Rattle.admission_session.specs.Leaves.{with_guest}
use Rattle.admission_session.proofs.MadeSystems.{new_leaf_is}
use Rattle.placement.specs.declared.fault.PlaceFault.{PlaceFault}
use Rattle.placement.specs.declared.fault.PlaceFault.TheVariants.{Refused, BadGuest, Unplaced, NoMemory}
use Rattle.placement.specs.Answers.{AreRefused, IsBadGuest, PlaceFails, StopsAt, guest_at}
use Rattle.placement.proofs.OnePlacement.{placed_is, placed_cores, one_placed, never_placed_fails, one_place_fault}
use Rattle.script_file.specs.Guests.{SpellsGuests}
use Rattle.script_file.proofs.OneGuests.{one_guests, no_guest_fault, one_guest_fault}
use Rattle.system_file.proofs.Laws.{read_is_spelled}
use Rattle.system_file.proofs.OneText.{one_printed_text}
use Rattle.command_frame.specs.declared.status.Status.{Status}
use Rattle.command_frame.specs.declared.status.Status.TheVariants.{Yes, No, Wide, BadFile}
use Rattle.command_frame.specs.Answer.{Contents, IsOne}
use Rattle.command_frame.specs.Attempt.{GivesSome, IsRefused}
use Rattle.command_frame.specs.TwoFiles.{AreReadable, OnTwoFiles, SpellsSystem}
use Rattle.command_frame.specs.Budgets.{composing}
use Rattle.host_commands.specs.Place.{the_place, guesting, placing, place_status, place_fault_text, IsPlaceFault, IsSystemText, PlacesGuests, Places, TellsUnplaced, MeansOfPlaces, PlaceMeans, EndsPlacing}
use Rattle.command_frame.specs.Steps.{IsJudged}
use Rattle.command_frame.proofs.Attempt.{IsDecided, one_attempt, statuses_attempt}
use Rattle.command_frame.proofs.Budgets.{refused_status}
use Rattle.command_frame.proofs.CommandLaws.{CommandLaws}
use Rattle.command_frame.proofs.ReadSecond.{JudgesRead, is_spelled_system, read_laws, said_of_read}

pub guesting_decided : (bytes : List ℕ) → IsDecided (guesting bytes)
guesting_decided bytes = record {
  one_value = one_guests (records_of bytes);
  never_both = no_guest_fault (records_of bytes);
  one_refusal = one_guest_fault (records_of bytes);
}

pub placing_decided : (sys : SystemView) → IsSystem sys → (guests : List PartView) → IsDecided (placing sys guests)
placing_decided sys is guests = record {
  one_value = λ a b p q. one_placed sys guests a b p.is q.is;
  never_both = λ a fault p h. never_placed_fails sys is guests a p.before p.is fault h.real h.fails;
  one_refusal = λ a b p q. one_place_fault sys is guests a b p.real q.real p.fails q.fails;
}

-- where the system is refused, so is every placement on it
pub placing_refused : (sys : SystemView) (guests : List PartView) (status : Status) (text : List ℕ)
    → IsRefused (composing sys) status text → IsRefused (placing sys guests) status text
placing_refused sys guests status text h = record {
  refusal = Refused h.refusal;
  refuses = record { real = λ e. cc; fails = h.refuses; refused = tt; none = tt };
  status_is = h.status_is;
  told = h.told;
}

-- one answer
one_text : (placed : SystemView) → IsOne (IsSystemText placed)
one_text placed = λ s t x y p q. (p.is_yes ∙ sym q.is_yes, one_printed_text placed x y p.told q.told)

-- its statuses
fault_status : (P : Status → Type 0) → P No → P Wide → (sys : SystemView) (guests : List PartView)
    → ((i : ℕ) → StopsAt sys guests i IsBadGuest → P BadFile) → (fault : PlaceFault) → fault ≢ NoMemory
    → PlaceFails sys guests fault → P (place_status fault)
fault_status P at_no at_wide sys guests at_bad (Refused refusal) real fails =
    refused_status P at_no at_wide sys refusal fails
fault_status P at_no at_wide sys guests at_bad (BadGuest i) real fails = at_bad i fails
fault_status P at_no at_wide sys guests at_bad (Unplaced i) real fails = at_no
fault_status P at_no at_wide sys guests at_bad NoMemory real fails = absurd (real refl)

places_status : (P : Status → Type 0) → P Yes → P No → P Wide → (sys : SystemView) (guests : List PartView)
    → ((i : ℕ) → StopsAt sys guests i IsBadGuest → P BadFile) → (status : Status) (text : List ℕ)
    → PlacesGuests sys guests status text → P status
places_status P at_yes at_no at_wide sys guests at_bad status text h =
    statuses_attempt P (placing sys guests) IsSystemText status text
    (λ fault refuses. fault_status P at_no at_wide sys guests at_bad fault refuses.real refuses.fails)
    (λ placed told. subst P (sym told.is_yes) at_yes) h

-- what it means
unplaced_means : (sys : SystemView) → IsSystem sys → (guests : List PartView) (i : ℕ)
    → AreRefused sys guests (Unplaced i) → TellsUnplaced sys guests (place_fault_text sys guests (Unplaced i))
unplaced_means sys is guests i stops =
    let cores : stops.now.cores ≡ sys.cores = placed_cores sys (take i guests) stops.now stops.placed in
    let now : IsSystem stops.now = placed_is sys is (take i guests) stops.now stops.placed in
    record {
      guest = i;
      is_guest = stops.is_guest;
      told = refl;
      now = stops.now;
      placed = stops.placed;
      refused = λ c h.
          let there : c < length stops.now.cores
          = subst (λ (all : List Core). c < length all) (sym cores) h in
          let first = stops.fault.1 c there in
          record {
            refusal = first.0;
            first = first.1;
            holds =
                refusal_holds (with_guest stops.now (guest_at guests i) c)
                (new_leaf_is stops.now now (guest_at guests i) c stops.fault.0 there) first.0 first.1;
          };
    }

fault_means : (sys : SystemView) → IsSystem sys → (guests : List PartView) (fault : PlaceFault)
    → IsPlaceFault sys guests fault → MeansOfPlaces sys guests (place_status fault) (place_fault_text sys guests fault)
fault_means sys is guests (Refused (Overfull node short)) h =
    inl (record {
      node = node;
      short = short;
      told = refl;
      first = h.fails;
      holds = refusal_holds sys is (Overfull node short) h.fails;
    })
fault_means sys is guests (Refused (TooWide node)) h = tt
fault_means sys is guests (Refused NoRefusal) h = tt
fault_means sys is guests (BadGuest i) h = record { guest = i; told = refl; stops = h.fails; none = h.none }
fault_means sys is guests (Unplaced i) h = inr (unplaced_means sys is guests i h.refused)
fault_means sys is guests NoMemory h = tt

places_means : (sys : SystemView) → IsSystem sys → (guests : List PartView) (status : Status) (text : List ℕ)
    → PlacesGuests sys guests status text → MeansOfPlaces sys guests status text
places_means sys is guests status text h = elim h [
  | inl a ↦ (let placed : IsSystem a.value = (read_is_spelled text a.value a.said.reads_back).system in
      let budgets = a.gives.admitted.0 in
      subst (λ (s : Status). MeansOfPlaces sys guests s text) (sym a.said.is_yes)
      (record {
        placed = a.value;
        read = a.said.reads_back;
        is = a.gives.is;
        budgets = budgets;
        admitted = a.gives.admitted.1;
        no_loss = admitted_no_loss a.value placed budgets a.gives.admitted.1;
        each_node = admitted_keeping a.value placed budgets a.gives.admitted.1;
        tight = admitted_tight a.value placed budgets a.gives.admitted.1;
      }))
  | inr a ↦
      subst (λ (s : Status). MeansOfPlaces sys guests s text) (sym a.status_is)
      (subst (MeansOfPlaces sys guests (place_status a.refusal)) (sym a.told)
      (fault_means sys is guests a.refusal a.refuses))
]

places_read : JudgesRead (λ sys. guesting) PlacesGuests
places_read = record {
  decided = λ sys. guesting_decided;
  bad_file = λ sys bytes fault. refl;
  one =
      λ sys is guests. one_attempt (placing sys guests) IsSystemText (placing_decided sys is guests)
      (λ placed gives. one_text placed);
  judged = λ sys guests. places_status IsJudged tt tt tt sys guests (λ i stops. tt);
}

place_means : (contents : Contents) (status : Status) (text : List ℕ) → OnTwoFiles contents Places status text
    → PlaceMeans contents status text
place_means contents status text h = λ sys guests spelled.
    places_means sys (is_spelled_system contents sys _ spelled) guests status text
    (said_of_read (λ sys. guesting) PlacesGuests places_read contents sys guests status text spelled h)

-- how it ends
placing_ends : (contents : Contents) (status : Status) (text : List ℕ)
    → AreReadable contents (λ sys bytes. GivesSome (guesting bytes)) → OnTwoFiles contents Places status text
    → EndsPlacing contents status
placing_ends contents status text can h =
    let read = can.spelled.second in
    let spelled : SpellsSystem contents can.sys (λ bytes. SpellsGuests (records_of bytes) read.good.value)
    = record {
      first = can.spelled.first;
      second = record { bytes = read.bytes; there = read.there; short = read.short; good = read.good.gives };
    } in
    places_status (EndsPlacing contents) tt tt tt can.sys read.good.value
    (λ i stops. record { sys = can.sys; guests = read.good.value; spelled = spelled; guest = i; stops = stops })
    status text
    (said_of_read (λ sys. guesting) PlacesGuests places_read contents can.sys read.good.value status text spelled h)

pub place_laws : (file guests : List ℕ) → CommandLaws (the_place file guests)
place_laws file guests =
    let laws = read_laws file guests (λ sys. guesting) PlacesGuests PlaceMeans (λ contents status. ⊤) places_read
    (record {
      means = place_means;
      verdict = λ contents sys spelled gs status text said. tt;
      no_memory = λ contents. tt;
    }) in
    record {
      one_answer = laws.one_answer;
      means = laws.means;
      of_job = laws.of_job;
      verdict = placing_ends;
      no_memory = λ contents. tt;
      without_file = laws.without_file;
    }
