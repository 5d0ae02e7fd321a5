-- Worked values of what holds of every image. The greatest numbers stand here as numbers, and not as lists
-- that compute.
use Rattle.std.proofs.Common.{◌≡◌, ℕ, ◌<◌, ◌≤◌, ◌*◌, ◌+◌, true, false, IsTrue, List, [], ◌∷◌, length, get_or}
use Rattle.std.proofs.Common.{slice_index, sum_by, replicate, AllPairs, Option, Some, None}
use Rattle.std.proofs.Common.{arith, refl, sym, ap, ◌∙◌, subst}
use Rattle.std.proofs.lemmas.List.Elements.{All-nil, All-replicate}
use Rattle.std.proofs.lemmas.List.Folds.{sum_by-replicate}
use Rattle.std.proofs.lemmas.List.{get_or-replicate, length-replicate}
use Rattle.std.specs.FinSet.{FinSet, empty, contains, contains-empty}
use Rattle.std.specs.Ordering.{nat_cmp}
use Rattle.z_regs.specs.Cpu.{Cpu, started}
use Rattle.z_regs.specs.Prefix.{is_prefix}
use Rattle.tx_ladder.specs.Parameters.{IsAllowed, usual}
use Rattle.tx_journal.specs.declared.events.Event.TheVariants.{Turn}
use Rattle.tx_journal.specs.declared.image.Show.{Show}
use Rattle.tx_journal.specs.Content.{Content}
use Rattle.tx_journal.specs.Image.{IsImage, IsStarting, IsShown, AreApart, HasFreeArea, IsInArea}
use Rattle.tx_journal.specs.Image.{cpu_of_event}
use Rattle.std.proofs.lemmas.Option.{same_Some}

-- ---- parts of an image

-- a CPU that enters at hex 4000, with a prefix or without
abbrev pub entering : Option ℕ → Cpu
entering prefix = record (started 16384) { prefix = prefix }

pub enters : (prefix : Option ℕ) → IsTrue (is_prefix prefix) → IsStarting (entering prefix)
enters prefix may = record {
  address = omega arith;
  runs = refl;
  code = refl;
  mask = refl;
  access = refl;
  prefix = may;
}

-- bytes from the first accessible one on
abbrev pub bytes : ℕ → Show
bytes length = record { first = 8192; length = length; fields = false }

pub shown : (length : ℕ) → 0 < length → length ≤ 1040384 → IsShown (bytes length)
shown length some few = record { some = some; low = omega arith; high = omega arith; block = λ on. cc }

-- no page is a text page where there is no instruction
pub no_text : (page : ℕ) → contains (empty {R = nat_cmp}) page ≡ false
no_text page = contains-empty nat_cmp page

pub usual_allowed : IsAllowed usual
usual_allowed = record {
  reject = (omega arith, omega arith);
  firm = (omega arith, omega arith);
  late = (omega arith, omega arith);
  starve = (omega arith, omega arith);
  stop = (omega arith, omega arith);
  delay = (omega arith, omega arith);
}

-- ---- the largest image

-- no instructions, so many CPUs without a prefix, ranges of so many bytes and turns of the first CPU
large : (cpus ranges each events : ℕ) → List ℕ → Content
large cpus ranges each events storage = record {
  storage = storage;
  guard = empty;
  starts = [];
  cpus = replicate cpus (entering None);
  shows = replicate ranges (bytes each);
  schedule = replicate events (Turn 0);
  scheduled = true;
  parms = usual;
}

-- CPUs without a prefix are apart
without_prefix : (n : ℕ) → AllPairs AreApart (replicate n (entering None))
without_prefix n = λ i j d less within.
    let few : j < n = omega (arith, length-replicate n (entering None)) in
    let last : get_or (replicate n (entering None)) j d ≡ entering None =
    get_or-replicate n j (entering None) d few in
    λ p some other. let no : None ≡ Some p = ap (λ (c : Cpu). c.prefix) (sym last) ∙ other in cc

large_is : (cpus ranges each events : ℕ) (storage : List ℕ)
    → length storage ≡ 1048576 → ((k : ℕ) → slice_index storage k ≡ 0)
    → 0 < cpus → cpus ≤ 16 → ranges ≤ 64 → 0 < each → ranges * each ≤ 65536 → each ≤ 65536 → events ≤ 4194304
    → IsImage (large cpus ranges each events storage)
unfolding large
large_is cpus ranges each events storage size zero some few few_ranges one few_bytes short few_events =
    record {
      size = size;
      low = λ address below. zero address;
      rising = λ i within. absurd (omega (arith, within));
      readings = All-nil _;
      text = λ page. (λ has. let none = no_text page in cc, λ held. absurd (omega (arith, held.within)));
      some_cpu = omega (arith, length-replicate cpus (entering None));
      few_cpus = omega (arith, length-replicate cpus (entering None));
      starting = All-replicate IsStarting cpus (entering None) (enters None refl);
      apart = without_prefix cpus;
      free = All-replicate (HasFreeArea empty) cpus (entering None) (λ page inside. no_text page);
      shown = All-replicate IsShown ranges (bytes each) (shown each one (omega arith));
      few_shows = omega (arith, length-replicate ranges (bytes each));
      few_shown = omega (arith, sum_by-replicate (λ (s : Show). s.length) ranges (bytes each));
      few_events = omega (arith, length-replicate events (Turn 0));
      known =
          All-replicate (λ e. cpu_of_event e < length (replicate cpus (entering None))) events (Turn 0)
          (omega (arith, length-replicate cpus (entering None)));
      allowed = usual_allowed;
    }

-- 16 CPUs, 64 ranges with 65,536 bytes, and 4,194,304 events
largest : (storage : List ℕ) → length storage ≡ 1048576 → ((k : ℕ) → slice_index storage k ≡ 0)
    → IsImage (large 16 64 1024 4194304 storage)
largest storage size zero =
    large_is 16 64 1024 4194304 storage size zero (omega arith) (omega arith) (omega arith) (omega arith)
    (omega arith)
    (omega arith) (omega arith)

-- ---- one more of each is none

not_another_byte : (i : Content) → length i.storage ≡ 1048577 → ¬ (IsImage i)
not_another_byte i more image = omega (arith, image.size)

not_a_byte_less : (i : Content) → length i.storage ≡ 1048575 → ¬ (IsImage i)
not_a_byte_less i less image = omega (arith, image.size)

not_low_bytes : (i : Content) → slice_index i.storage 8191 ≡ 1 → ¬ (IsImage i)
not_low_bytes i one image = omega (arith, image.low 8191 (omega arith))

not_no_cpu : (i : Content) → length i.cpus ≡ 0 → ¬ (IsImage i)
not_no_cpu i none image = omega (arith, image.some_cpu)

not_seventeen_cpus : (i : Content) → length i.cpus ≡ 17 → ¬ (IsImage i)
not_seventeen_cpus i more image = omega (arith, image.few_cpus)

not_sixty_five_ranges : (i : Content) → length i.shows ≡ 65 → ¬ (IsImage i)
not_sixty_five_ranges i more image = omega (arith, image.few_shows)

not_another_byte_shown : (i : Content) → sum_by (λ s. s.length) i.shows ≡ 65537 → ¬ (IsImage i)
not_another_byte_shown i more image = omega (arith, image.few_shown)

not_another_event : (i : Content) → length i.schedule ≡ 4194305 → ¬ (IsImage i)
not_another_event i more image = omega (arith, image.few_events)

-- ---- other parts that no image has

not_equal_starts : (i : Content) (start : ℕ) → i.starts ≡ start ∷ start ∷ [] → ¬ (IsImage i)
not_equal_starts i start twice image =
    let rising : start < start =
    (subst (λ (starts : List ℕ). (k : ℕ) → k + 1 < length starts
    → slice_index starts k < slice_index starts (k + 1))
    twice image.rising) 0 (omega arith) in
    omega arith

not_a_mask : (c : Cpu) → c.mask ≡ 1 → ¬ (IsStarting c)
not_a_mask c one starts = omega (arith, starts.mask)

not_a_condition : (c : Cpu) → c.condition ≡ 1 → ¬ (IsStarting c)
not_a_condition c one starts = omega (arith, starts.code)

not_beyond_storage : (c : Cpu) → c.address ≡ 1048576 → ¬ (IsStarting c)
not_beyond_storage c beyond starts = omega (arith, starts.address)

not_below_the_first : (s : Show) → s.first ≡ 8191 → ¬ (IsShown s)
not_below_the_first s below shown = omega (arith, shown.low)

not_past_storage : (s : Show) → s.first + s.length ≡ 1048577 → ¬ (IsShown s)
not_past_storage s past shown = omega (arith, shown.high)

not_nothing : (s : Show) → s.length ≡ 0 → ¬ (IsShown s)
not_nothing s none shown = omega (arith, shown.some)

not_a_short_block : (s : Show) → s.fields ≡ true → s.length ≡ 255 → ¬ (IsShown s)
not_a_short_block s block short shown = omega (arith, shown.block block)

-- ---- prefixes

first_and_last : (IsTrue (is_prefix (Some 8192))) × (IsTrue (is_prefix (Some 1040384)))
first_and_last = (refl, refl)

not_between_areas : is_prefix (Some 40961) ≡ false
not_between_areas = refl

not_the_same_prefix : ¬ (AreApart (entering (Some 40960)) (entering (Some 40960)))
not_the_same_prefix apart = apart 40960 refl refl

other_prefixes : AreApart (entering (Some 40960)) (entering (Some 49152))
other_prefixes p some other =
    let one : 40960 ≡ p = same_Some 40960 p some in
    let two : 49152 ≡ p = same_Some 49152 p other in
    omega arith

-- both pages of the area of hex A000 hold no instruction, and the next page may
not_text_in_an_area : (guard : FinSet nat_cmp) → contains guard 11 ≡ true
    → ¬ (HasFreeArea guard (entering (Some 40960)))
not_text_in_an_area guard has free =
    let no = free 11 (record { first = 40960; begins = refl; low = omega arith; high = omega arith }) in cc

text_beside_an_area : (page : ℕ) → IsInArea (Some 40960) page → (10 ≤ page) × (page < 12)
text_beside_an_area page inside =
    let same : 40960 ≡ inside.first = same_Some 40960 inside.first inside.begins in
    (omega (arith, inside.low), omega (arith, inside.high))
