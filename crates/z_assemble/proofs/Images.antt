-- What a text stands for is an image.
use Rattle.std.proofs.Common.{◌≡◌, ◌≢◌, ℕ, ◌+◌, ◌/◌, ◌%◌, ◌<◌, ◌≤◌, true, false, List, length, get_or}
use Rattle.std.proofs.Common.{replicate, Some, None, refl, sym, ap, ◌∙◌, subst, arith, inl, inr, ◌==◌, lit≤}
use Rattle.std.proofs.Common.{lit<, eq-eqb}
use Rattle.std.specs.Prelude.{All, IsTrue, ◌↔◌}
use Rattle.std.specs.FinSet.{contains, empty}
use Rattle.std.proofs.lemmas.Bool.{false≢true, and_parts, eqb-true, false_from_ne_true}
use Rattle.std.proofs.lemmas.List.{length-replicate}
use Rattle.std.proofs.lemmas.List.Elements.{All-nil, All-replicate, All-from_get_or, All-weaker}
use Rattle.z_regs.specs.Cpu.{Cpu, started}
use Rattle.z_regs.specs.Prefix.{is_prefix}
use Rattle.tx_journal.specs.Content.{Content}
use Rattle.tx_journal.specs.Image.{IsImage, IsStarting, AreApart, IsShown, HasReading, HoldsText, HasFreeArea}
use Rattle.tx_journal.specs.Image.{length_at, cpu_of_event}
use Rattle.tx_journal.proofs.Examples.{usual_allowed}
use Rattle.z_reading.specs.Listing.{Plan, Task}
use Rattle.z_setup.specs.Machine.{Machine}
use Rattle.z_reading.specs.Text.{lines_of}
use Rattle.z_assemble.specs.Whole.{Stands, ready, ready_for, known_in, image_of, places_from, pages_with}
use Rattle.z_assemble.specs.Whole.{Second}
use Rattle.z_operands.specs.declared.operation.Operation.{Operation}
use Rattle.z_operands.specs.declared.operation.Operation.TheVariants as operations
use Rattle.z_assemble.proofs.Codes.{IsCoded, coded, stays, keeps_size}
use Rattle.z_assemble.proofs.Machines.{IsMachine, IsClear, all_keep}
use Rattle.z_assemble.proofs.Plans.{IsPlan, IsWithin, IsInRoom, Places, PlacesAt, first_fits}
use Rattle.z_assemble.proofs.Texts.{IsText, begun_text, starts_rise, start_marked, page_there, page_from}
use Rattle.z_assemble.proofs.Texts.{none_empty}

-- ---- what the second reading starts from

starts_well : IsStarting (started 0)
starts_well = record {
  address = lit< tt;
  runs = refl;
  code = refl;
  mask = refl;
  access = refl;
  prefix = refl;
}

no_prefix : (some other : Cpu) → some.prefix ≡ None → AreApart some other
no_prefix some other n p e f = absurd (cc)

no_area : (tasks : List Task) (c : Cpu) → c.prefix ≡ None → IsClear tasks c
no_area tasks c n p e = absurd (cc)

ready_holds : (tasks : List Task) (storage : List ℕ) (n : ℕ) → IsMachine tasks n (ready_for storage n)
unfolding ready_for
ready_holds tasks storage n =
    let none : All (λ c. c.prefix ≡ None) (replicate n (started 0)) =
    All-replicate (λ (c : Cpu). c.prefix ≡ None) n (started 0) refl in
    let size : length (replicate n (started 0)) ≡ n = length-replicate n (started 0) in
    record {
      cpus = record {
        count_is = size;
        starting = All-replicate IsStarting n (started 0) starts_well;
        apart = λ i j d l h. no_prefix (get_or (replicate n (started 0)) i d)
            (get_or (replicate n (started 0)) j d) (none i d (omega arith));
        clear = All-weaker (λ (c : Cpu). c.prefix ≡ None) (IsClear tasks) (no_area tasks)
            (replicate n (started 0)) none;
      };
      shows = record { each = All-nil IsShown; count = lit≤ tt; bytes = lit≤ tt };
      events = record { few = lit≤ tt; known = All-nil _ };
      allowed = usual_allowed;
    }

pub ready_storage : (storage : List ℕ) (n : ℕ) → (ready_for storage n).storage ≡ storage
unfolding ready_for
ready_storage storage n = refl

-- ---- storage

no_low_byte : (here : ℕ) (op : Operation) (k : ℕ) → IsInRoom here op → k < 8192 → PlacesAt here op k → ⊥
no_low_byte here (operations.Instruction row mask) k room l p = absurd (omega (arith, room.0, p.0))
no_low_byte here _ k room l p = p

-- what both readings leave
pub record AreRead (p : Plan) (m : Machine) : Type 0 where
  pub plan : IsPlan p
  pub machine : IsMachine p.tasks p.cpus m
  pub size : length m.storage ≡ 1048576
  pub low : (k : ℕ) → k < 8192 → get_or m.storage k 0 ≡ 0
  pub coded : All (IsCoded m.storage) p.tasks

pub are_read : (p : Plan) (m : Machine) → IsPlan p → Second (known_in p) p.tasks (ready p) m → AreRead p m
are_read p m i h =
    let same = ready_storage p.storage p.cpus in
    let size : length (ready p).storage ≡ 1048576 = ap length same ∙ i.size in
    record {
      plan = i;
      machine = all_keep (known_in p) p.cpus p.tasks (ready p) m h (ready_holds p.tasks p.storage p.cpus);
      size = keeps_size (known_in p) p.tasks (ready p) m h i.within size;
      low = λ k l.
          stays (known_in p) p.tasks (ready p) m h i.within size k
          (All-weaker IsWithin (λ t. Places t k → ⊥)
          (λ t w. no_low_byte t.here t.operation k w.room l) p.tasks i.within)
          ∙ ap (λ s. get_or s k 0) same ∙ i.low k l;
      coded = coded (known_in p) p.tasks (ready p) m h i.within i.apart size;
    }

-- ---- instructions

text_of : (p : Plan) (m : Machine) → AreRead p m → (i : ℕ) → i < length (places_from 0 p.begins) →
    IsText m.storage p.tasks (get_or (places_from 0 p.begins) i 0)
text_of p m r i h = begun_text m.storage p.tasks (get_or
    (places_from 0 p.begins) i 0) r.plan.within r.coded r.size (r.plan.marks _ (start_marked p.begins i h))

held : (p : Plan) (m : Machine) → AreRead p m → (page : ℕ) →
    IsTrue (contains (pages_with m.storage (places_from 0 p.begins) empty) page) ↔ HoldsText m.storage
    (places_from 0 p.begins) page
held p m r page =
    let starts = places_from 0 p.begins in (
      λ h. elim (page_from m.storage starts empty page h) [ inl e ↦ absurd (none_empty page e) | inr t ↦ t ],
      λ t. page_there m.storage starts empty page (λ i l. (text_of p m r i l).high) t.index t.within t.byte,
    )

-- ---- areas

boundary : (first : ℕ) → is_prefix (Some first) ≡ true → first % 8192 ≡ 0
boundary first h = let p = and_parts _ _ h in eqb-true _ _ p.0

area_free : (p : Plan) (m : Machine) → AreRead p m → (c : Cpu) → IsStarting c → IsClear p.tasks c →
    HasFreeArea (pages_with m.storage (places_from 0 p.begins) empty) c
area_free p m r c s clear page a =
    false_from_ne_true (contains (pages_with m.storage (places_from 0 p.begins) empty) page) (λ e.
    let t = (held p m r page).0 e in
    let start = get_or (places_from 0 p.begins) t.index 0 in
    let k : ℕ = t.byte.0 in
    let short : k < length_at m.storage start = t.byte.1 in
    let at : (start + k) / 4096 ≡ page = t.byte.2 in
    let first : ℕ = a.first in
    let edge : first % 8192 ≡ 0 = boundary first (subst (λ q. is_prefix q ≡ true) a.begins s.prefix) in
    let low : first / 4096 ≤ page = a.low in
    let high : page < (first + 8192) / 4096 = a.high in
    let below : start < first + 8192 = omega arith in
    let above : first < start + length_at m.storage start = omega arith in
    (text_of p m r t.index t.within).clear first (clear first a.begins) below above)

-- ---- the image

image_holds : (p : Plan) (m : Machine) → (p.cpus == 0) ≡ false → AreRead p m → IsImage (image_of p.begins m)
unfolding image_of
image_holds p m some r =
    let starts = places_from 0 p.begins in
    let guard = pages_with m.storage starts empty in
    let cpus = r.machine.cpus in
    let count : length m.cpus ≡ p.cpus = cpus.count_is in
    let few : p.cpus ≤ 16 = r.plan.cpus_few in
    let there : p.cpus ≢ 0 = λ e. false≢true (sym some ∙ eq-eqb p.cpus 0 e) in
    record {
      size = r.size;
      low = r.low;
      rising = starts_rise p.begins;
      readings = All-from_get_or (HasReading m.storage) starts 0 (λ i l. (text_of p m r i l).reading);
      text = held p m r;
      some_cpu = omega arith;
      few_cpus = omega arith;
      starting = cpus.starting;
      apart = cpus.apart;
      free = λ i d l. area_free p m r (get_or m.cpus i d) (cpus.starting i d l) (cpus.clear i d l);
      shown = r.machine.shows.each;
      few_shows = r.machine.shows.count;
      few_shown = r.machine.shows.bytes;
      few_events = r.machine.events.few;
      known = λ i d l. subst (λ n. cpu_of_event (get_or m.schedule i d) < n) (sym count)
          (r.machine.events.known i d l);
      allowed = r.machine.allowed;
    }

pub stands_for_image : (text : List ℕ) (content : Content) → Stands text content → IsImage content
stands_for_image text content s =
    subst IsImage (sym s.is) (image_holds s.plan s.machine s.some
    (are_read s.plan s.machine (first_fits 1 (lines_of text) s.plan s.first) s.second))
