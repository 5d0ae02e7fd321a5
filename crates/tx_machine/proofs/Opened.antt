-- What is kept before anything has happened is what the machine that keeps begins with.
use Rattle.std.proofs.Common.{◌≡◌, ℕ, zero, suc, ◌+◌, ◌<◌, List, [], ◌∷◌, ◌++◌, refl, sym, ap, ◌∙◌, length, map, take}
use Rattle.std.proofs.Common.{add-one, arith, subst}
use Rattle.std.proofs.Math.Seq.{take-suc}
use Rattle.std.proofs.lemmas.List.{map-append}
use Rattle.std.specs.Prelude.{All, ◌≤◌, count_by, get_or}
use Rattle.std.proofs.Math.ListN.{length-map}
use Rattle.std.proofs.lemmas.List.Elements.{All-head, All-tail, All-push, All-nil}
use Rattle.z_regs.specs.Cpu.{Cpu, cpu_of}
use Rattle.z_regs.specs.declared.image.CpuImage.{CpuImage}
use Rattle.line_table.specs.Holders as lines
use Rattle.slot_index.specs.Slots.{slot_in}
use Rattle.store_cache.specs.Entries.{stores_of, items_of}
use Rattle.store_cache.specs.Stores.{lasting_bytes}
use Rattle.tx_ladder.specs.Parameters.{Parameters}
use Rattle.tx_serial.specs.History.{cpu_at, no_cpu, start_of}
use Rattle.tx_home.specs.Local.{Local, settled}
use Rattle.tx_home.specs.Owned.{holders_in}
use Rattle.tx_meaning.specs.Limits.{Setting}
use Rattle.tx_meaning.specs.Meaning.{IsSetting, is_external}
use Rattle.tx_meaning.specs.State.{cpus_of}
use Rattle.tx_journal.specs.Image.{cpu_of_event}
use Rattle.tx_home.specs.Kept.{kept_beginning}
use Rattle.tx_home.specs.Keeping.{keeping, keeping_from}
use Rattle.tx_machine.specs.Machine.{Stands, nobody, most_events}
use Rattle.tx_home.specs.Works.{Seat, Works, kept_by, IsFitted}
use Rattle.tx_machine.specs.Opened.{IsUnused, AreUnused, kept_of_seat}

head_of : (rest : Local) → List Local → Local
head_of rest [] = rest
head_of rest (l ∷ ls) = l

tail_of : List Local → List Local
tail_of [] = []
tail_of (l ∷ ls) = ls

no_more : (l : Local) (ls : List Local) → [] ≡ l ∷ ls → ⊥
no_more l ls e = let n : 0 ≡ suc (length ls) = ap (λ (xs : List Local). length xs) e in cc

local_at : (slots : List Seat) (cpus : List Cpu) (rest : Seat) → kept_of_seat rest ≡ settled no_cpu
    → map kept_of_seat slots ≡ map settled cpus → (i : ℕ)
    → kept_of_seat (get_or slots i rest) ≡ settled (cpu_at cpus i)
unfolding head_of tail_of
local_at [] [] rest is same i = is
local_at [] (c ∷ cs) rest is same i = absurd (no_more (settled c) (map settled cs) same)
local_at (s ∷ ss) [] rest is same i = absurd (no_more (kept_of_seat s) (map kept_of_seat ss) (sym same))
local_at (s ∷ ss) (c ∷ cs) rest is same zero = ap (head_of (settled c)) same
local_at (s ∷ ss) (c ∷ cs) rest is same (suc i) = local_at ss cs rest is (ap tail_of same) i

unused_at : (parms : Parameters) (slots : List Seat) (rest : Seat) → IsUnused parms rest
    → All (IsUnused parms) slots → (i : ℕ) → IsUnused parms (get_or slots i rest)
unused_at parms [] rest is each i = is
unused_at parms (s ∷ ss) rest is each zero = All-head (IsUnused parms) s ss each
unused_at parms (s ∷ ss) rest is each (suc i) =
    unused_at parms ss rest is (All-tail (IsUnused parms) s ss each) i

pub as_many : (parms : Parameters) (cpus : List Cpu) (slots : List Seat) → AreUnused parms cpus slots
    → length slots ≡ length cpus
as_many parms cpus slots u =
    sym (length-map slots kept_of_seat) ∙ ap length u.kept ∙ length-map cpus settled

-- lines and a queue for as many CPUs as there are fit the slots
pub fitted : {parms : Parameters} {slots : List Seat} (starts : List CpuImage) (count len lines queue : ℕ)
    → AreUnused parms (map cpu_of starts) slots → len ≡ length slots → count ≡ length (map cpu_of starts) → count ≤ 16
    → lines ≡ count → queue ≡ count → IsFitted len lines queue
fitted {parms} {slots} starts count len lines queue unused measured counted few of_lines of_queue =
    let many : length slots ≡ length (map cpu_of starts) = as_many parms (map cpu_of starts) slots unused in
    record {
      few = grind (arith, many, measured, counted, few);
      lines = grind (arith, many, measured, counted, of_lines);
      queue = grind (arith, many, measured, counted, of_queue);
    }

pub record IsAtStart (m : Setting) (w : Works) : Type 0 where
  pub slots : AreUnused m.image.parms m.image.cpus w.slots
  pub bytes : w.lines.bytes ≡ m.image.storage
  pub held : holders_in w.lines ≡ lines.nobody
  pub queue : w.queue ≡ []
  pub history : w.history ≡ []
  pub events : w.events ≡ []

nobody_rests : (m : Setting) → kept_of_seat (nobody m) ≡ settled no_cpu
unfolding stores_of lasting_bytes items_of slot_in
nobody_rests m = refl

pub begins : (m : Setting) (w : Works) → IsAtStart m w → kept_by (nobody m) w ≡ kept_beginning m
unfolding kept_beginning start_of
begins m w s i =
    let seat = λ (x : ℕ). get_or w.slots x (nobody m) in
    let unused = λ (x : ℕ). unused_at m.image.parms w.slots (nobody m) record { ladder = refl; tally = refl }
    s.slots.each x in
    let local = λ (x : ℕ). local_at w.slots m.image.cpus (nobody m) (nobody_rests m) s.slots.kept x in
    record {
      state = record {
        history = s.history i;
        events = s.events i;
        queue = s.queue i;
        held = s.held i;
        numbers = λ x. record {
          completed = (local x i).attempt.count;
          attempts = ((unused x).tally i).attempts;
          given = ((unused x).ladder i).rejects_given;
          refused = ((unused x).ladder i).requests_rejected;
          delay = ((unused x).tally i).delay;
          turns = ((unused x).tally i).turns;
          asked = ((unused x).tally i).asked;
          rejected = ((unused x).tally i).rejected;
        };
      };
      storage = λ a. get_or (s.bytes i) a 0;
      locals = λ x. local x i;
      standings = λ x. (unused x).ladder i;
    }

-- one CPU more
pub one_more_slot : (parms : Parameters) (starts : List CpuImage) (i : ℕ) (start : CpuImage) (slots : List Seat)
    (slot : Seat) → i < length starts → get_or starts i start ≡ start
    → AreUnused parms (map cpu_of (take i starts)) slots → kept_of_seat slot ≡ settled (cpu_of start)
    → IsUnused parms slot → AreUnused parms (map cpu_of (take (i + 1) starts)) (slots ++ slot ∷ [])
one_more_slot parms starts i start slots slot lt is u kept unused =
    let one : take (i + 1) starts ≡ take i starts ++ start ∷ [] =
    ap (λ n. take n starts) (add-one i) ∙ take-suc starts i start lt ∙ ap (λ x. take i starts ++ x ∷ []) is in
    let cpus : map settled (map cpu_of (take (i + 1) starts))
    ≡ map settled (map cpu_of (take i starts)) ++ settled (cpu_of start) ∷ [] =
    ap (λ l. map settled (map cpu_of l)) one
    ∙ ap (map settled) (map-append cpu_of (take i starts) (start ∷ []))
    ∙ map-append settled (map cpu_of (take i starts)) (cpu_of start ∷ []) in
    record {
      kept = map-append kept_of_seat slots (slot ∷ [])
          ∙ ap (λ l. l ++ kept_of_seat slot ∷ []) u.kept
          ∙ ap (λ k. map settled (map cpu_of (take i starts)) ++ k ∷ []) kept ∙ sym cpus;
      each = All-push (IsUnused parms) slots slot u.each unused;
    }

-- a machine that is opened
pub stands : (m : Setting) (w : Works) (most remaining : ℕ) → IsSetting m → IsAtStart m w
    → remaining ≡ m.limits.externals → most ≡ most_events m + 1 → most ≤ w.room → most ≤ w.events_room
    → Stands m w remaining
unfolding keeping_from
stands m w most remaining s start left is room events_room =
    let none : count_by is_external w.events ≡ 0 = ap (count_by is_external) start.events in
    record {
      setting = s;
      events = record {
        known = subst (All (λ e. cpu_of_event e < cpus_of m)) (sym start.events) (All-nil (λ e. cpu_of_event e < cpus_of m));
        externals = omega (arith, none);
      };
      kept = begins m w start ∙ ap (keeping m) (sym start.events);
      cpus = as_many m.image.parms m.image.cpus w.slots start.slots;
      externals = omega (arith, none, left);
      room = omega (arith, is, room);
      events_room = omega (arith, is, events_room);
    }
