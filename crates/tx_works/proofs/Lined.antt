-- What a CPU does once its lines are there.
use Rattle.std.proofs.Common.{
  ◌≡◌,
  ℕ,
  ◌+◌,
  ◌<◌,
  ◌≤◌,
  Bool,
  true,
  false,
  List,
  [],
  Option,
  Some,
  None,
  refl,
  sym,
  ap,
}
use Rattle.std.proofs.Common.{subst, ◌∙◌, arith, length, is_some}
use Rattle.std.specs.Prelude.{nat_lt, ◌∷◌, All}
use Rattle.std.proofs.lemmas.Bool.{and_parts}
use Rattle.z_regs.specs.declared.ranges.Range.{Range}
use Rattle.bit_set.specs.Counts.{count_below}
use Rattle.tx_control.specs.declared.causes.Why.TheVariants as why
use Rattle.tx_ladder.specs.Rungs.{is_starved}
use Rattle.tx_meaning.specs.Limits.{Setting, RunLimits}
use Rattle.z_regs.specs.Absolute.{absolute_range, absolute_ranges}
use Rattle.z_regs.specs.Prefix.{storage_size, is_prefix}
use Rattle.z_regs.specs.declared.waiting.Waiting.{Waiting}
use Rattle.tx_serial.specs.Flat.{Pending}
use Rattle.tx_serial.specs.Flat.{address_of}
use Rattle.tx_meaning.specs.Needs.{needs_of, operand_needs, block_needs, stored}
use Rattle.tx_meaning.specs.Needs.{interruption_ranges}
use Rattle.tx_meaning.specs.declared.outcome.Outcome.TheVariants.{Executed}
use Rattle.tx_keeping.specs.Asking as asking
use Rattle.tx_keeping.specs.Moves.{k_storing, k_taking}
use Rattle.tx_keeping.specs.Turn.{k_turned, k_acting}
use Rattle.tx_meaning.specs.State.{is_live}
use Rattle.tx_meaning.specs.declared.asking.Reject.{Reject}
use Rattle.tx_keeping.specs.Kept.{Kept, with_state}
use Rattle.tx_keeping.specs.Asking.{KAsked, k_get_lines}
use Rattle.tx_keeping.specs.Turn.{
  KTurned,
  k_once_given,
  k_with_lines,
  k_refused_turn,
  k_ends_by,
  next_address,
}
use Rattle.tx_works.specs.declared.acting.Turned.{Turned}
use Rattle.tx_works.specs.Asks.{is_cpu_starved}
use Rattle.tx_needs.proofs.SmallPlaces.{ranges-small, ranges-inside, accessible-places}
use Rattle.tx_works.specs.Ready.{owed, MayAsk, MayHold, MayTurn, HasTurn, IsCounted, IsInReach}
use Rattle.tx_journal.specs.Content.{Content}
use Rattle.std.proofs.lemmas.Bool.Decides.{nat_tests}
use Rattle.tx_meaning.specs.declared.outcome.Outcome.{Outcome}
use Rattle.tx_meaning.specs.declared.outcome.Outcome.TheVariants.{Delayed}
use Rattle.tx_keeping.specs.Turn.{k_idle, k_turn, k_turn_where, k_counted_turn, k_by_rules, k_external}
use Rattle.tx_journal.specs.declared.events.Event.TheVariants.{Turn}
use Rattle.tx_meaning.specs.Changes.{with_event, counting_turn}
use Rattle.tx_meaning.specs.State.{Numbers}
use Rattle.tx_meaning.proofs.Walk.{at_put_kept}
use Rattle.tx_journal.specs.declared.entries.Entry.{Entry}
use Rattle.std.specs.Prelude.{◌++◌}
use Rattle.tx_works.specs.Works.{KeepsBooks, seats_of}
use Rattle.tx_meaning.specs.Turn.{is_tick}
use Rattle.tx_works.specs.Steps.{k_counted, k_waited}
use Rattle.tx_works.specs.InTurn.{MayAct, block_awaited}
use Rattle.tx_works.specs.Turned.{turned_as}
use Rattle.tx_works.specs.Works.{Works, Seat, kept_by, IsSameSize}
use Rattle.tx_works.proofs.Seats.{no_seat}

-- the reject, or what is done then
pub given-is : (m : Setting) (i : ℕ) (places ranges : List Range) (k new : Kept) (r : Option Reject)
    (next : Kept → KTurned) (t : KTurned) → places ≡ ranges
    → ◌≡◌ {A = KAsked} (record { kept = new; reject = r }) (k_get_lines m i (needs_of places) k)
    → t ≡ k_once_given i r new next → t ≡ k_with_lines m i (needs_of ranges) k next
given-is m i places ranges k new r next t same asked told =
    told ∙ ap (λ (q : KAsked). k_once_given i q.reject q.kept next) asked
    ∙ ap (λ (p : List Range). k_with_lines m i (needs_of p) k next) same

here : (ranges : List Range) → ranges ≡ absolute_ranges None ranges
unfolding absolute_range
here [] = refl
here (r ∷ rs) = ap (λ (l : List Range). r ∷ l) (here rs)

-- without a prefix ranges stand where their addresses say
pub bare-ranges : (prefix : Option ℕ) (ranges : List Range) → prefix ≡ None → ranges ≡ absolute_ranges prefix ranges
bare-ranges prefix ranges none = here ranges ∙ ap (λ (p : Option ℕ). absolute_ranges p ranges) (sym none)

-- operands in reach are small then
pub bare-small : (prefix own : Option ℕ) (ranges : List Range) → prefix ≡ own → IsInReach own ranges
    → is_prefix prefix ≡ true → prefix ≡ None → All (λ (r : Range). r.length ≤ 256) ranges
bare-small prefix own ranges same reach ok none =
    subst (λ (rs : List Range). All (λ (r : Range). r.length ≤ 256) rs) (sym (bare-ranges prefix ranges none))
    (ranges-small prefix ranges ok
    (accessible-places own ranges reach.accessible))

-- and lie in storage
pub bare-inside : (prefix own : Option ℕ) (ranges : List Range) → prefix ≡ own → IsInReach own ranges
    → is_prefix prefix ≡ true → prefix ≡ None
    → All (λ (r : Range). r.first + r.length ≤ storage_size) ranges
bare-inside prefix own ranges same reach ok none =
    subst (λ (rs : List Range). All (λ (r : Range). r.first + r.length ≤ storage_size) rs)
    (sym (bare-ranges prefix ranges none))
    (ranges-inside prefix ranges ok (accessible-places own ranges reach.accessible))

-- nobody is asked where nothing is needed
pub nothing-got : (m : Setting) (i : ℕ) (k : Kept) (prefix : Option ℕ) (need : List Range) → length need ≡ 0
    → ◌≡◌ {A = KAsked} (record { kept = k; reject = None }) (k_get_lines m i (operand_needs prefix need) k)
unfolding needs_of asking.k_get_each
nothing-got m i k prefix [] e = refl
nothing-got m i k prefix (r ∷ rs) e = absurd (omega arith)

-- a starved attempt is aborted, and the reject is told
pub starved-is : (i : ℕ) (r : Reject) (at : ℕ) (k next : Kept) (t : Turned) → at ≡ next_address k i
    → is_cpu_starved k i ≡ true → turned_as next t ≡ k_ends_by i why.Starved at k
    → turned_as next (record t { reject = Some r }) ≡ k_refused_turn (is_cpu_starved k i) i r k
starved-is i r at k next t here starved ended =
    ap (λ (q : KTurned). record q { reject = Some r }) (ended ∙ ap (λ a. k_ends_by i why.Starved a k) here)
    ∙ ap (λ b. k_refused_turn b i r k) (sym starved)

pub starved-live : (i : ℕ) (k : Kept) → is_cpu_starved k i ≡ true → is_live k.state i ≡ true
starved-live i k starved = (and_parts (is_live k.state i) (is_starved (k.standings i)) starved).0

-- bytes of a block, where there is one
pub bytes_of : Bool → Option (List ℕ)
bytes_of true = Some []
bytes_of false = None

pub bytes-some : (b : Bool) → is_some (bytes_of b) ≡ b
unfolding bytes_of
bytes-some true = refl
bytes-some false = refl

pub no_limits : RunLimits
no_limits = record { turns = 1; tick = 0; externals = 0 }

-- there is room for one entry
pub room-left : (old new : Works) → owed new (kept_by no_seat new) ≤ owed old (kept_by no_seat old)
    → owed old (kept_by no_seat old) < old.room → IsSameSize old new → length new.history < new.room
room-left old new less room size =
    let same = size.room in
    omega arith

pub room-now : (w : Works) → owed w (kept_by no_seat w) < w.room → length w.history < w.room
room-now w room = omega arith

-- ---- what is left to do

pub block-inside : (p : Option Pending) (a : ℕ) → ((b : Pending) → p ≡ Some b → b.address + 256 ≤
    storage_size)
    → Some a ≡ address_of p → a + 256 ≤ storage_size
block-inside None a inside e = absurd (cc)
block-inside (Some b) a inside e =
    let same : a ≡ b.address = cc in
    subst (λ n. n + 256 ≤ storage_size) (sym same) (inside b refl)

pub block-holds : (i : ℕ) (k : Kept) (prefix : Option ℕ) (p : Option Pending) (a : ℕ)
    → ((b : Pending) → p ≡ Some b → MayHold i (block_needs prefix b) k)
    → Some a ≡ address_of p → MayHold i (operand_needs prefix (stored a 256 ∷ [])) k
block-holds i k prefix None a holds e = absurd (cc)
block-holds i k prefix (Some b) a holds e =
    let same : a ≡ b.address = cc in
    subst (λ n. MayHold i (operand_needs prefix (stored n 256 ∷ [])) k) (sym same) (holds b refl)

pub acting-block : (m : Setting) (i : ℕ) (k : Kept) (p : Option Pending) (w : Option Waiting) (a : ℕ)
    (t : KTurned) → Some a ≡ address_of p
    → t ≡ k_with_lines m i (operand_needs (k.locals i).attempt.cpu.prefix (stored a 256 ∷ [])) k
    (λ (t : Kept). k_turned (k_storing i t) Executed)
    → t ≡ k_acting m i k p w
acting-block m i k None w a t e told = absurd (cc)
acting-block m i k (Some b) w a t e told =
    let same : a ≡ b.address = cc in
    told ∙ ap (λ n. k_with_lines m i (operand_needs (k.locals i).attempt.cpu.prefix (stored n 256 ∷ [])) k
    (λ (t : Kept). k_turned (k_storing i t) Executed)) same

-- nothing is left to do before the next instruction
pub acting-next : (m : Setting) (i : ℕ) (k : Kept) (p : Option Pending) (w : Option Waiting) (t : KTurned)
    → p ≡ None → w ≡ None → t ≡ k_acting m i k None None → t ≡ k_acting m i k p w
acting-next m i k None None t p w told = told
acting-next m i k None (Some x) t p w told = absurd (cc)
acting-next m i k (Some b) w t p none told = absurd (cc)

-- an interruption that waits, with or without a diagnostic block as is said
pub record Awaited (waiting : Option Waiting) (block : Bool) : Type 0 where
  pub interruption : Waiting
  pub waits : waiting ≡ Some interruption
  pub same : is_some interruption.block ≡ block

pub awaited : (waiting : Option Waiting) (block : Bool) → Some block ≡ block_awaited waiting → Awaited waiting block
awaited None block e = absurd (cc)
awaited (Some w) block e = record { interruption = w; waits = refl; same = cc }

pub acting-taken : (m : Setting) (i : ℕ) (k : Kept) (p : Option Pending) (waiting : Option Waiting) (block : Bool)
    (t : KTurned) → None ≡ address_of p → Some block ≡ block_awaited waiting
    → ((bytes : Option (List ℕ)) → is_some bytes ≡ block
    → t ≡ k_with_lines m i (operand_needs (k.locals i).attempt.cpu.prefix (interruption_ranges bytes)) k
    (λ (t : Kept). k_turned (k_taking i t) Executed))
    → t ≡ k_acting m i k p waiting
acting-taken m i k None None block t none e told = absurd (cc)
acting-taken m i k None (Some w) block t none e told = told w.block (let same : is_some w.block ≡ block = cc in same)
acting-taken m i k (Some b) waiting block t none e told = absurd (cc)

pub same-ranges : (a b : Option (List ℕ)) → is_some a ≡ is_some b → interruption_ranges a ≡
    interruption_ranges b
same-ranges None None e = refl
same-ranges None (Some y) e = absurd (cc)
same-ranges (Some x) None e = absurd (cc)
same-ranges (Some x) (Some y) e = refl

-- ---- counted turns

pub has-turn : (s : Seat) → IsCounted s
    → HasTurn (record s { tally = record (s.tally) { turns = s.tally.turns + 1 } }) 128
has-turn s c =
    let attempts = c.attempts in
    let completed = c.completed in
    let asked = c.asked in
    record { attempts = omega arith; completed = omega arith; asked = omega arith }

pub same-text : (image : Content) (limits other : RunLimits) (i : ℕ) (k : Kept)
    → MayTurn (record { image = image; limits = limits }) i k
    → MayTurn (record { image = image; limits = other }) i k
same-text image limits other i k t = record {
  asks = t.asks;
  goes = t.goes;
  stores = t.stores;
  takes = t.takes;
  rests = t.rests;
  rested = t.rested;
  inside = t.inside;
  reach = t.reach;
  ends = t.ends;
  stops = t.stops;
  text = t.text;
}

pub ticked-is : (m : Setting) (k : Kept) (i : ℕ) (t : KTurned)
    → is_tick m.limits (k.state.numbers i).turns ≡ true → t ≡ k_external i k → t ≡ k_counted_turn m i k
unfolding k_counted_turn
ticked-is m k i t tick told =
    told ∙ ap (λ b. k_by_rules b (nat_lt 0 (k.state.numbers i).delay) m i k) (sym tick)

pub waited-is : (m : Setting) (k : Kept) (i : ℕ) (t : KTurned)
    → is_tick m.limits (k.state.numbers i).turns ≡ false → 0 < (k.state.numbers i).delay
    → t ≡ k_turned (k_waited i k) Delayed → t ≡ k_counted_turn m i k
unfolding k_counted_turn
waited-is m k i t tick waits told =
    let more : nat_lt 0 (k.state.numbers i).delay ≡ true = grind (arith, nat_tests, waits) in
    told ∙ ap (λ b. k_by_rules false b m i k) (sym more)
    ∙ ap (λ b. k_by_rules b (nat_lt 0 (k.state.numbers i).delay) m i k) (sym tick)

pub acted-is : (m : Setting) (k : Kept) (i : ℕ) (t : KTurned)
    → is_tick m.limits (k.state.numbers i).turns ≡ false → (k.state.numbers i).delay ≤ 0
    → t ≡ k_acting m i k (k.locals i).pending (k.locals i).waiting → t ≡ k_counted_turn m i k
unfolding k_counted_turn
acted-is m k i t tick rests told =
    let none : nat_lt 0 (k.state.numbers i).delay ≡ false = grind (arith, nat_tests, rests) in
    told ∙ ap (λ b. k_by_rules false b m i k) (sym none)
    ∙ ap (λ b. k_by_rules b (nat_lt 0 (k.state.numbers i).delay) m i k) (sym tick)

pub idled-is : (m : Setting) (k : Kept) (i : ℕ) (o : Outcome) (t : Turned) → Some o ≡ k_idle m k i
    → t ≡ record { outcome = o; reject = None } → turned_as k t ≡ k_turn m i k
unfolding k_turn
idled-is m k i o t idle plain =
    ap (turned_as k) plain ∙ ap (λ (x : Option Outcome). k_turn_where x m i k) idle

pub turned-on : (m : Setting) (k next : Kept) (i : ℕ) (t : KTurned) → k_idle m k i ≡ None
    → next ≡ k_counted i (with_state (with_event (Turn i) k.state) k) → t ≡ k_counted_turn m i next
    → t ≡ k_turn m i k
unfolding k_turn
turned-on m k next i t none counted told =
    told ∙ ap (k_counted_turn m i) counted ∙ ap (λ (x : Option Outcome). k_turn_where x m i k) (sym none)

still : (i : ℕ) (k : Kept) (x : ℕ) → is_live (counting_turn i k.state) x ≡ is_live k.state x
still i k x =
    at_put_kept (λ (n : Numbers). nat_lt 0 n.completed) k.state.numbers i
    (record (k.state.numbers i) { turns = (k.state.numbers i).turns + 1 }) refl x

-- with a turn counted, and recorded before, it may act
pub may-act : (i : ℕ) (old noted new : Works) (rest : Seat) → MayAsk (length new.slots) i (kept_by rest new)
    → owed old (kept_by rest old) < old.room → noted ≡ record old { events = old.events ++ Turn i ∷ [] }
    → kept_by rest new ≡ k_counted i (kept_by rest noted) → KeepsBooks noted new
    → HasTurn (seats_of rest new.slots i) 128 → MayAct i new rest
may-act i old noted new rest asks room note count books turn =
    let live : count_below (length new.slots) (is_live (kept_by rest new).state)
    ≡ count_below (length old.slots) (is_live (kept_by rest old).state) =
    ap (λ (q : Kept). count_below (length new.slots) (is_live q.state)) count
    ∙ (λ x. count_below (length new.slots) (λ j. still i (kept_by rest noted) j x))
    ∙ ap (λ n. count_below n (is_live (kept_by rest noted).state)) books.size.cpus
    ∙ ap (λ (w : Works). count_below (length w.slots) (is_live (kept_by rest w).state)) note in
    let history : length new.history ≡ length old.history =
    ap (λ (h : List Entry). length h) books.history ∙ ap (λ (w : Works). length w.history) note in
    let same : new.room ≡ old.room = books.size.room ∙ ap (λ (w : Works). w.room) note in
    record { asks = asks; room = omega arith; turn = turn }
