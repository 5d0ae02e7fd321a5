-- What a change of one CPU and of the lines changes of what is kept.
use Rattle.std.proofs.Common.{◌≡◌, ℕ, ◌<◌, ◌≤◌, false, List, [], None, length, get_or, set}
use Rattle.std.proofs.Common.{sym, ap, subst, ◌∙◌, arith}
use Rattle.std.specs.Prelude.{nat_lt}
use Rattle.std.proofs.lemmas.List.{get_or_default}
use Rattle.tx_ladder.specs.Parameters.{usual}
use Rattle.tx_ladder.specs.Rungs.{Standing, fresh, after_conflict}
use Rattle.tx_control.specs.declared.causes.Why.{Why}
use Rattle.tx_serial.specs.Flat.{at_put}
use Rattle.tx_serial.specs.History.{no_cpu}
use Rattle.z_regs.specs.declared.ranges.Range.{Range}
use Rattle.z_instr.specs.declared.instr.Instr.{Instr}
use Rattle.tx_control.specs.declared.exceptions.Exception.{Exception}
use Rattle.tx_progress.specs.Local.{Local, Beside, aborted, block_stored, interruption_taken}
use Rattle.tx_progress.specs.Doing.{executed, stopped}
use Rattle.tx_lines.specs.Parts.{local_of}
use Rattle.tx_lines.specs.Owned.{Owned, storage_in, holders_in, with_lines}
use Rattle.tx_meaning.specs.State.{Numbers, is_live}
use Rattle.tx_keeping.specs.Kept.{Kept, beside}
use Rattle.tx_works.specs.declared.slot.Tally.{Tally}
use Rattle.tx_works.specs.Works.{Seat, Works, numbers_of, seats_of, kept_by}
use Rattle.tx_works.specs.Ready.{IsCounted}
use Rattle.tx_works.specs.Steps.{k_left, k_raised}
use Rattle.tx_works.proofs.Told.{block-counted, taken-counted, stopped-counted}
use Rattle.tx_works.proofs.Own.{completed-most}
use Rattle.tx_works.proofs.Tables.{each, list_put, read_of_put, put_as_is}

-- a seat, where no other is at hand
pub no_seat : Seat
no_seat = record {
  cpu = record {
    image = no_cpu;
    saved = no_cpu;
    attempt = record {
      nest = [];
      footprint = record { fetched = []; stored = []; blocks = [] };
      constraint = None;
      stores = record { blocks = []; bytes = []; marks = []; values = []; value_marks = [] };
      count = 0;
      resumes_at = 0;
    };
    pending = None;
    waiting = None;
  };
  ladder = fresh usual;
  tally = record { attempts = 0; delay = 0; turns = 0; asked = 0; rejected = 0 };
}

-- of what there is, a CPU's seat is this one
pub record IsAt (old now : Works) (i : ℕ) (s : Seat) : Type 0 where
  pub other : Seat
  pub view : old ≡ now
  pub known : i < length now.slots
  pub is : s ≡ get_or old.slots i other

pub seat-is : (old now : Works) (i : ℕ) (s : Seat) (rest : Seat) → IsAt old now i s
    → s ≡ seats_of rest now.slots i
seat-is old now i s rest at =
    at.is ∙ ap (λ (w : Works). get_or w.slots i at.other) at.view
    ∙ get_or_default now.slots i at.other rest at.known

known-of : (old now : Works) (i : ℕ) (s : Seat) → IsAt old now i s → i < length old.slots
known-of old now i s at = subst (λ (w : Works). i < length w.slots) (sym at.view) at.known

-- the number of completed instructions of the CPU is the one that is kept
pub live-is : (old now : Works) (i : ℕ) (s : Seat) → IsAt old now i s
    → nat_lt 0 (local_of s.cpu).attempt.count ≡ is_live (kept_by no_seat now).state i
live-is old now i s at =
    ap (λ (s : Seat). nat_lt 0 (local_of s.cpu).attempt.count) (seat-is old now i s no_seat at)

-- ---- another seat, and other lines

seats_put : (rest : Seat) (slots : List Seat) (i : ℕ) (t : Seat) → i < length slots
    → seats_of rest (set slots i t) ≡ at_put (seats_of rest slots) i t
seats_put rest slots i t known = list_put rest slots i t known

abbrev put_in : ℕ → Numbers → Local → Standing → Owned → Kept → Kept
put_in i n l st lines k = record {
  state = record (k.state) { held = holders_in lines; numbers = at_put k.state.numbers i n };
  storage = storage_in lines;
  locals = at_put k.locals i l;
  standings = at_put k.standings i st;
}

pub put-is : (rest : Seat) (old : Works) (i : ℕ) (t : Seat) (lines : Owned) → i < length old.slots
    → kept_by rest (record old { slots = set old.slots i t; lines = lines })
    ≡ put_in i (numbers_of t) (local_of t.cpu) t.ladder lines (kept_by rest old)
put-is rest old i t lines known =
    let seats = seats_of rest old.slots in
    let put = seats_put rest old.slots i t known in
    let numbers = ap (each numbers_of) put ∙ read_of_put numbers_of seats i t in
    let locals = ap (each (λ (s : Seat). local_of s.cpu)) put
    ∙ read_of_put (λ (s : Seat). local_of s.cpu) seats i t in
    let standings = ap (each (λ (s : Seat). s.ladder)) put ∙ read_of_put (λ (s : Seat). s.ladder) seats i t in
    λ x. record {
      state = record ((kept_by rest old).state) { held = holders_in lines; numbers = numbers x };
      storage = storage_in lines;
      locals = locals x;
      standings = standings x;
    }

-- ---- the CPU is left so

left-old : (rest : Seat) (old : Works) (i : ℕ) (s t : Seat) (lines : Owned) (b : Beside) → i < length
    old.slots
    → s ≡ seats_of rest old.slots i → t.ladder ≡ s.ladder → t.tally ≡ s.tally → with_lines t.cpu lines ≡ b
    → holders_in lines ≡ holders_in old.lines
    → kept_by rest (record old { slots = set old.slots i t; lines = lines }) ≡ k_left i b (kept_by rest old)
left-old rest old i s t lines b known is ladder tally after held =
    let k = kept_by rest old in
    let stands : t.ladder ≡ k.standings i = ladder ∙ ap (λ (s : Seat). s.ladder) is in
    let counts : t.tally ≡ (seats_of rest old.slots i).tally = tally ∙ ap (λ (s : Seat). s.tally) is in
    let same : at_put k.standings i t.ladder ≡ k.standings = put_as_is k.standings i t.ladder stands in
    put-is rest old i t lines known
    ∙ (λ x. record {
      state = record (k.state) {
        held = held x;
        numbers = at_put k.state.numbers i (record {
          completed = (after x).local.attempt.count;
          attempts = (counts x).attempts;
          given = (stands x).rejects_given;
          refused = (stands x).requests_rejected;
          delay = (counts x).delay;
          turns = (counts x).turns;
          asked = (counts x).asked;
          rejected = (counts x).rejected;
        });
      };
      storage = (after x).storage;
      locals = at_put k.locals i (after x).local;
      standings = same x;
    })

-- by something that is made of it and of storage
pub left-is : (rest : Seat) (old now : Works) (i : ℕ) (s t : Seat) (lines : Owned) (f : Beside → Beside)
    → IsAt old now i s → t.ladder ≡ s.ladder → t.tally ≡ s.tally
    → with_lines t.cpu lines ≡ f (with_lines s.cpu old.lines) → holders_in lines ≡ holders_in old.lines
    → kept_by rest (record old { slots = set old.slots i t; lines = lines })
    ≡ k_left i (f (beside (kept_by rest now) i)) (kept_by rest now)
left-is rest old now i s t lines f at ladder tally after held =
    let is : s ≡ seats_of rest old.slots i =
    seat-is old now i s rest at ∙ ap (λ (w : Works). seats_of rest w.slots i) (sym at.view) in
    left-old rest old i s t lines (f (with_lines s.cpu old.lines)) (known-of old now i s at) is ladder tally
    after
    held
    ∙ (λ x. k_left i (f (record { local = local_of (is x).cpu; storage = storage_in old.lines }))
    (kept_by rest old))
    ∙ ap (λ (w : Works). k_left i (f (beside (kept_by rest w) i)) (kept_by rest w)) at.view

-- ---- its ladder is raised

raised-old : (rest : Seat) (old : Works) (i : ℕ) (s : Seat) (l : Standing) → i < length old.slots
    → s ≡ seats_of rest old.slots i → l ≡ after_conflict s.ladder
    → kept_by rest (record old { slots = set old.slots i (record s { ladder = l }) })
    ≡ k_raised i (kept_by rest old)
raised-old rest old i s l known is ladder =
    let k = kept_by rest old in
    let same : at_put k.locals i (local_of s.cpu) ≡ k.locals =
    put_as_is k.locals i (local_of s.cpu) (ap (λ (s : Seat). local_of s.cpu) is) in
    let stands : l ≡ after_conflict (k.standings i) = ladder ∙ ap (λ (s : Seat). after_conflict s.ladder) is
    in
    let numbers : at_put k.state.numbers i (numbers_of (record s { ladder = l })) ≡ k.state.numbers =
    put_as_is k.state.numbers i (numbers_of (record s { ladder = l }))
    (ap (λ (l : Standing). numbers_of (record s { ladder = l })) ladder ∙ ap numbers_of is) in
    put-is rest old i (record s { ladder = l }) old.lines known
    ∙ (λ x. record {
      state = record (k.state) { numbers = numbers x };
      storage = k.storage;
      locals = same x;
      standings = at_put k.standings i (stands x);
    })

pub raised-is : (rest : Seat) (old now : Works) (i : ℕ) (s : Seat) (l : Standing) → IsAt old now i s
    → l ≡ after_conflict s.ladder
    → kept_by rest (record old { slots = set old.slots i (record s { ladder = l }) })
    ≡ k_raised i (kept_by rest now)
raised-is rest old now i s l at ladder =
    let is : s ≡ seats_of rest old.slots i =
    seat-is old now i s rest at ∙ ap (λ (w : Works). seats_of rest w.slots i) (sym at.view) in
    raised-old rest old i s l (known-of old now i s at) is ladder
    ∙ ap (λ (w : Works). k_raised i (kept_by rest w)) at.view

-- ---- counts

pub counted-again : (s t : Seat) → IsCounted s → t.tally ≡ s.tally
    → (local_of t.cpu).attempt.count ≤ s.tally.turns → IsCounted t
counted-again s t c tally completed =
    let again : IsCounted (record t { tally = s.tally }) =
    record {
      turns = c.turns;
      attempts = c.attempts;
      completed = completed;
      asked = c.asked;
      rejected = c.rejected;
    } in
    subst (λ (y : Tally). IsCounted (record t { tally = y })) (sym tally) again

pub aborted-counted : (s t : Seat) (lines after : Owned) (why : Why) (at : ℕ) → IsCounted s
    → t.tally ≡ s.tally → with_lines t.cpu after ≡ aborted why at (with_lines s.cpu lines) → IsCounted t
unfolding aborted
aborted-counted s t lines after why at c tally left =
    let none : (local_of t.cpu).attempt.count ≡ 0 = ap (λ (b : Beside). b.local.attempt.count) left in
    counted-again s t c tally (omega arith)

pub left-counted : (s t : Seat) (after : Owned) (b : Beside) → IsCounted s → t.tally ≡ s.tally
    → with_lines t.cpu after ≡ b → b.local.attempt.count ≤ s.tally.turns → IsCounted t
left-counted s t after b c tally left few =
    let same : (local_of t.cpu).attempt.count ≡ b.local.attempt.count =
    ap (λ (b : Beside). b.local.attempt.count) left in
    counted-again s t c tally (omega arith)

pub stored-counted : (s t : Seat) (lines after : Owned) → IsCounted s → t.tally ≡ s.tally
    → with_lines t.cpu after ≡ block_stored (with_lines s.cpu lines) → IsCounted t
stored-counted s t lines after c tally left =
    let same = block-counted (with_lines s.cpu lines) in
    let few = c.completed in
    left-counted s t after (block_stored (with_lines s.cpu lines)) c tally left (omega arith)

pub interrupted-counted : (s t : Seat) (lines after : Owned) → IsCounted s → t.tally ≡ s.tally
    → nat_lt 0 (local_of s.cpu).attempt.count ≡ false
    → with_lines t.cpu after ≡ interruption_taken (with_lines s.cpu lines) → IsCounted t
interrupted-counted s t lines after c tally rests left =
    let same = taken-counted (with_lines s.cpu lines) rests in
    let few = c.completed in
    left-counted s t after (interruption_taken (with_lines s.cpu lines)) c tally left (omega arith)

pub halted-counted : (s t : Seat) (e : Exception) → IsCounted s → t.tally ≡ s.tally
    → nat_lt 0 (local_of s.cpu).attempt.count ≡ false → local_of t.cpu ≡ stopped e (local_of s.cpu) →
    IsCounted t
halted-counted s t e c tally rests left =
    let same = stopped-counted e (local_of s.cpu) rests in
    let now : (local_of t.cpu).attempt.count ≡ (stopped e (local_of s.cpu)).attempt.count =
    ap (λ (l : Local). l.attempt.count) left in
    let few = c.completed in
    counted-again s t c tally (omega arith)

pub executed-counted : (s t : Seat) (i : Instr) (need : List Range) (lines after : Owned) → IsCounted s
    → t.tally ≡ s.tally → (local_of s.cpu).attempt.count < s.tally.turns
    → with_lines t.cpu after ≡ (executed i need (with_lines s.cpu lines)).after → IsCounted t
executed-counted s t i need lines after c tally room left =
    let most = completed-most i need (with_lines s.cpu lines) in
    left-counted s t after (executed i need (with_lines s.cpu lines)).after c tally left (omega arith)

-- the CPU with storage is what is kept of it
pub beside-is : (rest : Seat) (old now : Works) (i : ℕ) (s : Seat) → IsAt old now i s
    → with_lines s.cpu old.lines ≡ beside (kept_by rest now) i
beside-is rest old now i s at =
    (λ x. record { local = local_of (seat-is old now i s rest at x).cpu; storage = storage_in old.lines })
    ∙ (λ x. record {
      local = local_of (seats_of rest now.slots i).cpu;
      storage = storage_in (at.view x).lines;
    })
